-- The request that a line makes, or why it makes none.
use Rattle.std.specs.Prelude.{◌≡◌, ◌⊎◌, MatchResult, ℕ, ◌^◌, ◌<◌, ◌≤◌, not, IsTrue, IfSome, if◌then◌else◌, List, [], ◌∷◌, length, codes, Option, Some, None, Result, Ok, Err, ok_or}
use Rattle.std.specs.Str.{bytes_eq}
use Rattle.agg_model.specs.declared.entity.Entity.{Entity}
use Rattle.agg_model.specs.declared.limits.TheConstants.{KEY_MOST, VALUE_MOST}
use Rattle.agg_model.specs.Entity.{is_domain_entity}
use Rattle.agg_model.specs.Batch.{IsKey, IsValue}
use Rattle.agg_model.specs.BatchRefusals.{is_outside}
use Rattle.line_words.specs.declared.request.Request.{Request}
use Rattle.line_words.specs.declared.request.Request.TheVariants.{Tx, Put, Del, Mark, Commit, Open, Close, Latest, Asof, Range, History, Index, Settle}
use Rattle.line_words.specs.declared.request.LineError.{LineError}
use Rattle.line_words.specs.declared.request.LineError.TheVariants as errors
use Rattle.line_words.specs.declared.words.TheConstants.{PAGE_MOST}
use Rattle.line_words.specs.Words.{words_of, number_of, bytes_of_word, entity_of_word, number_end_of, key_end_of, limit_of_word, is_descending_of}

-- what the words that are left make, or a refusal
abbrev pub Form : Type 0 → Type 0
Form A = List (List ℕ) → Result A LineError

-- a step: what is made of the first words, and those that are left then
abbrev pub Step : Type 0 → Type 0
Step A = Form (A × List (List ℕ))

-- what a step gives goes into the next one, which has the words that are left; a refusal stays
abbrev pub followed_by : {A B : Type 0} → (A → Form B) → Result (A × List (List ℕ)) LineError → Result B LineError
followed_by next (Ok (a, words)) = next a words
followed_by next (Err e) = Err e

infixl 10 ◌>>=◌
abbrev pub ◌>>=◌ : {A B : Type 0} → Step A → (A → Form B) → Form B
(step >>= next) words = followed_by next (step words)

-- what a step answered is what is expected, with the words that it left, unless memory could not be had
abbrev pub Takes : {A : Type 0} → Result A LineError → List (List ℕ) → Result (A × List (List ℕ)) LineError → Type 0
Takes result left expected =
    MatchResult result (λ x. expected ≡ Ok (x, left)) (λ e. (e ≡ errors.Memory) ⊎ (expected ≡ Err e))

-- what a reader answered is what is expected, unless memory could not be had
abbrev pub Reads : {A : Type 0} → Result A LineError → Result A LineError → Type 0
Reads result expected = MatchResult result (λ x. expected ≡ Ok x) (λ e. (e ≡ errors.Memory) ⊎ (expected ≡ Err e))

-- what was read, and the words that are left
abbrev pub before : {A : Type 0} → List (List ℕ) → Result A LineError → Result (A × List (List ℕ)) LineError
before words (Ok x) = Ok (x, words)
before words (Err e) = Err e

-- the next word, as what it means
abbrev pub word : {A : Type 0} → (List ℕ → Option A) → Step A
word meaning [] = Err errors.Syntax
word meaning (first ∷ words) = before words (ok_or (meaning first) errors.Syntax)

-- no word is left
abbrev pub no_more : Step (Unit {0})
no_more [] = Ok (tt, [])
no_more (first ∷ words) = Err errors.Syntax

-- a length from 1 to `most`
abbrev pub length_fits : ℕ → List ℕ → Result (Unit {0}) LineError
length_fits most bytes = if is_outside most (length bytes) then Err (errors.Length (length bytes)) else Ok tt

-- an open end is no key
abbrev pub end_fits : Option (List ℕ) → Result (Unit {0}) LineError
end_fits None = Ok tt
end_fits (Some key) = length_fits KEY_MOST key

-- values are kept for domains alone, and marks for the other entities
abbrev pub holds_values : Entity → Result (Unit {0}) LineError
holds_values e = if is_domain_entity e then Ok tt else Err errors.Entity

abbrev pub holds_marks : Entity → Result (Unit {0}) LineError
holds_marks e = if is_domain_entity e then Err errors.Entity else Ok tt

-- what was read has to be so
abbrev pub checked : Result (Unit {0}) LineError → Step (Unit {0})
checked result words = before words result

abbrev pub makes : Request → Form Request
makes request words = Ok request

-- `commit`, `open`, `settle`
unfoldable pub bare_request : Request → Form Request
bare_request request = do
  _ ← no_more
  makes request

-- `tx N`
unfoldable pub tx_request : Form Request
tx_request = do
  n ← word number_of
  _ ← no_more
  makes (Tx n)

-- `close T`
unfoldable pub close_request : Form Request
close_request = do
  t ← word number_of
  _ ← no_more
  makes (Close t)

-- `put E K V`
unfoldable pub put_request : Form Request
put_request = do
  e ← word entity_of_word
  k ← word bytes_of_word
  v ← word bytes_of_word
  _ ← no_more
  _ ← checked (length_fits KEY_MOST k)
  _ ← checked (length_fits VALUE_MOST v)
  _ ← checked (holds_values e)
  makes (Put e k v)

-- `del E K`
unfoldable pub del_request : Form Request
del_request = do
  e ← word entity_of_word
  k ← word bytes_of_word
  _ ← no_more
  _ ← checked (length_fits KEY_MOST k)
  _ ← checked (holds_values e)
  makes (Del e k)

-- `mark E K`
unfoldable pub mark_request : Form Request
mark_request = do
  e ← word entity_of_word
  k ← word bytes_of_word
  _ ← no_more
  _ ← checked (length_fits KEY_MOST k)
  _ ← checked (holds_marks e)
  makes (Mark e k)

-- `latest T E K`
unfoldable pub latest_request : Form Request
latest_request = do
  t ← word number_of
  e ← word entity_of_word
  k ← word bytes_of_word
  _ ← no_more
  _ ← checked (length_fits KEY_MOST k)
  _ ← checked (holds_values e)
  makes (Latest t e k)

-- `asof T E N K`
unfoldable pub asof_request : Form Request
asof_request = do
  t ← word number_of
  e ← word entity_of_word
  n ← word number_of
  k ← word bytes_of_word
  _ ← no_more
  _ ← checked (length_fits KEY_MOST k)
  _ ← checked (holds_values e)
  makes (Asof t e n k)

-- `range T E N FROM TO LIMIT`
unfoldable pub range_request : Form Request
range_request = do
  t ← word number_of
  e ← word entity_of_word
  n ← word number_of
  from ← word key_end_of
  to ← word key_end_of
  limit ← word limit_of_word
  _ ← no_more
  _ ← checked (end_fits from)
  _ ← checked (end_fits to)
  _ ← checked (holds_values e)
  makes (Range t e n from to limit)

-- `history T E A B FROM LIMIT`
unfoldable pub history_request : Form Request
history_request = do
  t ← word number_of
  e ← word entity_of_word
  a ← word number_end_of
  b ← word number_end_of
  from ← word key_end_of
  limit ← word limit_of_word
  _ ← no_more
  _ ← checked (end_fits from)
  _ ← checked (holds_values e)
  makes (History t e a b from limit)

-- `index T E K A B asc LIMIT`, or with `desc`; of every entity
unfoldable pub index_request : Form Request
index_request = do
  t ← word number_of
  e ← word entity_of_word
  k ← word bytes_of_word
  a ← word number_end_of
  b ← word number_end_of
  descends ← word is_descending_of
  limit ← word limit_of_word
  _ ← no_more
  _ ← checked (length_fits KEY_MOST k)
  makes (Index t e k a b descends limit)

-- the forms of reads, each by its first word; all else is of no form
unfoldable pub read_of_words : List ℕ → Form Request
read_of_words form words =
    if bytes_eq form (codes "latest") then latest_request words
    else if bytes_eq form (codes "asof") then asof_request words
    else if bytes_eq form (codes "range") then range_request words
    else if bytes_eq form (codes "history") then history_request words
    else if bytes_eq form (codes "index") then index_request words
    else Err errors.Syntax

-- the other forms
unfoldable pub request_of_words : Form Request
request_of_words [] = Err errors.Syntax
request_of_words (form ∷ words) =
    if bytes_eq form (codes "tx") then tx_request words
    else if bytes_eq form (codes "put") then put_request words
    else if bytes_eq form (codes "del") then del_request words
    else if bytes_eq form (codes "mark") then mark_request words
    else if bytes_eq form (codes "commit") then bare_request Commit words
    else if bytes_eq form (codes "open") then bare_request Open words
    else if bytes_eq form (codes "close") then close_request words
    else if bytes_eq form (codes "settle") then bare_request Settle words
    else read_of_words form words

abbrev pub request_of : List ℕ → Result Request LineError
request_of line = request_of_words (words_of line)

abbrev pub IsNumber : ℕ → Type 0
IsNumber n = n < 2 ^ 63

-- a page has one row or number at least
pub record IsLimit (limit : ℕ) : Type 0 where
  pub from_one : 1 ≤ limit
  pub within : limit ≤ PAGE_MOST

-- numbers, limits, keys and values within their limits, and each form on its entities
abbrev pub IsRequest : Request → Type 0
IsRequest (Tx n) = IsNumber n
IsRequest (Put e k v) = IsTrue (is_domain_entity e) × IsKey k × IsValue v
IsRequest (Del e k) = IsTrue (is_domain_entity e) × IsKey k
IsRequest (Mark e k) = IsTrue (not (is_domain_entity e)) × IsKey k
IsRequest Commit = Unit {0}
IsRequest Open = Unit {0}
IsRequest (Close t) = IsNumber t
IsRequest (Latest t e k) = IsNumber t × IsTrue (is_domain_entity e) × IsKey k
IsRequest (Asof t e n k) = IsNumber t × IsTrue (is_domain_entity e) × IsNumber n × IsKey k
IsRequest (Range t e n from to limit) =
    IsNumber t × IsTrue (is_domain_entity e) × IsNumber n × IfSome from IsKey × IfSome to IsKey × IsLimit limit
IsRequest (History t e a b from limit) =
    IsNumber t × IsTrue (is_domain_entity e) × IfSome a IsNumber × IfSome b IsNumber × IfSome from IsKey × IsLimit limit
IsRequest (Index t e k a b descends limit) =
    IsNumber t × IsKey k × IfSome a IsNumber × IfSome b IsNumber × IsLimit limit
IsRequest Settle = Unit {0}
