-- What a walk over the files of a kind gives: the key words of all of them in their order, each with its value words.
use Rattle.std.specs.Prelude.{◌≡◌, ◌≤◌, ◌<◌, ◌==◌, ℕ, Bool, true, false, List, [], ◌∷◌, length, map, take, drop, All, ⊤}
use Rattle.std.specs.Prelude.{slice_index, slice_index_or, Option, Some, None, IsSome}
use Rattle.std.specs.List.{filter_map}
use Rattle.std.specs.declared.cmp.Ordering.{Ordering}
use Rattle.std.specs.declared.cmp.Ordering.TheVariants.{Less, Equal, Greater}
use Rattle.agg_model.specs.declared.entity.FileKind.{FileKind}
use Rattle.agg_model.specs.declared.entity.FileKind.TheVariants.{Kv, Bt, Kvi, V, Vi, Ef, Efi}
use Rattle.agg_model.specs.declared.contents.Pair.{Pair}
use Rattle.agg_model.specs.declared.contents.Before.{Before}
use Rattle.agg_model.specs.declared.contents.Times.{Times}
use Rattle.agg_model.specs.Pairs.{pair_keys, word_in}
use Rattle.elias_fano.specs.Spelling.{spelling}
use Rattle.history_core.specs.Befores.{order_of}
use Rattle.history_core.specs.KeyWord.{key_word, key_in, number_in}
use Rattle.inverted_index.specs.EfFile.{IsTextOf, numbers_in}
use Rattle.collate_step.specs.Groups.{GroupFiles, pairs_of, bytes_of}
use Rattle.merge_files.specs.Adjacent.{befores_of, lists_of}

-- a key word, what it is of, and its value words, one for each input that has it, in the order of the inputs
pub record Item : Type 0 where
  pub kind : FileKind
  pub key : List ℕ
  pub words : List (List ℕ)

-- ---- what is walked

-- a walk goes over files of words, and not over their accessors
abbrev pub IsWalked : FileKind → Type 0
IsWalked Kv = ⊤
IsWalked Bt = ⊥
IsWalked Kvi = ⊥
IsWalked V = ⊤
IsWalked Vi = ⊥
IsWalked Ef = ⊤
IsWalked Efi = ⊥

-- the words of a value before a change, and of a list of numbers
abbrev pub before_pair : Before → Pair
before_pair b = record { key = key_word b.key b.tx; value = b.value }

abbrev pub times_pair : Times → Pair
times_pair t = record { key = t.key; value = spelling t.items }

-- the pairs of words of the file of this kind; a group without one has none
abbrev pub file_pairs : FileKind → GroupFiles → List Pair
file_pairs Kv g = pairs_of g
file_pairs Bt g = []
file_pairs Kvi g = []
file_pairs V g = map before_pair (befores_of g)
file_pairs Vi g = []
file_pairs Ef g = map times_pair (lists_of g)
file_pairs Efi g = []

-- ---- the order of key words: by their bytes, but those of a `.v` file by the key and then by the number

abbrev pub key_part : FileKind → List ℕ → List ℕ
key_part V word = key_in word
key_part kind word = word

abbrev pub number_part : FileKind → List ℕ → ℕ
number_part V word = number_in word
number_part kind word = 0

unfoldable pub word_order : FileKind → List ℕ → List ℕ → Ordering
word_order kind word other =
    order_of (key_part kind word) (number_part kind word) (key_part kind other) (number_part kind other)

-- ---- what is left of a walk, where these pairs are left of the inputs

-- one word more among words in their order, where it isn't there yet
abbrev pub placed : Ordering → List ℕ → List ℕ → List (List ℕ) → List (List ℕ) → List (List ℕ)
placed Less word other behind more = word ∷ other ∷ behind
placed Equal word other behind more = other ∷ behind
placed Greater word other behind more = other ∷ more

abbrev pub with_word : FileKind → List ℕ → List (List ℕ) → List (List ℕ)
with_word kind word [] = word ∷ []
with_word kind word (other ∷ behind) =
    placed (word_order kind word other) word other behind (with_word kind word behind)

abbrev pub with_keys : FileKind → List Pair → List (List ℕ) → List (List ℕ)
with_keys kind [] words = words
with_keys kind (p ∷ ps) words = with_word kind p.key (with_keys kind ps words)

-- all key words, each once, in their order
abbrev pub all_keys : FileKind → List (List Pair) → List (List ℕ)
all_keys kind [] = []
all_keys kind (pairs ∷ inputs) = with_keys kind pairs (all_keys kind inputs)

-- the value words of a key word, in the order of the inputs
abbrev pub words_with : List (List Pair) → List ℕ → List (List ℕ)
words_with inputs word = filter_map (λ pairs. word_in pairs word) inputs

abbrev pub item_with : FileKind → List (List Pair) → List ℕ → Item
item_with kind inputs word = record { kind = kind; key = word; words = words_with inputs word }

abbrev pub items_left : FileKind → List (List Pair) → List Item
items_left kind inputs = map (item_with kind inputs) (all_keys kind inputs)

-- ---- an input in its order, and a walk that gives its least word

abbrev pub IsAhead : FileKind → List ℕ → List ℕ → Type 0
IsAhead kind word other = word_order kind word other ≡ Less

-- the word is ahead of all of these
abbrev pub AreBehind : FileKind → List ℕ → List (List ℕ) → Type 0
AreBehind kind word [] = Unit {0}
AreBehind kind word (other ∷ others) = IsAhead kind word other × AreBehind kind word others

-- each word is ahead of all later ones
abbrev pub WordsRise : FileKind → List (List ℕ) → Type 0
WordsRise kind [] = Unit {0}
WordsRise kind (word ∷ words) = AreBehind kind word words × WordsRise kind words

-- a key word of a `.v` file is a key and a number
abbrev pub IsKeyWord : FileKind → List ℕ → Type 0
IsKeyWord V word = (8 ≤ length word) × (word ≡ key_word (key_in word) (number_in word))
IsKeyWord kind word = Unit {0}

-- a value word of an `.ef` file is the text of the list that it says
abbrev pub IsText : List ℕ → Type 0
IsText word = IsTextOf word (numbers_in word)

abbrev pub IsValueWord : FileKind → List ℕ → Type 0
IsValueWord kind word = kind ≡ Ef → IsText word

pub record IsWordPair (kind : FileKind) (p : Pair) : Type 0 where
  pub key : IsKeyWord kind p.key
  pub value : IsValueWord kind p.value

pub record IsInput (kind : FileKind) (pairs : List Pair) : Type 0 where
  pub rise : WordsRise kind (pair_keys pairs)
  pub fit : All (IsWordPair kind) pairs

-- where the word is the least: the input begins with it, or has it nowhere
abbrev pub Stands : FileKind → List ℕ → Bool → List Pair → Type 0
Stands kind word true [] = ⊥
Stands kind word true (p ∷ ps) = (p.key ≡ word) × AreBehind kind word (pair_keys ps)
Stands kind word false ps = AreBehind kind word (pair_keys ps)

-- what is left of the inputs once it is given, and its value words; the inputs that have it bear the turn's mark
abbrev pub behind_word : Bool → List Pair → List Pair
behind_word true ps = drop 1 ps
behind_word false ps = ps

abbrev pub word_before : Bool → List Pair → List (List ℕ) → List (List ℕ)
word_before true [] words = words
word_before true (p ∷ ps) words = p.value ∷ words
word_before false ps words = words

abbrev pub left_behind : ℕ → List ℕ → List (List Pair) → List (List Pair)
left_behind turn [] inputs = inputs
left_behind turn (m ∷ ms) [] = []
left_behind turn (m ∷ ms) (ps ∷ inputs) = behind_word (m == turn) ps ∷ left_behind turn ms inputs

abbrev pub words_given : ℕ → List ℕ → List (List Pair) → List (List ℕ)
words_given turn [] inputs = []
words_given turn (m ∷ ms) [] = []
words_given turn (m ∷ ms) (ps ∷ inputs) = word_before (m == turn) ps (words_given turn ms inputs)

-- this word is the least of the first n inputs, and those that have it bear the mark of this turn
pub record IsLeastWord (kind : FileKind) (word : List ℕ) (turn : ℕ) (marks : List ℕ) (inputs : List (List Pair)) (n : ℕ)
    : Type 0 where
  pub some : 0 < turn
  pub few : turn ≤ n
  pub marked : (i : ℕ) → i < n → slice_index marks i ≤ turn
  pub stands : (i : ℕ) → i < n → Stands kind word (slice_index marks i == turn) (slice_index_or inputs i [])
  pub there : (i : ℕ) × ((i < n) × (slice_index marks i ≡ turn))

-- the first n inputs are at their end
pub record AreAtEnd (marks : List ℕ) (inputs : List (List Pair)) (n : ℕ) : Type 0 where
  pub marked : (i : ℕ) → i < n → slice_index marks i ≤ 0
  pub ended : (i : ℕ) → i < n → slice_index_or inputs i [] ≡ []

-- the least word of the first n inputs, where there is one
abbrev pub IsLeastOf : FileKind → Option (List ℕ) → ℕ → List ℕ → List (List Pair) → ℕ → Type 0
IsLeastOf kind None turn marks inputs n = (turn ≡ 0) × AreAtEnd marks inputs n
IsLeastOf kind (Some word) turn marks inputs n = IsLeastWord kind word turn marks inputs n

-- it is a key word
abbrev pub IsKnown : FileKind → Option (List ℕ) → Type 0
IsKnown kind None = Unit {0}
IsKnown kind (Some word) = IsKeyWord kind word

-- ---- a walk, and what it gives

pub record IsItem (kind : FileKind) (words : List (List ℕ)) : Type 0 where
  pub some : 0 < length words
  pub fit : All (IsValueWord kind) words

-- each input is in order, and there is a mark and a place for a word for each
pub record IsWalk {A : Type 0} (kind : FileKind) (inputs : List (List Pair)) (marks : List ℕ) (words : List A)
    : Type 0 where
  pub ordered : All (IsInput kind) inputs
  pub marked : length marks ≡ length inputs
  pub room : length words ≡ length inputs

-- the first so many words are those of an item
pub record HasWords (kind : FileKind) (count : ℕ) (words : List (List ℕ)) : Type 0 where
  pub within : count ≤ length words
  pub item : IsItem kind (take count words)

-- they are those of the next item, which is of this key word
pub record IsGiven (kind : FileKind) (key : List ℕ) (count : ℕ) (words : List (List ℕ)) (old new : List Item)
    : Type 0 where
  pub has : HasWords kind count words
  pub left : old ≡ record { kind = kind; key = key; words = take count words } ∷ new

-- the group has the file of the kind
abbrev pub HasFile : FileKind → GroupFiles → Type 0
HasFile kind g = IsSome (bytes_of g kind)
