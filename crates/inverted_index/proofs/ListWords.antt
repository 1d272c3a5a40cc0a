-- The words of lists, and what is found in them.
use Rattle.std.proofs.Common.{◌≡◌, ℕ, zero, suc, ◌+◌, ◌*◌, ◌<◌, ◌≤◌, ◌^◌, Bool, true, false, cond, nat_eq, List, [], ◌∷◌, length, get_or, map, Option, Some, None, slice_get, refl, sym, ap, ◌∙◌, arith, subst}
use Rattle.std.specs.Prelude.{IfSome, All}
use Rattle.std.specs.Option.{option_map}
use Rattle.std.specs.List.{AllByRecursion}
use Rattle.std.specs.Cmp.Lexicographic.{pointwise}
use Rattle.std.proofs.lemmas.Option.{slice_get-get_or}
use Rattle.std.proofs.lemmas.List.Elements.{All-head, All-tail}
use Rattle.std.proofs.lemmas.List.Sums.{get_or-le-sum_by, sum_by-cons}
use Rattle.agg_model.specs.declared.contents.Times.{Times}
use Rattle.agg_model.specs.Pairs.{KeysAscend}
use Rattle.elias_fano.specs.Spelling.{spelling}
use Rattle.word_file.specs.declared.tag.Tag.{Tag}
use Rattle.word_file.specs.Spelling.{TaggedWords, AreShort}
use Rattle.word_file.specs.Paired as file
use Rattle.hashed_words.specs.Hashed.{value_of, value_at}
use Rattle.hashed_words.specs.PairedWords.{paired_words, keys_of, values_of}
use Rattle.inverted_index.specs.EfFile.{IsTimes, AreLists, AreWordsOf, IsHeld, IsTextOf, TaggedLists, tagged_lists, list_keys, number_count, pair_of, words_of, lists_in, numbers_in, numbers_of}
use Rattle.hashed_words.proofs.PairedLaws.{key_count-paired_words, IsPaired-paired_words, KeysDiffer-paired_words, key_at-paired_words, value_at-paired_words}
use Rattle.inverted_index.proofs.TextLaws.{listable, text_of_numbers, numbers_in-spelling}

pub keys-pairs : (ts : List Times) → keys_of (map pair_of ts) ≡ list_keys ts
keys-pairs [] = refl
keys-pairs (t ∷ ts) = ap (λ (ks : List (List ℕ)). t.key ∷ ks) (keys-pairs ts)

length-pairs : (ts : List Times) → length (map pair_of ts) ≡ length ts
length-pairs [] = refl
length-pairs (t ∷ ts) = ap suc (length-pairs ts)

pub key_count-words_of : (ts : List Times) → file.key_count (words_of ts) ≡ length ts
key_count-words_of ts = key_count-paired_words (map pair_of ts) ∙ length-pairs ts

abbrev pub IsFew : Times → Type 0
IsFew t = length t.items < 2 ^ 23

pub few-each : (ts : List Times) → number_count ts < 2 ^ 23 → All IsFew ts
few-each ts few i d below = omega (arith, get_or-le-sum_by (λ (t : Times). length t.items) ts i d below)

-- ---- the lists are read again

pub lists_in-words_of : (tag : Tag) (ts : List Times) → All (IsTimes tag) ts → All IsFew ts → lists_in (words_of ts) ≡ ts
lists_in-words_of tag [] fit few = refl
lists_in-words_of tag (t ∷ ts) fit few =
    let small = All-head IsFew t ts few in
    let here : numbers_in (spelling t.items) ≡ t.items = numbers_in-spelling t.items (listable tag t.items (All-head (IsTimes tag) t ts fit).numbers (omega (arith, small))) in
    let rest : lists_in (words_of ts) ≡ ts = lists_in-words_of tag ts (All-tail (IsTimes tag) t ts fit) (All-tail IsFew t ts few) in
    λ i. let one : Times = record { key = t.key; items = here i } in one ∷ rest i

pub lists_again : (tag : Tag) (ts : List Times) → AreLists tag ts → lists_in (words_of ts) ≡ ts
lists_again tag ts are = lists_in-words_of tag ts are.fit (few-each ts are.few)

-- each word is short
pub short_words : (tag : Tag) (ts : List Times) → All (IsTimes tag) ts → All IsFew ts → AreShort (words_of ts)
short_words tag [] fit few = tt
short_words tag (t ∷ ts) fit few =
    let here = All-head (IsTimes tag) t ts fit in
    let text = text_of_numbers tag t.items here.numbers (All-head IsFew t ts few) in
    (omega (arith, here.key_within), (text.short, short_words tag ts (All-tail (IsTimes tag) t ts fit) (All-tail IsFew t ts few)))

-- ---- words that are those of lists

module _ (f : TaggedWords) (ts : List Times) (are : AreWordsOf f ts) where
  pub are_paired : file.IsPaired f.words
  are_paired = subst file.IsPaired (sym are.words) (IsPaired-paired_words (map pair_of ts))

  pub are_different : file.KeysDiffer f.words
  are_different =
      subst file.KeysDiffer (sym are.words)
      (KeysDiffer-paired_words (map pair_of ts) (subst KeysAscend (sym (keys-pairs ts)) are.lists.ascend))

  pub are_again : lists_in f.words ≡ ts
  are_again = ap lists_in are.words ∙ lists_again f.tag ts are.lists

  pub are_held : IsHeld f
  are_held = subst (AreWordsOf f) (sym are_again) are

  pub are_seen : tagged_lists f.tag (lists_in f.words) ≡ tagged_lists f.tag ts
  are_seen = ap (tagged_lists f.tag) are_again

  pub are_counted : file.key_count f.words ≡ length ts
  are_counted = ap file.key_count are.words ∙ key_count-words_of ts

-- ---- the numbers of a key

value_of-by : (b : Bool) (text items : List ℕ) (v n : Option (List ℕ)) → text ≡ spelling items → v ≡ option_map spelling n → cond b (Some text) v ≡ option_map spelling (cond b (Some items) n)
value_of-by true text items v n e f = ap (λ (x : List ℕ). Some x) e
value_of-by false text items v n e f = f

value_of-words_of : (ts : List Times) (k : List ℕ) → value_of (words_of ts) k ≡ option_map spelling (numbers_of ts k)
value_of-words_of [] k = refl
value_of-words_of (t ∷ ts) k =
    value_of-by (pointwise nat_eq t.key k) (spelling t.items) t.items (value_of (words_of ts) k) (numbers_of ts k) refl (value_of-words_of ts k)

abbrev IsReadable : List ℕ → Type 0
IsReadable items = IsTextOf (spelling items) items

readable-by : (b : Bool) (items : List ℕ) (n : Option (List ℕ)) → IsReadable items → IfSome n IsReadable → IfSome (cond b (Some items) n) IsReadable
readable-by true items n here rest = here
readable-by false items n here rest = rest

numbers_of-readable : (tag : Tag) (ts : List Times) (k : List ℕ) → All (IsTimes tag) ts → All IsFew ts → IfSome (numbers_of ts k) IsReadable
numbers_of-readable tag [] k fit few = tt
numbers_of-readable tag (t ∷ ts) k fit few =
    readable-by (pointwise nat_eq t.key k) t.items (numbers_of ts k)
    (text_of_numbers tag t.items (All-head (IsTimes tag) t ts fit).numbers (All-head IsFew t ts few))
    (numbers_of-readable tag ts k (All-tail (IsTimes tag) t ts fit) (All-tail IsFew t ts few))

-- the text behind a key is that of its numbers
pub record Found (ts : List Times) (k text : List ℕ) : Type 0 where
  pub items : List ℕ
  pub is : Some items ≡ numbers_of ts k
  pub text_of : IsTextOf text items

found-by : (ts : List Times) (k text : List ℕ) (o : Option (List ℕ)) → o ≡ numbers_of ts k → IfSome o IsReadable → Some text ≡ option_map spelling o → Found ts k text
found-by ts k text None is readable e = absurd cc
found-by ts k text (Some items) is readable e =
    let same : spelling items ≡ text = cc in
    record { items = items; is = is; text_of = subst (λ (x : List ℕ). IsTextOf x items) same readable }

missing-by : (o : Option (List ℕ)) → None ≡ option_map spelling o → None ≡ o
missing-by None e = refl
missing-by (Some items) e = absurd cc

module _ (f : TaggedWords) (h : IsHeld f) where
  value_is : (k : List ℕ) → value_of f.words k ≡ option_map spelling (numbers_of (lists_in f.words) k)
  value_is k = ap (λ (ws : List (List ℕ)). value_of ws k) h.words ∙ value_of-words_of (lists_in f.words) k

  pub held_found : (k text : List ℕ) → Some text ≡ value_of f.words k → Found (lists_in f.words) k text
  held_found k text e =
      let ts = lists_in f.words in
      found-by ts k text (numbers_of ts k) refl (numbers_of-readable f.tag ts k h.lists.fit (few-each ts h.lists.few)) (e ∙ value_is k)

  pub held_missing : (k : List ℕ) → None ≡ value_of f.words k → None ≡ numbers_of (lists_in f.words) k
  held_missing k e = missing-by (numbers_of (lists_in f.words) k) (e ∙ value_is k)

-- ---- the pair at a place

key-at : (ts : List Times) (place : ℕ) (d : Times) → place < length ts → get_or (list_keys ts) place [] ≡ (get_or ts place d).key
key-at [] place d h = absurd (omega arith)
key-at (t ∷ ts) zero d h = refl
key-at (t ∷ ts) (suc place) d h = key-at ts place d (omega arith)

text-at : (ts : List Times) (place : ℕ) (d : Times) → place < length ts → get_or (values_of (map pair_of ts)) place [] ≡ spelling (get_or ts place d).items
text-at [] place d h = absurd (omega arith)
text-at (t ∷ ts) zero d h = refl
text-at (t ∷ ts) (suc place) d h = text-at ts place d (omega arith)

module _ (f : TaggedWords) (h : IsHeld f) (place : ℕ) (within : place < file.key_count f.words) where
  ts : List Times
  ts = lists_in f.words

  none : Times
  none = record { key = []; items = [] }

  inside : place < length (lists_in f.words)
  inside = omega (arith, are_counted f (lists_in f.words) h)

  pub held_key : file.key_at f.words place ≡ (get_or (lists_in f.words) place (record { key = []; items = [] })).key
  held_key =
      ap (λ (ws : List (List ℕ)). file.key_at ws place) h.words ∙ key_at-paired_words (map pair_of (lists_in f.words)) place
      ∙ ap (λ (ks : List (List ℕ)). get_or ks place []) (keys-pairs (lists_in f.words)) ∙ key-at (lists_in f.words) place _ inside

  pub held_text : value_at f.words place ≡ spelling (get_or (lists_in f.words) place (record { key = []; items = [] })).items
  held_text =
      ap (λ (ws : List (List ℕ)). value_at ws place) h.words ∙ value_at-paired_words (map pair_of (lists_in f.words)) place ∙ text-at (lists_in f.words) place _ inside

  pub held_text_of : (text : List ℕ) → text ≡ value_at f.words place → IsTextOf text (get_or (lists_in f.words) place (record { key = []; items = [] })).items
  held_text_of text e =
      let t : Times = get_or (lists_in f.words) place (record { key = []; items = [] }) in
      subst (λ (x : List ℕ). IsTextOf x t.items) (sym (e ∙ held_text))
      (text_of_numbers f.tag t.items (h.lists.fit place (record { key = []; items = [] }) inside).numbers (few-each (lists_in f.words) h.lists.few place (record { key = []; items = [] }) inside))

  pub held_pair : (key items : List ℕ) → key ≡ file.key_at f.words place → items ≡ (get_or (lists_in f.words) place (record { key = []; items = [] })).items → slice_get (lists_in f.words) place ≡ Some (record { key = key; items = items })
  held_pair key items e g =
      slice_get-get_or (lists_in f.words) place (record { key = []; items = [] }) inside
      ∙ (λ i. Some (record { key = sym (e ∙ held_key) i; items = sym g i }))
