-- The pairs that are made of a walk over values.
use Rattle.std.proofs.Common.{◌≡◌, ℕ, zero, suc, ◌+◌, ◌==◌, Bool, true, false, cond, List, [], ◌∷◌, ◌++◌, map, length, append-nil, append_assoc, Option, Some, None, refl, arith, sym, ◌∙◌, ap, subst}
use Rattle.std.specs.Prelude.{All}
use Rattle.std.specs.Ordering.{nat_cmp, ordering_then}
use Rattle.std.specs.Cmp.Lexicographic.{slice_cmp}
use Rattle.std.specs.declared.cmp.Ordering.TheVariants.{Less}
use Rattle.std.specs.List.{filter}
use Rattle.std.proofs.lemmas.List.Elements.{All-nil, All-cons, All-append}
use Rattle.agg_model.specs.declared.entity.FileKind.TheVariants.{Kv}
use Rattle.agg_model.specs.declared.contents.Pair.{Pair}
use Rattle.agg_model.specs.Pairs.{IsPair, ArePairs, IsBelow, KeysAscend, pair_keys, word_in, newest_word, held_value}
use Rattle.content_laws.specs.Parts.{kept_word}
use Rattle.domain_core.specs.KvFile.{words_of}
use Rattle.domain_core.proofs.Words.{words_of-append}
use Rattle.word_file.specs.Spelling.{TaggedWords}
use Rattle.word_file.specs.Reading.{tagged}
use Rattle.history_core.specs.Befores.{order_of}
use Rattle.merge_files.specs.KeptPairs.{has_value, newest_pair, kept_pairs, ArePut}
use Rattle.merge_files.specs.Walks.{Item, word_order, IsAhead, AreBehind, WordsRise, all_keys, item_with, items_left}
use Rattle.merge_files.proofs.Ascents.{earlier-below}
use Rattle.merge_files.proofs.ItemLooks.{all_keys-rise, AreGood, InputsGood, newest-look, items-keys}
use Rattle.merge_files.proofs.Words as words

-- ---- in order

below-ahead : (k l : List ℕ) → IsAhead Kv k l → IsBelow k l
unfolding word_order order_of
below-ahead k l is = earlier-below k l [] [] is

all-below : (k : List ℕ) (ks : List (List ℕ)) → AreBehind Kv k ks → All (IsBelow k) ks
all-below k [] behind = All-nil (IsBelow k)
all-below k (l ∷ ks) behind = All-cons (IsBelow k) l ks (below-ahead k l behind.0) (all-below k ks behind.1)

pub keys-ascend : (ks : List (List ℕ)) → WordsRise Kv ks → KeysAscend ks
keys-ascend [] rise = tt
keys-ascend (k ∷ ks) rise = (all-below k ks rise.0, keys-ascend ks rise.1)

module _ (inputs : List (List Pair)) where
  newest-ascend : KeysAscend (pair_keys (map newest_pair (items_left Kv inputs)))
  newest-ascend =
      subst KeysAscend (sym (items-keys Kv inputs (all_keys Kv inputs))) (keys-ascend (all_keys Kv inputs) (all_keys-rise Kv inputs))

  good-keys : (ps : List Pair) → AreGood Kv (pair_keys ps)
  good-keys [] = tt
  good-keys (p ∷ ps) = (tt, good-keys ps)

  good-inputs : (pss : List (List Pair)) → InputsGood Kv pss
  good-inputs [] = tt
  good-inputs (ps ∷ pss) = (good-keys ps, good-inputs pss)

  ascend-by : (t : Bool) (ps : List Pair) → KeysAscend (pair_keys ps) → KeysAscend (pair_keys (cond t (filter has_value ps) ps))
  ascend-by true ps up = words.kept-ascend ps up
  ascend-by false ps up = up

  pub kept-ascend : (from : ℕ) → KeysAscend (pair_keys (kept_pairs from (items_left Kv inputs)))
  kept-ascend from = ascend-by (from == 0) (map newest_pair (items_left Kv inputs)) newest-ascend

  word-by : (t : Bool) (ps : List Pair) (k : List ℕ) → KeysAscend (pair_keys ps) → word_in (cond t (filter has_value ps) ps) k ≡ cond t (held_value (word_in ps k)) (word_in ps k)
  word-by true ps k up = words.kept-word ps up k
  word-by false ps k up = refl

  pub kept-look : (from : ℕ) (k : List ℕ) → word_in (kept_pairs from (items_left Kv inputs)) k ≡ kept_word from (newest_word inputs k)
  kept-look from k =
      word-by (from == 0) (map newest_pair (items_left Kv inputs)) k newest-ascend
      ∙ ap (kept_word from) (newest-look Kv k inputs (good-inputs inputs))

-- ---- item by item

more-by : (t u : Bool) (p : Pair) (ps : List Pair) → cond t (cond u (p ∷ filter has_value ps) (filter has_value ps)) (p ∷ ps) ≡ cond t (cond u (p ∷ []) []) (p ∷ []) ++ cond t (filter has_value ps) ps
more-by true true p ps = refl
more-by true false p ps = refl
more-by false u p ps = refl

kept-more : (from : ℕ) (i : Item) (is : List Item) → kept_pairs from (i ∷ is) ≡ kept_pairs from (i ∷ []) ++ kept_pairs from is
kept-more from i is = more-by (from == 0) (has_value (newest_pair i)) (newest_pair i) (map newest_pair is)

pub put-none : (from : ℕ) (old : TaggedWords) → ArePut old old (kept_pairs from [])
put-none from old = none-by (from == 0)
  where
    none-by : (t : Bool) → ArePut old old (cond t [] [])
    none-by true = record { words = λ i. tagged old.tag (sym (append-nil old.words) i); fit = All-nil IsPair }
    none-by false = record { words = λ i. tagged old.tag (sym (append-nil old.words) i); fit = All-nil IsPair }

put-both : (one two three : TaggedWords) (ps qs : List Pair) → ArePut one two ps → ArePut two three qs → ArePut one three (ps ++ qs)
put-both one two three ps qs first second = record {
  words = second.words ∙ (λ i. tagged (first.words i).tag ((first.words i).words ++ words_of qs))
      ∙ (λ i. tagged one.tag ((append_assoc one.words (words_of ps) (words_of qs) ∙ ap (λ ws. one.words ++ ws) (sym (words_of-append ps qs))) i));
  fit = All-append IsPair ps qs first.fit second.fit;
}

-- the items so far and those that are left, and one of these put more
pub put-more : (from : ℕ) (whole left rest : List Item) (one two three : TaggedWords) (ps : List Pair) (i : Item) → left ≡ i ∷ rest → ps ++ kept_pairs from left ≡ kept_pairs from whole
    → ArePut one two ps → ArePut two three (kept_pairs from (i ∷ [])) → ArePut one three (ps ++ kept_pairs from (i ∷ [])) × ((ps ++ kept_pairs from (i ∷ [])) ++ kept_pairs from rest ≡ kept_pairs from whole)
put-more from whole left rest one two three ps i is before first second = (
  put-both one two three ps (kept_pairs from (i ∷ [])) first second,
  append_assoc ps (kept_pairs from (i ∷ [])) (kept_pairs from rest) ∙ ap (λ qs. ps ++ qs) (sym (kept-more from i rest))
      ∙ (λ j. ps ++ kept_pairs from (sym is j)) ∙ before,
)
