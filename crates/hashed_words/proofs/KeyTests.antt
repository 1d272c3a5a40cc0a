-- Keys that stand one above the other.
use Rattle.std.proofs.Common.{◌≡◌, ℕ, ◌≤◌, true, nat_le, List, [], ◌∷◌, length, get_or, Option, Some, None, refl, ap, leb-true}
use Rattle.std.specs.Prelude.{◌&&◌, All}
use Rattle.std.specs.Cmp.{first_so, second_so}
use Rattle.std.specs.Cmp.Lexicographic.{slice_cmp, nat_list_cmp_total}
use Rattle.std.specs.Ordering.{nat_cmp, is_lt}
use Rattle.std.specs.declared.cmp.Ordering.{Ordering}
use Rattle.std.specs.declared.cmp.Ordering.TheVariants.{Less, Equal, Greater}
use Rattle.std.proofs.lemmas.Bool.{and_from, le-leb}
use Rattle.std.proofs.lemmas.List.Elements.{All-nil, All-cons, All-head}
use Rattle.agg_model.specs.Pairs.{IsBelow}
use Rattle.hashed_words.specs.PlainKeys.{is_above, is_plain_key}

-- a key of 1 to 64 bytes
pub record IsShort (key : List ℕ) : Type 0 where
  pub not_empty : 1 ≤ length key
  pub within : length key ≤ 64

-- all are above this one, where there is one
abbrev pub AllAbove : Option (List ℕ) → List (List ℕ) → Type 0
AllAbove None ks = Unit {0}
AllAbove (Some last) ks = All (IsBelow last) ks

pub above_none : (last : Option (List ℕ)) → AllAbove last []
above_none None = tt
above_none (Some last) = All-nil (IsBelow last)

less : (r : Ordering) → is_lt r ≡ true → r ≡ Less
less Less e = refl
less Equal e = absurd cc
less Greater e = absurd cc

-- ---- from the test

pub plain-short : (last : Option (List ℕ)) (key : List ℕ) → is_plain_key last key ≡ true → IsShort key
plain-short last key e =
    let len = first_so (nat_le 1 (length key) && nat_le (length key) 64) (is_above last key) e in
    record {
      not_empty = leb-true 1 (length key) (first_so (nat_le 1 (length key)) (nat_le (length key) 64) len);
      within = leb-true (length key) 64 (second_so (nat_le 1 (length key)) (nat_le (length key) 64) len);
    }

above-more : (last : Option (List ℕ)) (key : List ℕ) (ks : List (List ℕ)) → is_above last key ≡ true → All (IsBelow key) ks → AllAbove last (key ∷ ks)
above-more None key ks e all = tt
above-more (Some last) key ks e all =
    let here = less (slice_cmp nat_cmp last key) e in
    All-cons (IsBelow last) key ks here (λ i z below. nat_list_cmp_total.trans last key (get_or ks i z) here (all i z below))

pub plain-above : (last : Option (List ℕ)) (key : List ℕ) (ks : List (List ℕ)) → is_plain_key last key ≡ true → All (IsBelow key) ks → AllAbove last (key ∷ ks)
plain-above last key ks e all = above-more last key ks (second_so (nat_le 1 (length key) && nat_le (length key) 64) (is_above last key) e) all

-- ---- to the test

above-test : (last : Option (List ℕ)) (key : List ℕ) (ks : List (List ℕ)) → AllAbove last (key ∷ ks) → is_above last key ≡ true
above-test None key ks all = refl
above-test (Some last) key ks all = ap is_lt (All-head (IsBelow last) key ks all)

pub plain-test : (last : Option (List ℕ)) (key : List ℕ) (ks : List (List ℕ)) → IsShort key → AllAbove last (key ∷ ks) → is_plain_key last key ≡ true
plain-test last key ks short all =
    and_from (nat_le 1 (length key) && nat_le (length key) 64) (is_above last key)
    (and_from (nat_le 1 (length key)) (nat_le (length key) 64) (le-leb 1 (length key) short.not_empty) (le-leb (length key) 64 short.within))
    (above-test last key ks all)
