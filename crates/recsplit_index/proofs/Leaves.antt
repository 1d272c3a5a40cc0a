-- The positions that the keys of a leaf have taken.
use Rattle.std.proofs.Common.{◌≡◌, ℕ, ◌+◌, ◌*◌, ◌%◌, ◌^◌, ◌<◌, Bool, true, false, eqb, not, List, [], ◌∷◌, length, map, drop, get_or, set, slice_set, refl, sym, ap, ◌∙◌, arith}
use Rattle.std.specs.Prelude.{◌&&◌, slice_index_or}
use Rattle.std.proofs.lemmas.List.{drop_more, get_or-set_other, length-set}
use Rattle.std.proofs.lemmas.Grind.{get_or-set_at}
use Rattle.std.proofs.lemmas.Bool.{eqb-true, eqb-false}
use Rattle.recsplit_index.specs.declared.keys.HashedKey.{HashedKey}
use Rattle.recsplit_index.specs.Hash.{golden, mix, scaled, position}
use Rattle.recsplit_index.specs.Nodes.{is_among, all_new, all_differ}

-- the numbers before, which are marked, and what is left of the test
pub record AreMarked (marks : List Bool) (differ : Bool) (rest all : List ℕ) : Type 0 where
  pub before : List ℕ
  pub long : length marks ≡ 8
  pub marked : (p : ℕ) → p < 8 → slice_index_or marks p false ≡ is_among p before
  pub left : (differ && all_new before rest) ≡ all_differ all

marked_more : (marks : List Bool) (x p : ℕ) (t : Bool) (before : List ℕ) → length marks ≡ 8 → x < 8 → p < 8 → eqb x p ≡ t → slice_index_or marks p false ≡ is_among p before → get_or (set marks x true) p false ≡ is_among p (x ∷ before)
marked_more marks x p true before long lt less is m =
    let same : p ≡ x = sym (eqb-true x p is) in
    rw is (get_or-set_at marks x p true false same (omega (arith, long)))
marked_more marks x p false before long lt less is m = rw is (get_or-set_other marks x p true false (λ e. eqb-false x p is (sym e)) ∙ m)

and_and : (a b c : Bool) → ((a && b) && c) ≡ (a && (b && c))
and_and true b c = refl
and_and false b c = refl

and_true : (a : Bool) → a ≡ (a && true)
and_true true = refl
and_true false = refl

-- one number more
pub one_marked : (marks : List Bool) (differ : Bool) (x : ℕ) (xs all : List ℕ) → AreMarked marks differ (x ∷ xs) all → x < 8 → AreMarked (slice_set marks x true) (differ && not (slice_index_or marks x false)) xs all
unfolding all_new
one_marked marks differ x xs all m lt = record {
  before = x ∷ m.before;
  long = length-set marks x true ∙ m.long;
  marked = λ p less. marked_more marks x p (eqb x p) m.before m.long lt less refl (m.marked p less);
  left =
      ap (λ (b : Bool). (differ && not b) && all_new (x ∷ m.before) xs) (m.marked x lt)
      ∙ and_and differ (not (is_among x m.before)) (all_new (x ∷ m.before) xs) ∙ m.left;
}

-- and none
pub all_marked : (marks : List Bool) (differ : Bool) (all : List ℕ) → AreMarked marks differ [] all → differ ≡ all_differ all
unfolding all_new
all_marked marks differ all m = and_true differ ∙ m.left

-- the next key's position
pub next_position : (f : HashedKey → ℕ) (keys : List HashedKey) (i x : ℕ) (d : HashedKey) → i < length keys → x ≡ f (get_or keys i d) → map f (drop i keys) ≡ x ∷ map f (drop (i + 1) keys)
next_position f keys i x d lt is = ap (map f) (drop_more keys i d lt) ∙ ap (λ y. y ∷ map f (drop (i + 1) keys)) (sym is)

-- a position, by what the seed adds
pub shifted : (depth seed shift places hash : ℕ) → shift ≡ golden * (2 ^ 20 * (depth + 1) + seed) % 2 ^ 64 → scaled (mix ((hash + shift) % 2 ^ 64)) places ≡ position depth seed places hash
unfolding position
shifted depth seed shift places hash is =
    let sum : (hash + shift) % 2 ^ 64 ≡ (hash + golden * (2 ^ 20 * (depth + 1) + seed)) % 2 ^ 64 = omega (arith, is) in
    ap (λ (x : ℕ). scaled (mix x) places) sum
