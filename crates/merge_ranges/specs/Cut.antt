-- Cuts of the steps into aligned ranges, the canonical cut, and what is to be merged next.
use Rattle.std.specs.Prelude.{◌≡◌, ℕ, zero, suc, ◌+◌, ◌-◌, ◌%◌, ◌≤◌, Bool, true, not, ◌==◌, ◌&&◌, nat_lt, nat_le, List, [], ◌∷◌, ◌++◌, length, if◌then◌else◌, Option, IsTrue, find}
use Rattle.std.specs.List.{list_any}
use Rattle.agg_model.specs.declared.entity.Range.{Range}
use Rattle.agg_model.specs.declared.limits.TheConstants.{STEPS_MOST}

-- how many steps an aligned range may have, most first
abbrev pub sizes : List ℕ
sizes = 64 ∷ 32 ∷ 16 ∷ 8 ∷ 4 ∷ 2 ∷ 1 ∷ []

abbrev pub is_size : ℕ → Bool
is_size n = list_any (λ s. s == n) sizes

-- the number of steps is one of the sizes, the first step is a multiple of it, and no step is above 4,095
unfoldable pub is_aligned : Range → Bool
is_aligned r = is_size (r.to - r.from) && (r.from % (r.to - r.from) == 0) && nat_le r.to STEPS_MOST

-- adjacent aligned ranges from a step on
abbrev pub IsCutFrom : ℕ → List Range → Type 0
IsCutFrom a [] = Unit {0}
IsCutFrom a (r ∷ rs) = (r.from ≡ a) × IsTrue (is_aligned r) × IsCutFrom r.to rs

abbrev pub IsCut : List Range → Type 0
IsCut cut = IsCutFrom 0 cut

-- where ranges end that begin at a
abbrev pub end_from : ℕ → List Range → ℕ
end_from a [] = a
end_from a (r ∷ rs) = end_from r.to rs

abbrev pub end_of : List Range → ℕ
end_of cut = end_from 0 cut

-- the first of these sizes at which an aligned range from a on fits below m, or else 1
abbrev pub first_fit : ℕ → ℕ → List ℕ → ℕ
first_fit a m [] = 1
first_fit a m (s ∷ ss) = if (a % s == 0) && nat_le (a + s) m then s else first_fit a m ss

-- the size of the largest aligned range from a on that fits below m
unfoldable pub size_at : ℕ → ℕ → ℕ
size_at a m = first_fit a m sizes

-- the largest aligned range from a on that fits below m
unfoldable pub largest_at : ℕ → ℕ → Range
largest_at a m = record { from = a; to = a + size_at a m }

-- from the left always the largest aligned range that fits, at most `most` of them
abbrev pub canon_from : ℕ → ℕ → ℕ → List Range
canon_from zero a m = []
canon_from (suc most) a m = if nat_lt a m then largest_at a m ∷ canon_from most (a + size_at a m) m else []

-- the canonical cut of the steps below m
unfoldable pub canon : ℕ → List Range
canon m = canon_from m 0 m

abbrev pub same_range : Range → Range → Bool
same_range r q = (r.from == q.from) && (r.to == q.to)

abbrev pub contains_range : List Range → Range → Bool
contains_range cut r = list_any (λ q. same_range q r) cut

-- the range is the union of ranges that stand together in the cut
pub record IsUnionIn (cut : List Range) (g : Range) : Type 0 where
  pub front : List Range
  pub mid : List Range
  pub back : List Range
  pub parts : cut ≡ front ++ (mid ++ back)
  pub chain : IsCutFrom g.from mid
  pub ends : end_from g.from mid ≡ g.to
  pub several : 2 ≤ length mid

-- each of the ranges is in the cut
abbrev pub HasAll : List Range → List Range → Type 0
HasAll cut [] = Unit {0}
HasAll cut (g ∷ gs) = (contains_range cut g ≡ true) × HasAll cut gs

-- the ranges share a step
abbrev pub meets : Range → Range → Bool
meets r q = nat_lt r.from q.to && nat_lt q.from r.to

abbrev pub meets_any : List Range → Range → Bool
meets_any busy r = list_any (λ q. meets q r) busy

-- a range that isn't in the cut and meets no busy one
unfoldable pub is_to_merge : List Range → List Range → Range → Bool
is_to_merge cut busy r = not (contains_range cut r) && not (meets_any busy r)

-- the first range of the canonical cut that is to be merged
unfoldable pub next_merge_of : List Range → List Range → Option Range
next_merge_of cut busy = find (is_to_merge cut busy) (canon (end_of cut))
