-- What a look into what a file holds finds.
use Rattle.std.specs.Prelude.{◌≡◌, ℕ, ◌==◌, ◌&&◌, nat_eq, List, [], ◌∷◌, Option, Some, None, if◌then◌else◌}
use Rattle.std.specs.Ordering.{nat_cmp, ordering_then}
use Rattle.std.specs.Cmp.Lexicographic.{pointwise, slice_cmp}
use Rattle.std.specs.declared.cmp.Ordering.TheVariants.{Less}
use Rattle.agg_model.specs.declared.contents.Before.{Before}
use Rattle.agg_model.specs.declared.contents.Times.{Times}

-- the numbers of the first list with the key
abbrev pub numbers_in : List Times → List ℕ → Option (List ℕ)
numbers_in [] k = None
numbers_in (t ∷ ts) k = if pointwise nat_eq t.key k then Some t.items else numbers_in ts k

-- the word of the first row with the key and the number
abbrev pub before_in : List Before → List ℕ → ℕ → Option (List ℕ)
before_in [] k n = None
before_in (b ∷ bs) k n = if pointwise nat_eq b.key k && b.tx == n then Some b.value else before_in bs k n

-- by the bytes of the key, and then by the number
abbrev pub IsEarlier : Before → Before → Type 0
IsEarlier b c = ordering_then (slice_cmp nat_cmp b.key c.key) (nat_cmp b.tx c.tx) ≡ Less
