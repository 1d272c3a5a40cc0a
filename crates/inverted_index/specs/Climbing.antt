-- Numbers that ascend between two others, as a test that goes over them once.
use Rattle.std.specs.Prelude.{ℕ, ◌+◌, ◌&&◌, nat_le, nat_lt, Bool, true, List, [], ◌∷◌}

-- each is below the end, at the first number or above it, and above the one before
abbrev pub climbs : ℕ → ℕ → List ℕ → Bool
climbs from end [] = true
climbs from end (n ∷ ns) = (nat_le from n && nat_lt n end) && climbs (n + 1) end ns
