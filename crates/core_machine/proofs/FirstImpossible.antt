-- The first entry that isn't possible stands at one place.
use Rattle.std.proofs.Common.{◌≡◌, ℕ, zero, suc, ◌<◌, List, [], ◌∷◌, refl, ap, arith}
use Rattle.core_machine.specs.declared.entry.Entry.{Entry}
use Rattle.core_machine.specs.declared.machine.Machine.{Machine}
use Rattle.core_machine.specs.Entries.{ArePossible, IsFirstImpossible, after}

nothing-below : {p : ℕ} → p < 0 → ⊥
nothing-below h = omega (arith, h)

lower : {p n : ℕ} → suc p < suc n → p < n
lower h = omega (arith, h)

rest-first : (m : Machine) (entry : Entry) (entries : List Entry) (p : ℕ) → IsFirstImpossible m (entry ∷ entries) (suc p) → IsFirstImpossible (after m entry) entries p
rest-first m entry entries p f = record { within = lower f.within; before = f.before.1; not_there = f.not_there }

pub first-once : (m : Machine) (entries : List Entry) (p q : ℕ) → IsFirstImpossible m entries p → IsFirstImpossible m entries q → p ≡ q
first-once m [] p q f g = absurd (nothing-below f.within)
first-once m (entry ∷ entries) zero zero f g = refl
first-once m (entry ∷ entries) zero (suc q) f g = absurd (f.not_there g.before.0)
first-once m (entry ∷ entries) (suc p) zero f g = absurd (g.not_there f.before.0)
first-once m (entry ∷ entries) (suc p) (suc q) f g =
    ap suc (first-once (after m entry) entries p q (rest-first m entry entries p f) (rest-first m entry entries q g))

pub first-not-all : (m : Machine) (entries : List Entry) (p : ℕ) → IsFirstImpossible m entries p → ArePossible m entries → ⊥
first-not-all m [] p f all = nothing-below f.within
first-not-all m (entry ∷ entries) zero f all = f.not_there all.0
first-not-all m (entry ∷ entries) (suc p) f all = first-not-all (after m entry) entries p (rest-first m entry entries p f) all.1
