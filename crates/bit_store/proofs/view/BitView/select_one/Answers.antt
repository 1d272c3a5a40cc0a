use Rattle.std.proofs.Common.{◌≡◌, ◌≤◌, ◌+◌, ℕ, List, Bool, take, Option, Some, None, arith}
use Rattle.std.specs.Prelude.{IfSome, IfNone}
use Rattle.bit_store.specs.Bits.{ones_of, IsOneAt}
use Rattle.bit_store.proofs.Views.{ones_of-nil}
use Rattle.bit_store.proofs.view.BitView.select_one.Goals as goal

found : (bits : List Bool) (k : ℕ) (r : Option ℕ) → IfSome r (λ p. (0 ≤ p) × IsOneAt bits p × (ones_of (take p bits) ≡ ones_of (take 0 bits) + k)) → IfSome r (λ p. IsOneAt bits p × (ones_of (take p bits) ≡ k))
found bits k (Some p) f = (f.1, omega (arith, f.2, ones_of-nil))
found bits k None f = tt

none : (bits : List Bool) (k : ℕ) (r : Option ℕ) → IfNone r (ones_of bits ≤ ones_of (take 0 bits) + k) → IfNone r (ones_of bits ≤ k)
none bits k (Some p) f = tt
none bits k None f = omega (arith, f, ones_of-nil)

pub returns-clause-found : goal.returns-clause-found
returns-clause-found c = found c.args.self.now c.args.k c.select_one_from.result c.select_one_from.ensures.found

pub returns-clause-none : goal.returns-clause-none
returns-clause-none c = none c.args.self.now c.args.k c.select_one_from.result c.select_one_from.ensures.none
