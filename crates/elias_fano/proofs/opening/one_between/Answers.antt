use Rattle.std.proofs.Common.{◌≡◌, ◌≤◌, length, take, Option, Some, None, ℕ, List, Bool, arith, ap, sym}
use Rattle.std.specs.Prelude.{IfSome, IfNone}
use Rattle.std.proofs.lemmas.List.{length-take}
use Rattle.bit_store.specs.Bits.{bits_of, ones_of, IsOneAt}
use Rattle.bit_store.proofs.Texts.{length-bits_of}
use Rattle.elias_fano.specs.Reading.{first_one}
use Rattle.elias_fano.proofs.Faults.{first-some, first-none}
use Rattle.elias_fano.proofs.opening.one_between.Goals as goal

pub next_one-requires : goal.next_one-requires
next_one-requires c =
    let all = bits_of c.args.bytes.now in
    omega (arith, ap length c.of.ensures, length-take c.args.to all, length-bits_of c.args.bytes.now, c.requires.from, c.requires.to)

answer : (bits : List Bool) (from to : ℕ) (r : Option ℕ) → from ≤ to
    → IfSome r (λ p. (from ≤ p) × IsOneAt (take to bits) p × (ones_of (take p (take to bits)) ≡ ones_of (take from (take to bits))))
    → IfNone r (ones_of (take to bits) ≡ ones_of (take from (take to bits))) → r ≡ first_one bits from to
answer bits from to (Some p) le found none = sym (first-some bits from to p le found.0 found.1 found.2)
answer bits from to None le found none = sym (first-none bits from to le none)

pub returns : goal.returns
returns c = answer (bits_of c.args.bytes.now) c.args.from c.args.to c.next_one.result c.requires.from (rw c.of.ensures at c.next_one.ensures.found) (rw c.of.ensures at c.next_one.ensures.none)
