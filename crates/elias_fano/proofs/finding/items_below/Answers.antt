use Rattle.std.proofs.Common.{◌≡◌, ◌+◌, ◌-◌, ℕ, subst, arith}
use Rattle.elias_fano.specs.Marks.{AreBelow}
use Rattle.elias_fano.proofs.Bounds.{zero_parts, all_below}
use Rattle.elias_fano.proofs.finding.items_below.Goals as goal

pub returns-in-Some : goal.returns-in-Some
returns-in-Some c =
    let p = c.args.parts.now in
    let before : ℕ = c.args.high - 1 in
    let next : before + 1 ≡ c.args.high = omega arith in
    subst (λ h. AreBelow p h (c.in-Some.zero - before)) next (zero_parts p before c.in-Some.zero c.requires.sound.ones c.in-Some.ensures.found.0 c.in-Some.ensures.found.1)

pub returns-in-None : goal.returns-in-None
returns-in-None c = all_below c.args.parts.now c.args.high c.requires.sound.ones (omega (arith, c.in-None.ensures.none))
