use Rattle.std.proofs.Common.{◌<◌, length, sym, ◌∙◌, ap, arith}
use Rattle.core_machine.specs.Sound.{is_row}
use Rattle.core_run.specs.declared.running.Row.{Row}
use Rattle.core_run.specs.Running.{opening_of}
use Rattle.core_run.proofs.RowPlaces.{none-there, place-there}
use Rattle.core_run.proofs.rows.place_of_row.Goals as goal

pub returns-then-is_row-clause-some : goal.returns-then-is_row-clause-some
returns-then-is_row-clause-some c =
    let below : c.loop-i.i < length c.args.rows.now = omega arith in
    place-there c.args.caller c.args.number c.args.rows.now c.loop-i.i c.index-rows-i.result below c.loop-i.invariant
    (ap (λ (r : Row). is_row c.args.caller c.args.number (opening_of r)) (sym c.index-rows-i.is) ∙ sym c.is_row.ensures ∙ c.if-is_row.true)

pub returns-clause-none : goal.returns-clause-none
returns-clause-none c = λ none. none-there c.args.caller c.args.number c.args.rows.now (λ k d below. c.loop-i.invariant k d (omega (arith, below, c.loop-i-test.false)))
