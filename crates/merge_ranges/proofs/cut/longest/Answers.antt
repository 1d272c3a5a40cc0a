use Rattle.std.proofs.Common.{sym, ◌∙◌}
use Rattle.merge_ranges.proofs.Walks.{fit-past}
use Rattle.merge_ranges.proofs.cut.longest.Goals as goal

pub loop-size-preserved : goal.loop-size-preserved
loop-size-preserved c =
    sym (fit-past c.args.from c.args.end _ c.loop-size.size-index c.loop-size-test.true (sym c.does_fit.ensures ∙ c.if-does_fit.false))
    ∙ c.loop-size.invariant
