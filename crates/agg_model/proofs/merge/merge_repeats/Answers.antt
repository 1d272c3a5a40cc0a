use Rattle.std.proofs.Common.{sym, ◌∙◌, ap}
use Rattle.agg_model.specs.Merged.{climbs}
use Rattle.agg_model.proofs.Climbs.{merged-climbs}
use Rattle.agg_model.proofs.merge.merge_repeats.Goals as goal

pub returns-then-do_numbers_climb : goal.returns-then-do_numbers_climb
returns-then-do_numbers_climb c =
    sym (merged-climbs c.args.batch (ap climbs (sym c.as_slice.ensures) ∙ sym c.do_numbers_climb.ensures ∙ c.if-do_numbers_climb.true))
