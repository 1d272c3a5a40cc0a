use Rattle.std.proofs.Common.{◌≡◌, drop}
use Rattle.agg_model.specs.Merged.{climbs_above, climbs}
use Rattle.agg_model.proofs.merge.do_numbers_climb.Given as goal

abbrev pub invariant-loop-change : goal.invariant-loop-change
invariant-loop-change l = climbs_above l.last (drop l.change-index l.rest) ≡ climbs l.changes
