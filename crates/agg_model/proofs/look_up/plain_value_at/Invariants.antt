use Rattle.std.proofs.Common.{◌≡◌, drop}
use Rattle.std.specs.Option.{option_copied}
use Rattle.agg_model.specs.ChangeList.{last_where, is_of_before, value_at}
use Rattle.agg_model.proofs.LookUps.{value_after}
use Rattle.agg_model.proofs.look_up.plain_value_at.Given as goal

abbrev pub invariant-loop-change : goal.invariant-loop-change
invariant-loop-change l =
    value_after (option_copied l.found) (last_where (is_of_before l.entity l.key l.before) (drop l.change-index l.change-items))
    ≡ value_at l.changes l.entity l.key l.before
