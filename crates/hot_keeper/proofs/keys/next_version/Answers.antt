use Rattle.std.proofs.Common.{ap, ◌∙◌}
use Rattle.agg_outside.specs.declared.rows.RowId.{RowId}
use Rattle.agg_outside.specs.Rows.{is_before}
use Rattle.hot_keeper.proofs.KeyLaws.{before_version}
use Rattle.hot_keeper.proofs.keys.next_version.Goals as goal

pub returns-clause-after : goal.returns-clause-after
returns-clause-after c = ap (λ (p : RowId). is_before c.args.id.now p) c.in_ok-place.ensures ∙ before_version c.args.id.now
