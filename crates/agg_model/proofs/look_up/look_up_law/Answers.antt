use Rattle.agg_model.proofs.ArrangedLaws.{value_at-arranged}
use Rattle.agg_model.proofs.look_up.look_up_law.Goals as goal

pub returns : goal.returns
returns c = λ list valid. value_at-arranged c.args.entity c.args.key.now c.args.before list.changes valid.ascend
