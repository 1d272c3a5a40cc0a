use Rattle.agg_model.proofs.ArrangedLaws.{arranged-append, arranged-IsPermutation, arranged-Ascend}
use Rattle.agg_model.proofs.look_up.arranged_laws.Goals as goal

pub returns-clause-append : goal.returns-clause-append
returns-clause-append c = arranged-append

pub returns-clause-same : goal.returns-clause-same
returns-clause-same c = arranged-IsPermutation

pub returns-clause-ascend : goal.returns-clause-ascend
returns-clause-ascend c = arranged-Ascend
