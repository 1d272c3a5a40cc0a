use Rattle.agg_model.proofs.GrownLaws.{grown-IsChangeList, value_at-later}
use Rattle.agg_model.proofs.merge.grown_laws.Goals as goal

pub returns-clause-list : goal.returns-clause-list
returns-clause-list c = grown-IsChangeList

pub returns-clause-stays : goal.returns-clause-stays
returns-clause-stays c = λ cs ds e k n late. value_at-later e k n cs ds late
