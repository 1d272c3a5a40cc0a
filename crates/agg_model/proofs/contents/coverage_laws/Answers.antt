use Rattle.agg_model.proofs.CoverageLaws.{value_at-files, step_files-later}
use Rattle.agg_model.proofs.contents.coverage_laws.Goals as goal

pub returns-clause-value : goal.returns-clause-value
returns-clause-value c = λ list e k f n valid order. value_at-files list.size list.changes e k f n order valid.ascend valid.fit

pub returns-clause-stays : goal.returns-clause-stays
returns-clause-stays c = step_files-later
