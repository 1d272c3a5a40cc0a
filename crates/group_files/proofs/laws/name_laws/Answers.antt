use Rattle.group_files.proofs.NameFiles.{names_are, step_names, step_apart}
use Rattle.group_files.proofs.laws.name_laws.Goals as goal

pub returns-clause-group : goal.returns-clause-group
returns-clause-group c = λ groups all. names_are groups all

pub returns-clause-step : goal.returns-clause-step
returns-clause-step c = λ list step. step_names list step

pub returns-clause-apart : goal.returns-clause-apart
returns-clause-apart c = λ list step small. step_apart list step small
