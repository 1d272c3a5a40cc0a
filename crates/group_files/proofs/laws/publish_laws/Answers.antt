use Rattle.group_files.proofs.NameFiles.{of_list, of_step}
use Rattle.group_files.proofs.laws.publish_laws.Goals as goal

pub returns-clause-bytes : goal.returns-clause-bytes
returns-clause-bytes c = λ list e r. of_list list e r

pub returns-clause-step : goal.returns-clause-step
returns-clause-step c = λ list step. of_step list step
