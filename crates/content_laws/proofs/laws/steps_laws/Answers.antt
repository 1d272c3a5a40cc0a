use Rattle.content_laws.proofs.StepBefores.{v-behind}
use Rattle.content_laws.proofs.StepLists.{ef-among}
use Rattle.content_laws.proofs.laws.steps_laws.Goals as goal

pub returns-clause-v : goal.returns-clause-v
returns-clause-v c = λ list e a b valid. v-behind list.size list.changes e a b valid.ascend valid.no_repeats

pub returns-clause-ef : goal.returns-clause-ef
returns-clause-ef c = λ list e a b valid. ef-among list.size list.changes e a b valid.ascend
