use Rattle.core_run.proofs.Looks.{name-within}
use Rattle.core_run.proofs.publish.read_name.Goals as goal

pub returns-clause-within : goal.returns-clause-within
returns-clause-within c = name-within c.in-Some.name c.in-Some.ensures.in_grammar
