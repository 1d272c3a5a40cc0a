use Rattle.window_laws.proofs.KeyOrder.{next_both}
use Rattle.window_laws.proofs.Listed.{next-from}
use Rattle.window_laws.proofs.laws.next_laws.Goals as goal

pub returns-clause-both : goal.returns-clause-both
returns-clause-both c = λ ns ms first o p one two. next_both ns ms first o p one two

pub returns-clause-behind : goal.returns-clause-behind
returns-clause-behind c = λ from list e first a b. next-from from list.changes e first a b
