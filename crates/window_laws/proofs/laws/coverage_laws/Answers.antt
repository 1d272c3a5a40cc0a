use Rattle.window_laws.proofs.Values.{value-stays, value-covered}
use Rattle.window_laws.proofs.Numbers.{numbers-covered}
use Rattle.window_laws.proofs.laws.coverage_laws.Goals as goal

pub returns-clause-stays : goal.returns-clause-stays
returns-clause-stays c = λ list e k n m is order none. value-stays list.changes e k n m is.ascend order none

pub returns-clause-value : goal.returns-clause-value
returns-clause-value c = λ list e k end n parts is are. value-covered list e k end n parts is are

pub returns-clause-numbers : goal.returns-clause-numbers
returns-clause-numbers c = λ list e k end a b parts is are. numbers-covered list e k end a b parts is are
