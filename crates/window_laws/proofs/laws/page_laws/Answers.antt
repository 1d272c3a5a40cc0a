use Rattle.window_laws.proofs.Listed.{range-open, range-some, range-ends, range-none, history-open, history-some, history-none}
use Rattle.window_laws.proofs.laws.page_laws.Goals as goal

pub returns-clause-range_starts : goal.returns-clause-range_starts
returns-clause-range_starts c = λ list e n to. range-open list.changes e n to

pub returns-clause-range_goes : goal.returns-clause-range_goes
returns-clause-range_goes c = λ list e n to first k is next. range-some list.changes e n to first k is.ascend next

pub returns-clause-range_ends : goal.returns-clause-range_ends
returns-clause-range_ends c = λ list e n to first k next over. range-ends list.changes e n to first k next over

pub returns-clause-range_none : goal.returns-clause-range_none
returns-clause-range_none c = λ list e n to first next. range-none list.changes e n to first next

pub returns-clause-history_starts : goal.returns-clause-history_starts
returns-clause-history_starts c = λ list e a b. history-open list.changes e a b

pub returns-clause-history_goes : goal.returns-clause-history_goes
returns-clause-history_goes c = λ list e a b first k next. history-some list.changes e a b first k next

pub returns-clause-history_none : goal.returns-clause-history_none
returns-clause-history_none c = λ list e a b first next. history-none list.changes e a b first next
