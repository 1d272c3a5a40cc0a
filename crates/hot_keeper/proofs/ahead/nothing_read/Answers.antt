use Rattle.hot_keeper.proofs.AheadLaws.{ahead_first}
use Rattle.hot_keeper.proofs.ahead.nothing_read.Goals as goal

pub returns-clause-ahead : goal.returns-clause-ahead
returns-clause-ahead c = λ rows. ahead_first c.new-ids.result.items c.in_ok-first.first rows c.new-ids.ensures.items c.in_ok-first.ensures
