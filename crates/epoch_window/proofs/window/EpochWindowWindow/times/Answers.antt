use Rattle.epoch_window.proofs.Windows.{numbers_told}
use Rattle.epoch_window.proofs.window.EpochWindowWindow.times.Goals as goal

pub returns-clause-numbers : goal.returns-clause-numbers
returns-clause-numbers g c =
    numbers_told c.args.self.now.hot.now.told c.args.self.now.epoch c.args.self.now.from c.args.back c.args.entity c.args.key.now c.args.from c.args.to c.later_start-first.result c.args.limit _ c.later_start-first.ensures c.in_ok-times.ensures.numbers
