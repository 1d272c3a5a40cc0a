use Rattle.epoch_window.proofs.Windows.{keys_told}
use Rattle.epoch_window.proofs.window.EpochWindowWindow.keys.Goals as goal

pub returns-clause-keys : goal.returns-clause-keys
returns-clause-keys g c =
    keys_told c.args.self.now.hot.now.told c.args.self.now.epoch c.args.self.now.from c.args.entity c.args.from.now c.args.tx_from c.args.tx_to c.later_start-first.result c.args.limit _ c.later_start-first.ensures c.in_ok-keys.ensures.keys
