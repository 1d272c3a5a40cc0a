use Rattle.epoch_window.proofs.Windows.{act_told}
use Rattle.epoch_window.proofs.window.EpochWindowWindow.last.Goals as goal

pub returns-clause-act : goal.returns-clause-act
returns-clause-act g c =
    act_told c.args.self.now.hot.now.told c.args.self.now.epoch c.args.self.now.from c.args.entity c.args.key.now c.args.before _ c.in_ok-last.ensures.act
