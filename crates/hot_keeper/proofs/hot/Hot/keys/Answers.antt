use Rattle.std.proofs.Common.{arith}
use Rattle.hot_keeper.proofs.EmptyWindows.{no_keys_told}
use Rattle.hot_keeper.proofs.hot.Hot.keys.Goals as goal

pub returns-then-tx_from-tx_to-clause-keys : goal.returns-then-tx_from-tx_to-clause-keys
returns-then-tx_from-tx_to-clause-keys g c =
    no_keys_told c.args.self.now.told c.args.epoch c.args.entity c.args.from.now c.args.tx_from c.args.tx_to c.args.limit c.new.result c.new.ensures (omega (arith, c.if-tx_from-tx_to.true))
