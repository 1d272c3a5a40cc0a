use Rattle.std.proofs.Common.{arith}
use Rattle.bit_store.proofs.Texts.{le_front8}
use Rattle.bit_store.proofs.view.window.Goals as goal

pub returns-else-bytes-start-lt8 : goal.returns-else-bytes-start-lt8
returns-else-bytes-start-lt8 c = le_front8 c.args.bytes.now c.args.start c.word_at.result (λ i. omega (arith, c.type_inv.bytes i)) (omega arith) c.word_at.ensures
