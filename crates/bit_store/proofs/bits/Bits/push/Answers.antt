use Rattle.bit_store.proofs.Texts.{appended}
use Rattle.bit_store.proofs.bits.Bits.push.Goals as goal

pub invariant_of-self-2 : goal.invariant_of-self-2
invariant_of-self-2 c =
    (appended c.self.inside.len c.args.width c.args.value c.low_part.result c.self.inside.bytes.items c.put.new.bytes.items c.self.invariant c.low_part.ensures c.in_ok-put.ensures.ok c.in_ok-put.ensures.count).1

pub returns-clause-ok : goal.returns-clause-ok
returns-clause-ok c =
    rw (← c.self.view_is) ((appended c.self.inside.len c.args.width c.args.value c.low_part.result c.self.inside.bytes.items c.put.new.bytes.items c.self.invariant c.low_part.ensures c.in_ok-put.ensures.ok c.in_ok-put.ensures.count).0)
