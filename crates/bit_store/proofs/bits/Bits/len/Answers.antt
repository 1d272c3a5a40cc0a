use Rattle.std.proofs.Common.{arith}
use Rattle.std.proofs.lemmas.List.{length-take}
use Rattle.bit_store.specs.Bits.{bits_of}
use Rattle.bit_store.proofs.Texts.{length-bits_of}
use Rattle.bit_store.proofs.bits.Bits.len.Goals as goal

pub returns : goal.returns
returns c =
    let bytes = c.self.inside.bytes.items in
    rw (← c.self.view_is) (omega (arith, length-take c.self.inside.len (bits_of bytes), length-bits_of bytes, c.self.invariant.count))
