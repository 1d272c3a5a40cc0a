use Rattle.std.proofs.Common.{sym}
use Rattle.bit_store.proofs.Texts.{IsBytes, text_of-held, held_back}
use Rattle.bit_store.proofs.bits.Bits.finish.Goals as goal

pub returns-clause-text : goal.returns-clause-text
returns-clause-text c =
    let bytes : IsBytes c.self.inside.bytes.items = rw (c.as_slice.ensures.value) at c.slice_fits.ensures in
    rw (c.from_vec.ensures, ← c.self.view_is) (sym (text_of-held c.self.inside.len c.self.inside.bytes.items bytes c.self.invariant))

pub returns-clause-back : goal.returns-clause-back
returns-clause-back c =
    let bytes = c.self.inside.bytes.items in
    rw (c.from_vec.ensures, ← c.self.view_is) (held_back c.self.inside.len bytes c.self.invariant)
