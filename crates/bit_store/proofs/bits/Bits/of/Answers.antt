use Rattle.std.proofs.Common.{arith, ap, ◌∙◌, ◌≡◌, ◌*◌, length, sym}
use Rattle.std.proofs.lemmas.List.{take_all}
use Rattle.bit_store.specs.Bits.{bits_of}
use Rattle.bit_store.proofs.Texts.{length-bits_of, all_held}
use Rattle.bit_store.proofs.bits.Bits.of.Goals as goal

pub invariant_of-result : goal.invariant_of-result
invariant_of-result c =
    let size : c.len.result ≡ length c.into_vec-bytes.result.items = omega arith in
    all_held c.len.result c.into_vec-bytes.result.items size

pub returns : goal.returns
returns c =
    let size : c.len.result ≡ length c.into_vec-bytes.result.items = omega arith in
    let bytes = c.into_vec-bytes.result.items in
    take_all (8 * c.len.result) (bits_of bytes) (omega (arith, size, length-bits_of bytes)) ∙ ap bits_of c.into_vec-bytes.ensures
