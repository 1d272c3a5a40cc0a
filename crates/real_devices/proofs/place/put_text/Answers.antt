use Rattle.std.proofs.Common.{get_or, refl, arith, ◌∙◌}
use Rattle.real_devices.proofs.Places.{put_step}
use Rattle.real_devices.proofs.place.put_text.Goals as goal

pub loop-byte-preserved : goal.loop-byte-preserved
loop-byte-preserved c =
    let i = c.loop-byte.byte-index in
    let byte = get_or c.args.text.now i 0 in
    put_step c.args.text.now c.loop-byte.out.items c.put_byte.new.out.items i byte (omega arith) refl c.in_ok-put_byte.ensures ∙ c.loop-byte.invariant
