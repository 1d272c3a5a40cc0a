use Rattle.std.proofs.Common.{arith, ap, ◌-◌, ◌≡◌, ◌^◌, ◌*◌, ◌%◌}
use Rattle.std.proofs.lemmas.Nat.{one_shl}
use Rattle.std.specs.Int.RustNames.{count_ones}
use Rattle.bit_store.proofs.Views.{narrow_up}
use Rattle.bit_store.proofs.view.place_in.Goals as goal

pub loop-size-preserved-then-low-left : goal.loop-size-preserved-then-low-left
loop-size-preserved-then-low-left c =
    let s = c.loop-size.size - 1 in
    let half : 1 * 2 ^ s % 4294967296 ≡ 2 ^ s = one_shl s 32 (omega (arith, c.loop-size.invariant.few)) in
    record { few = omega (arith, c.loop-size.invariant.few); narrowed = narrow_up c.args.word c.args.k c.loop-size.left c.loop-size.at c.loop-size.size (1 * 2 ^ s % 4294967296) (count_ones c.low_part-low.result) c.loop-size-test.true half (ap count_ones c.low_part-low.ensures) c.if-low-left.true c.loop-size.invariant.narrowed }
