use Rattle.std.proofs.Common.{arith}
use Rattle.agg_session.proofs.ServingLaws.{put_more, whole_rest, within_rest}
use Rattle.agg_session.proofs.writing.put_all.Goals as goal

pub loop-done-preserved : goal.loop-done-preserved
loop-done-preserved g c = record {
  within =
      within_rest c.loop-done.done c.in_ok-done.field-0 c.args.text.now _ (whole_rest c.loop-done.done c.args.text.now)
      c.loop-done.invariant.within c.in_ok-done.ensures.fits;
  written = λ before told.
      put_more before c.args.text.now _ c.loop-done.done c.in_ok-done.field-0 (g.O.Sink.bytes c.loop-done.sink) (g.O.Sink.bytes c.put.new.self)
      (whole_rest c.loop-done.done c.args.text.now) (c.loop-done.invariant.written before told) c.in_ok-done.ensures.appended;
  faults = omega (arith, c.loop-done.invariant.faults, c.in_ok-done.ensures.cause.no_fall);
}
