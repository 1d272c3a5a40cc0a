use Rattle.std.proofs.Common.{◌∙◌, inl, inr, Err, ap, refl, arith}
use Rattle.agg_session.specs.Ends.{ended_by}
use Rattle.agg_session.proofs.TakingLaws.{goes_on, serves_all, last_part, piece_part, serves_ended, ended_part, ends_long, finished_well, finished_badly}
use Rattle.session_link.proofs.StoreLaws.{goes-trans}
use Rattle.agg_session.proofs.BlameLaws.{wants_done, wants_long, was_err, rose_since, blamed_finish, blamed_behind, blamed_none}
use Rattle.agg_session.proofs.taking.serve.Goals as goal

pub returns-in-Ok-eq0-clause-all : goal.returns-in-Ok-eq0-clause-all
returns-in-Ok-eq0-clause-all g c = λ done.
    serves_all g.D.Disk c.args.limits.now c.args.served.now c.loop-taken.served (g.O.Sink.bytes c.args.sink.now) (g.O.Sink.bytes c.loop-taken.sink) (g.I.Source.left c.args.source.now) (g.I.Source.left c.loop-taken.source) c.loop-taken.taken
    c.take_some.new.served (g.O.Sink.bytes c.take_some.new.sink) c.finish.new.self (g.O.Sink.bytes c.finish.new.sink) (g.I.Source.left c.take_some.new.source) c.in-Ok-eq0.field-0
    c.in-Ok-eq0.field-0-test c.loop-taken-test.true c.loop-taken.invariant.progress c.in-Ok-eq0.ensures.answered
    (λ start first text all. finished_well c.finish.result c.end_of.result _ c.end_of.ensures done (λ e. wants_done c.finish.result e c.finish.ensures.wants) (c.finish.ensures.answered start first text all))

pub returns-in-Ok-eq0-clause-part : goal.returns-in-Ok-eq0-clause-part
returns-in-Ok-eq0-clause-part g c = λ never.
    last_part g.D.Disk c.args.limits.now c.args.served.now c.loop-taken.served (g.O.Sink.bytes c.args.sink.now) (g.O.Sink.bytes c.loop-taken.sink) (g.I.Source.left c.args.source.now) (g.I.Source.left c.loop-taken.source) c.loop-taken.taken
    c.take_some.new.served (g.O.Sink.bytes c.take_some.new.sink) c.finish.new.self (g.O.Sink.bytes c.finish.new.sink) (g.I.Source.left c.take_some.new.source) c.in-Ok-eq0.field-0
    c.in-Ok-eq0.field-0-test c.loop-taken-test.true c.loop-taken.invariant.progress c.in-Ok-eq0.ensures.answered
    (λ start first text all. finished_badly c.finish.result c.end_of.result _ c.end_of.ensures never (c.finish.ensures.stopped start first text all))

pub loop-taken-preserved : goal.loop-taken-preserved
loop-taken-preserved g c = record {
  sound = c.in-Ok.ensures.sound;
  none = c.in-Ok.ensures.none;
  lines = omega (arith, c.in-Ok.ensures.lines, c.loop-taken.invariant.lines);
  within = omega (arith, c.in-Ok.ensures.fits, c.min-room.ensures);
  progress = goes_on g.D.Disk c.args.limits.now c.args.served.now c.loop-taken.served (g.O.Sink.bytes c.args.sink.now) (g.O.Sink.bytes c.loop-taken.sink) (g.I.Source.left c.args.source.now) (g.I.Source.left c.loop-taken.source) c.loop-taken.taken
      c.take_some.new.served (g.O.Sink.bytes c.take_some.new.sink) (g.I.Source.left c.take_some.new.source) c.in-Ok.count c.loop-taken.invariant.progress c.in-Ok.ensures.answered;
  source = omega (arith, c.loop-taken.invariant.source, c.in-Ok.ensures.source_stays);
  goes = goes-trans g.D.Disk c.args.served.now.session.store c.loop-taken.served.session.store c.take_some.new.served.session.store c.loop-taken.invariant.goes c.in-Ok.ensures.blamed.goes;
  sink = omega (arith, c.loop-taken.invariant.sink, c.in-Ok.ensures.blamed.sink_stays);
}

pub returns-in-Err-clause-ended : goal.returns-in-Err-clause-ended
returns-in-Err-clause-ended g c = λ end. elim end [
  | inl source ↦
      let same = c.in-Err.ensures.nothing (ap Err source) in
      serves_ended g.D.Disk c.args.limits.now c.args.served.now c.loop-taken.served (g.O.Sink.bytes c.args.sink.now) (g.O.Sink.bytes c.loop-taken.sink) (g.I.Source.left c.args.source.now) (g.I.Source.left c.loop-taken.source) c.loop-taken.taken
      c.take_some.new.served (g.O.Sink.bytes c.take_some.new.sink) (g.I.Source.left c.take_some.new.source)
      same.0 same.1 same.2 c.loop-taken.invariant.within c.loop-taken.invariant.sound c.loop-taken.invariant.none c.loop-taken.invariant.progress
  | inr long ↦ absurd (wants_long c.take_some.result (was_err c.take_some.result c.in-Err.end _ c.in-Err.is long) c.take_some.ensures.wants)
]

pub returns-in-Err-clause-part : goal.returns-in-Err-clause-part
returns-in-Err-clause-part g c = λ never.
    piece_part g.D.Disk c.args.limits.now c.args.served.now c.loop-taken.served (g.O.Sink.bytes c.args.sink.now) (g.O.Sink.bytes c.loop-taken.sink) (g.I.Source.left c.args.source.now) (g.I.Source.left c.loop-taken.source) c.loop-taken.taken
    c.min-room.result c.take_some.new.served (g.O.Sink.bytes c.take_some.new.sink) (g.I.Source.left c.take_some.new.source)
    (omega (arith, c.min-room.ensures, c.loop-taken-test.true)) c.loop-taken.invariant.progress c.in-Err.ensures.stopped

pub returns-clause-ended : goal.returns-clause-ended
returns-clause-ended g c = λ end.
    serves_ended g.D.Disk c.args.limits.now c.args.served.now c.loop-taken.served (g.O.Sink.bytes c.args.sink.now) (g.O.Sink.bytes c.loop-taken.sink) (g.I.Source.left c.args.source.now) (g.I.Source.left c.loop-taken.source) c.loop-taken.taken
    c.loop-taken.served (g.O.Sink.bytes c.loop-taken.sink) (g.I.Source.left c.loop-taken.source)
    refl refl refl c.loop-taken.invariant.within c.loop-taken.invariant.sound c.loop-taken.invariant.none c.loop-taken.invariant.progress

pub returns-clause-part : goal.returns-clause-part
returns-clause-part g c = λ never.
    ended_part g.D.Disk c.args.limits.now c.args.served.now c.loop-taken.served (g.O.Sink.bytes c.args.sink.now) (g.O.Sink.bytes c.loop-taken.sink) (g.I.Source.left c.args.source.now) (g.I.Source.left c.loop-taken.source) c.loop-taken.taken
    c.loop-taken.served (g.O.Sink.bytes c.loop-taken.sink) (g.I.Source.left c.loop-taken.source)
    refl refl refl c.loop-taken.invariant.within c.loop-taken.invariant.progress

pub returns-clause-long : goal.returns-clause-long
returns-clause-long g c = λ long.
    let p = c.loop-taken.invariant.progress in
    ends_long (g.I.Source.left c.args.source.now) (g.I.Source.left c.loop-taken.source) p.text c.args.limits.now.bytes p.is_taken
    (omega (arith, p.counted, c.loop-taken.invariant.within, c.loop-taken-test.false))

pub returns-in-Ok-eq0-clause-blamed : goal.returns-in-Ok-eq0-clause-blamed
returns-in-Ok-eq0-clause-blamed g c =
    blamed_finish g.D.Disk g.O.Sink _ c.args.served.now.session.store c.take_some.new.served.session.store c.finish.new.self.session.store c.args.sink.now c.take_some.new.sink c.finish.new.sink
    c.finish.result c.end_of.result c.end_of.ensures
    (goes-trans g.D.Disk c.args.served.now.session.store c.loop-taken.served.session.store c.take_some.new.served.session.store c.loop-taken.invariant.goes c.take_some.ensures.blamed.goes)
    (omega (arith, c.loop-taken.invariant.sink, c.take_some.ensures.blamed.sink_stays)) c.finish.ensures.blamed

pub returns-in-Err-clause-blamed : goal.returns-in-Err-clause-blamed
returns-in-Err-clause-blamed g c =
    blamed_behind g.D.Disk g.O.Sink _ _ c.args.served.now.session.store c.loop-taken.served.session.store c.take_some.new.served.session.store c.args.sink.now c.loop-taken.sink c.take_some.new.sink
    c.in-Err.end c.take_some.result (ended_by c.in-Err.end) c.in-Err.is refl
    (rose_since (g.I.Source.faults c.args.source.now) (g.I.Source.faults c.loop-taken.source) (g.I.Source.faults c.take_some.new.source) c.loop-taken.invariant.source)
    c.loop-taken.invariant.goes c.loop-taken.invariant.sink c.take_some.ensures.blamed

pub returns-clause-blamed : goal.returns-clause-blamed
returns-clause-blamed g c =
    blamed_none g.D.Disk g.O.Sink _ c.args.served.now.session.store c.loop-taken.served.session.store c.args.sink.now c.loop-taken.sink _ _ refl (inr refl) c.loop-taken.invariant.goes c.loop-taken.invariant.sink
