use Rattle.std.proofs.Common.{refl, arith}
use Rattle.session_link.proofs.StoreLaws.{goes-trans}
use Rattle.agg_session.proofs.BlameLaws.{is_err_of, blamed_ok, blamed_behind}
use Rattle.agg_session.proofs.served.Served.answer_lines.Goals as goal

pub loop-preserved : goal.loop-preserved
loop-preserved g c = record {
  sound = c.in_ok-answer_line.ensures.sound;
  lines = omega (arith, c.loop.invariant.lines, c.answer_line.ensures.lines);
  answered = λ start first text all. c.in_ok-answer_line.ensures.answered start first text (c.loop.invariant.answered start first text all);
  goes = goes-trans g.D.Disk c.args.self.now.session.store c.loop.self.session.store c.answer_line.new.self.session.store c.loop.invariant.goes c.answer_line.ensures.blamed.goes;
  written = omega (arith, c.loop.invariant.written, c.answer_line.ensures.blamed.sink_stays);
}

pub returns-in_err-answer_line-clause-blamed : goal.returns-in_err-answer_line-clause-blamed
returns-in_err-answer_line-clause-blamed g c =
    blamed_behind g.D.Disk g.O.Sink ⊥ ⊥ c.args.self.now.session.store c.loop.self.session.store c.answer_line.new.self.session.store c.args.sink.now c.loop.sink c.answer_line.new.sink
    c.in_err-answer_line.field-0.0 c.answer_line.result c.from_residual.result c.in_err-answer_line.was (is_err_of c.from_residual.result c.in_err-answer_line.field-0.0 c.from_residual.ensures.1)
    (λ never. never) c.loop.invariant.goes c.loop.invariant.written c.answer_line.ensures.blamed

pub returns-clause-blamed : goal.returns-clause-blamed
returns-clause-blamed g c =
    blamed_ok g.D.Disk g.O.Sink ⊥ c.args.self.now.session.store c.answer_line.new.self.session.store c.args.sink.now c.answer_line.new.sink _ _ refl
    (goes-trans g.D.Disk c.args.self.now.session.store c.loop.self.session.store c.answer_line.new.self.session.store c.loop.invariant.goes c.answer_line.ensures.blamed.goes)
    (omega (arith, c.loop.invariant.written, c.answer_line.ensures.blamed.sink_stays))
