use Rattle.std.proofs.Common.{Err, refl, [], ap, ◌∙◌, arith, rules}
use Rattle.session_link.proofs.StoreLaws.{on_err}
use Rattle.agg_session.proofs.TakingLaws.{untaken}
use Rattle.agg_session.proofs.StoppingLaws.{stops_before}
use Rattle.agg_outside.specs.Counts.{Rose}
use Rattle.session_link.proofs.StoreLaws.{goes-refl}
use Rattle.agg_session.proofs.BlameLaws.{is_err_of, want_at_source, want_at, blamed_source, blamed_behind}
use Rattle.agg_session.proofs.taking.take_some.Goals as goal

pub returns-in_err-feed-clause-stopped : goal.returns-in_err-feed-clause-stopped
returns-in_err-feed-clause-stopped g c = on_err c.from_residual-in_err-feed.result _ (record {
  piece = c.in_ok-piece.piece.now;
  within = search rules;
  is_taken = c.in_ok-piece.ensures.taken;
  answers = λ start first text all. c.in_err-feed.ensures.stopped start first text all;
})

pub returns-in_err-piece-clause-stopped : goal.returns-in_err-piece-clause-stopped
returns-in_err-piece-clause-stopped g c = on_err c.from_residual.result _ (record {
  piece = [];
  within = omega arith;
  is_taken = untaken (g.I.Source.left c.args.source.now) (g.I.Source.left c.take_piece.new.source) c.in_err-piece.ensures.err;
  answers = λ start first text all. stops_before g.D.Disk c.args.limits.now c.args.served.now c.args.served.now.session.store first (g.O.Sink.bytes c.args.sink.now) (g.O.Sink.bytes c.args.sink.now) start text [] refl refl all;
})

pub returns-clause-answered : goal.returns-clause-answered
returns-clause-answered g c = record {
  piece = c.in_ok-piece.piece.now;
  counted = refl;
  is_taken = c.in_ok-piece.ensures.taken;
  none = c.in_ok-piece.ensures.none;
  answers = λ start first text all. c.in_ok-feed.ensures.answered start first text all;
}

pub returns-in_err-piece-clause-blamed : goal.returns-in_err-piece-clause-blamed
returns-in_err-piece-clause-blamed g c =
    blamed_source g.D.Disk g.O.Sink _ c.args.served.now.session.store c.args.served.now.session.store c.args.sink.now c.args.sink.now c.from_residual.result
    (is_err_of c.from_residual.result c.in_err-piece.field-0.0 c.from_residual.ensures.1 ∙ ap Err c.in_err-piece.ensures.only) (goes-refl g.D.Disk c.args.served.now.session.store) (omega arith) c.in_err-piece.ensures.source

pub returns-in_err-piece-clause-wants : goal.returns-in_err-piece-clause-wants
returns-in_err-piece-clause-wants g c =
    want_at_source c.from_residual.result c.in_err-piece.field-0.0 (is_err_of c.from_residual.result c.in_err-piece.field-0.0 c.from_residual.ensures.1) c.in_err-piece.ensures.only

pub returns-in_err-feed-clause-blamed : goal.returns-in_err-feed-clause-blamed
returns-in_err-feed-clause-blamed g c =
    blamed_behind g.D.Disk g.O.Sink _ ⊥ c.args.served.now.session.store c.args.served.now.session.store c.feed.new.self.session.store c.args.sink.now c.args.sink.now c.feed.new.sink
    c.in_err-feed.field-0.0 c.feed.result c.from_residual-in_err-feed.result c.in_err-feed.was (is_err_of c.from_residual-in_err-feed.result c.in_err-feed.field-0.0 c.from_residual-in_err-feed.ensures.1)
    (λ never. absurd never) (goes-refl g.D.Disk c.args.served.now.session.store) (omega arith) c.feed.ensures.blamed

pub returns-in_err-feed-clause-wants : goal.returns-in_err-feed-clause-wants
returns-in_err-feed-clause-wants g c =
    want_at c.from_residual-in_err-feed.result c.in_err-feed.field-0.0 (is_err_of c.from_residual-in_err-feed.result c.in_err-feed.field-0.0 c.from_residual-in_err-feed.ensures.1) c.in_err-feed.ensures.wants
