use Rattle.std.proofs.Common.{refl, arith}
use Rattle.session_link.proofs.StoreLaws.{on_err}
use Rattle.agg_session.proofs.StoppingLaws.{stops_before}
use Rattle.session_link.proofs.StoreLaws.{goes-refl}
use Rattle.agg_session.specs.declared.ends.LinkEnd.TheVariants as ends
use Rattle.agg_session.proofs.BlameLaws.{is_err_of, want_at_memory, blamed_memory}
use Rattle.agg_session.proofs.served.Served.feed.Goals as goal

pub returns-in_err-push-clause-stopped : goal.returns-in_err-push-clause-stopped
returns-in_err-push-clause-stopped g c = λ start first text all.
    on_err c.from_residual.result _
    (stops_before _ c.args.limits.now c.args.self.now c.args.self.now.session.store first _ _ start text c.args.piece.now refl refl all)

pub returns-in_err-push-clause-blamed : goal.returns-in_err-push-clause-blamed
returns-in_err-push-clause-blamed g c =
    blamed_memory g.D.Disk g.O.Sink ⊥ c.args.self.now.session.store c.args.self.now.session.store c.args.sink.now c.args.sink.now c.from_residual.result
    (is_err_of c.from_residual.result ends.Memory c.from_residual.ensures.1) (goes-refl g.D.Disk c.args.self.now.session.store) (omega arith)

pub returns-in_err-push-clause-wants : goal.returns-in_err-push-clause-wants
returns-in_err-push-clause-wants g c = want_at_memory c.from_residual.result (is_err_of c.from_residual.result ends.Memory c.from_residual.ensures.1)
