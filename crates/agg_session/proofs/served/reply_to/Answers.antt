use Rattle.line_words.specs.LineCut.{Piece, cut_of}
use Rattle.session_link.proofs.StoreLaws.{on_err}
use Rattle.agg_session.specs.Answer.{effect}
use Rattle.agg_session.proofs.StoppingLaws.{ends_before}
use Rattle.agg_session.proofs.served.reply_to.Goals as goal

pub returns-in_err-print-in-Long-clause-err : goal.returns-in_err-print-in-Long-clause-err
returns-in_err-print-in-Long-clause-err g c = λ s stands.
    on_err c.from_residual-in_err-print-in-Long.result _
    (ends_before g.D.Disk c.args.session.now.store s.list (cut_of c.args.cutting) (λ (p : Piece). (effect c.args.limits.now c.args.number p s).state.list) stands.list)
