use Rattle.std.proofs.Common.{subst, sym}
use Rattle.session_link.specs.Running.{StillHas}
use Rattle.session_link.proofs.StoreLaws.{on_err}
use Rattle.session_link.proofs.StoreLaws.{kept}
use Rattle.session_link.proofs.session.Session.request.Goals as goal

pub returns-in-Latest-clause-sound : goal.returns-in-Latest-clause-sound
returns-in-Latest-clause-sound g c = c.latest.ensures.sound c.args.limits.now c.requires.sound

pub returns-in-Tx-clause-sound : goal.returns-in-Tx-clause-sound
returns-in-Tx-clause-sound g c = c.set_number.ensures.sound c.args.limits.now c.requires.sound

pub returns-in-Close-clause-sound : goal.returns-in-Close-clause-sound
returns-in-Close-clause-sound g c = c.close_transaction.ensures.sound c.args.limits.now c.requires.sound

pub returns-in-Settle-clause-sound : goal.returns-in-Settle-clause-sound
returns-in-Settle-clause-sound g c = c.settle.ensures.sound c.args.limits.now c.requires.sound

pub returns-in_err-change-in-Put-clause-err : goal.returns-in_err-change-in-Put-clause-err
returns-in_err-change-in-Put-clause-err g c = λ s stands.
    on_err c.from_residual.result _
    (subst (λ x. StillHas g.D.Disk x s.list) (sym c.change.ensures.store) (kept g.D.Disk c.args.self.now.store s.list stands.list))

pub returns-in_err-change-in-Del-clause-err : goal.returns-in_err-change-in-Del-clause-err
returns-in_err-change-in-Del-clause-err g c = λ s stands.
    on_err c.from_residual-in_err-change-in-Del.result _
    (subst (λ x. StillHas g.D.Disk x s.list) (sym c.change-in-Del.ensures.store) (kept g.D.Disk c.args.self.now.store s.list stands.list))

pub returns-in_err-change-in-Mark-clause-err : goal.returns-in_err-change-in-Mark-clause-err
returns-in_err-change-in-Mark-clause-err g c = λ s stands.
    on_err c.from_residual-in_err-change-in-Mark.result _
    (subst (λ x. StillHas g.D.Disk x s.list) (sym c.change-in-Mark.ensures.store) (kept g.D.Disk c.args.self.now.store s.list stands.list))

pub returns-in-Asof-clause-sound : goal.returns-in-Asof-clause-sound
returns-in-Asof-clause-sound g c = c.as_of.ensures.sound c.args.limits.now c.requires.sound

pub returns-in-Range-clause-sound : goal.returns-in-Range-clause-sound
returns-in-Range-clause-sound g c = c.range.ensures.sound c.args.limits.now c.requires.sound

pub returns-in-History-clause-sound : goal.returns-in-History-clause-sound
returns-in-History-clause-sound g c = c.history.ensures.sound c.args.limits.now c.requires.sound

pub returns-in-Index-clause-sound : goal.returns-in-Index-clause-sound
returns-in-Index-clause-sound g c = c.index.ensures.sound c.args.limits.now c.requires.sound
