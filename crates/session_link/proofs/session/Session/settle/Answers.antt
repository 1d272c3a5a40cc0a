use Rattle.std.proofs.Common.{refl, inr}
use Rattle.session_link.proofs.StoreLaws.{on_err, kept}
use Rattle.session_link.proofs.SessionLaws.{settled, all_settled, store_sound}
use Rattle.session_link.proofs.session.Session.settle.Goals as goal

pub returns-in_err-settle-clause-sound : goal.returns-in_err-settle-clause-sound
returns-in_err-settle-clause-sound g c = λ limits sound.
    store_sound limits c.args.self.now c.settle.new.self (c.in_err-settle.ensures.sound limits.content sound.store) c.in_err-settle.ensures.goes.size c.in_err-settle.ensures.pins sound

pub returns-in_err-settle-clause-err : goal.returns-in_err-settle-clause-err
returns-in_err-settle-clause-err g c = λ s stands.
    on_err c.from_residual.result _ (inr (c.in_err-settle.ensures.err s.list stands.list))

pub returns-in_err-names-clause-sound : goal.returns-in_err-names-clause-sound
returns-in_err-names-clause-sound g c = λ limits sound.
    store_sound limits c.args.self.now c.settle.new.self (c.in_ok-settle.ensures.sound limits.content sound.store) c.in_ok-settle.ensures.goes.size c.in_ok-settle.ensures.pins sound

pub returns-in_err-names-clause-err : goal.returns-in_err-names-clause-err
returns-in_err-names-clause-err g c = λ s stands.
    on_err c.from_residual-in_err-names.result _
    (kept g.D.Disk c.settle.new.self s.list (c.in_ok-settle.ensures.holds s.list stands.list))

pub returns-clause-sound : goal.returns-clause-sound
returns-clause-sound g c = λ limits sound.
    store_sound limits c.args.self.now c.settle.new.self (c.in_ok-settle.ensures.sound limits.content sound.store) c.in_ok-settle.ensures.goes.size c.in_ok-settle.ensures.pins sound

pub returns-clause-exact : goal.returns-clause-exact
returns-clause-exact g c = λ s stands.
    settled g.D.Disk c.args.self.now _ c.in_ok-names.field-0 s stands refl c.in_ok-settle.ensures.goes
    (c.in_ok-settle.ensures.holds s.list stands.list)
    (all_settled g.D.Disk c.args.self.now.store c.settle.new.self s.list stands.list c.in_ok-settle.ensures.all)
    (c.store_laws.ensures.names s.list (c.in_ok-settle.ensures.holds s.list stands.list))
    c.in_ok-names.ensures

pub returns-clause-all : goal.returns-clause-all
returns-clause-all g c = λ s stands.
    all_settled g.D.Disk c.args.self.now.store c.settle.new.self s.list stands.list c.in_ok-settle.ensures.all
