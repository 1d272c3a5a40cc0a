use Rattle.std.proofs.Common.{refl, sym, ◌∙◌}
use Rattle.session_link.proofs.StoreLaws.{on_err, kept}
use Rattle.session_link.proofs.SessionLaws.{opened, not_opened, opens_now, open_sound, open_failed}
use Rattle.session_link.specs.Links.{views_of}
use Rattle.session_link.proofs.session.Session.open_transaction.Goals as goal

pub returns-then-is_full-clause-exact : goal.returns-then-is_full-clause-exact
returns-then-is_full-clause-exact g c = λ s stands.
    not_opened g.D.Disk c.args.limits.now c.args.self.now c.is_full.result s stands c.if-is_full.true c.is_full.ensures

pub returns-clause-exact : goal.returns-clause-exact
returns-clause-exact g c = λ s stands.
    opened g.D.Disk c.args.limits.now c.args.self.now _ _ c.is_full.result c.in_ok-number.number c.next-next.result c.in_ok-view.view s stands
    c.if-is_full.false c.is_full.ensures c.next-next.ensures c.in_ok-view.ensures.next c.in_ok-number.ensures.number c.in_ok-number.ensures.opened
    (c.in_ok-view.ensures.holds s.list stands.list) c.in_ok-view.ensures.goes (c.in_ok-view.ensures.sees s.list stands.list)

pub returns-clause-sound : goal.returns-clause-sound
returns-clause-sound g c = λ sound.
    open_sound c.args.limits.now c.args.self.now _ _ c.in_ok-view.view c.in_ok-view.ensures.others (c.in_ok-view.ensures.sound c.args.limits.now.content sound.store)
    (c.in_ok-view.ensures.has c.args.limits.now.content sound.store) (c.in_ok-view.ensures.pinned (views_of c.args.self.now.link.transactions) sound.pins)
    c.in_ok-number.ensures.opened sound

pub returns-clause-view : goal.returns-clause-view
returns-clause-view g c = λ n m is.
    opens_now c.args.self.now _ c.in_ok-view.view c.in_ok-view.ensures.next c.in_ok-view.ensures.epoch c.in_ok-view.ensures.set c.in_ok-number.ensures.opened

pub returns-in_err-number-clause-sound : goal.returns-in_err-number-clause-sound
returns-in_err-number-clause-sound g c = λ sound.
    open_failed c.args.limits.now c.args.self.now _ _ c.in_ok-view.view c.in_ok-view.ensures.others (c.in_ok-view.ensures.sound c.args.limits.now.content sound.store)
    (c.in_ok-view.ensures.pinned (views_of c.args.self.now.link.transactions) sound.pins) c.in_err-number.ensures.err sound
