use Rattle.std.proofs.Common.{refl, sym, ◌∙◌, ap, arith, Err}
use Rattle.state_store.specs.declared.store.Store.{Store}
use Rattle.state_store.specs.declared.stop.Stop.TheVariants as stops
use Rattle.session_link.proofs.StoreLaws.{on_err, kept, goes-refl, devices_ok, devices_below}
use Rattle.session_link.proofs.SessionLaws.{committed, not_in_order, too_large, commit_sound}
use Rattle.session_link.proofs.session.Session.commit.Goals as goal

pub returns-in-Some-clause-exact : goal.returns-in-Some-clause-exact
returns-in-Some-clause-exact g c = λ s stands.
    not_in_order _ c.args.limits.now c.args.self.now _ c.clear-pending.result c.next-next.result c.in-Some.refusal s stands
    c.clear-pending.ensures.batch c.next-next.ensures refl c.clear-pending.ensures.cleared
    (sym c.in-Some.is ∙ c.batch_refusal.ensures)

pub returns-in-Some-clause-sound : goal.returns-in-Some-clause-sound
returns-in-Some-clause-sound g c = λ sound.
    commit_sound c.args.limits.now c.args.self.now _ sound.store refl refl c.clear-pending.ensures.cleared sound

pub returns-in_default-2-clause-exact : goal.returns-in_default-2-clause-exact
returns-in_default-2-clause-exact g c = λ s stands.
    too_large _ c.args.limits.now c.args.self.now _ c.clear-pending.result c.next-next.result c.in_ok-accepted.field-0 s stands c.in_ok-accepted.ensures.goes
    c.clear-pending.ensures.batch c.next-next.ensures c.clear-pending.ensures.cleared
    (sym c.in_default.is ∙ c.batch_refusal.ensures) c.in_default-2.is c.in_ok-accepted.ensures.commits

pub returns-in_default-2-clause-sound : goal.returns-in_default-2-clause-sound
returns-in_default-2-clause-sound g c = λ sound.
    commit_sound c.args.limits.now c.args.self.now _ c.in_ok-accepted.ensures.sound c.in_ok-accepted.ensures.goes.size
    (ap (λ (x : Store _ _). x.sets) c.in_ok-accepted.ensures.others) c.clear-pending.ensures.cleared sound

pub returns-clause-exact : goal.returns-clause-exact
returns-clause-exact g c = λ s stands.
    committed _ c.args.limits.now c.args.self.now _ c.clear-pending.result c.in_ok-accepted.field-0 c.in-Some-2.accepted s stands
    c.in_ok-accepted.ensures.goes c.clear-pending.ensures.batch c.clear-pending.ensures.cleared c.in-Some-2.is
    c.in_ok-accepted.ensures.commits

pub returns-clause-refused : goal.returns-clause-refused
returns-clause-refused g c = λ other. absurd (other _ _ refl)

pub returns-clause-sound : goal.returns-clause-sound
returns-clause-sound g c = λ sound.
    commit_sound c.args.limits.now c.args.self.now _ c.in_ok-accepted.ensures.sound c.in_ok-accepted.ensures.goes.size
    (ap (λ (x : Store _ _). x.sets) c.in_ok-accepted.ensures.others) c.clear-pending.ensures.cleared sound

pub returns-in_err-accepted-clause-sound : goal.returns-in_err-accepted-clause-sound
returns-in_err-accepted-clause-sound g c = λ sound.
    commit_sound c.args.limits.now c.args.self.now _ c.in_err-accepted.ensures.sound c.in_err-accepted.ensures.goes.size
    (ap (λ (x : Store _ _). x.sets) c.in_err-accepted.ensures.others) c.clear-pending.ensures.cleared sound

pub returns-in_err-accepted-clause-err : goal.returns-in_err-accepted-clause-err
returns-in_err-accepted-clause-err g c = λ s stands.
    on_err c.from_residual.result _ (kept g.D.Disk _ s.list (c.in_err-accepted.ensures.holds s.list stands.list))
