use Rattle.std.proofs.Common.{◌≡◌, ℕ, Some, None, refl, ap, sym, ◌∙◌}
use Rattle.std.specs.Option.{option_copied}
use Rattle.agg_model.specs.declared.page.PageRow.{PageRow}
use Rattle.agg_model.specs.Listed.{limited, index as the_index}
use Rattle.session_link.specs.State.{index_reply, times_reply}
use Rattle.session_link.proofs.StoreLaws.{on_err, kept, read_holds, read_epoch, devices_below}
use Rattle.session_link.proofs.SessionLaws.{read_told, not_read, own_read, has_view, read_session}
use Rattle.session_link.proofs.session.Session.index.Goals as goal

pub index-requires-clause-view : goal.index-requires-clause-view
index-requires-clause-view g c κs lives =
    has_view c.args.self.now.store c.args.number c.args.self.now.link.transactions c.in-Some.opened.now (ap option_copied (sym c.in-Some.is) ∙ c.transaction.ensures) c.requires.views

pub returns-in_default-clause-exact : goal.returns-in_default-clause-exact
returns-in_default-clause-exact g c = λ s stands. not_read g.D.Disk c.args.self.now c.args.number (index_reply c.args.entity c.args.key.now c.args.a c.args.b c.args.descends c.args.limit) s stands (ap option_copied (sym c.in_default.is) ∙ c.transaction.ensures)

pub returns-in_default-clause-own : goal.returns-in_default-clause-own
returns-in_default-clause-own g c = λ t list is read. let none : Some t ≡ None = is ∙ sym c.transaction.ensures ∙ ap option_copied c.in_default.is in cc

pub returns-clause-exact : goal.returns-clause-exact
returns-clause-exact g c = λ s stands.
    read_told g.D.Disk c.args.self.now _ c.args.number c.in-Some.opened.now (index_reply c.args.entity c.args.key.now c.args.a c.args.b c.args.descends c.args.limit) c.times_reply.result s stands
    (ap option_copied (sym c.in-Some.is) ∙ c.transaction.ensures) (λ list sees. c.times_reply.ensures ∙ ap times_reply (c.in_ok-page.ensures.page list sees ∙ (λ i. limited (λ (t : ℕ). t) c.args.limit (the_index list.changes c.args.entity c.args.key.now (c.first_number-a.ensures i) (c.end_number-b.ensures i) c.args.descends)))) c.in_ok-page.ensures.same c.in_ok-page.ensures.goes

pub returns-clause-own : goal.returns-clause-own
returns-clause-own g c = λ t list is sees.
    own_read c.args.self.now.store.hot c.args.self.now.store.size c.args.number c.args.self.now.link.transactions t c.in-Some.opened.now list (index_reply c.args.entity c.args.key.now c.args.a c.args.b c.args.descends c.args.limit) c.times_reply.result is (ap option_copied (sym c.in-Some.is) ∙ c.transaction.ensures) sees
    (λ seen. c.times_reply.ensures ∙ ap times_reply (c.in_ok-page.ensures.page list seen ∙ (λ i. limited (λ (t : ℕ). t) c.args.limit (the_index list.changes c.args.entity c.args.key.now (c.first_number-a.ensures i) (c.end_number-b.ensures i) c.args.descends))))

pub returns-clause-sound : goal.returns-clause-sound
returns-clause-sound g c = λ limits sound. read_session limits c.args.self.now _ c.in_ok-page.ensures.same sound

pub returns-in_err-page-clause-sound : goal.returns-in_err-page-clause-sound
returns-in_err-page-clause-sound g c = λ limits sound. read_session limits c.args.self.now _ c.in_err-page.ensures.same sound

pub returns-in_err-page-clause-err : goal.returns-in_err-page-clause-err
returns-in_err-page-clause-err g c = λ s stands.
    on_err c.from_residual.result _ (kept g.D.Disk _ s.list (read_holds c.args.self.now.store g.D.Disk _ s.list c.in_err-page.ensures.same stands.list))
