use Rattle.std.proofs.Common.{◌≡◌, ◌+◌, Some, None, rules, refl, sym, subst, ◌∙◌}
use Rattle.merge_ranges.specs.declared.name.FileName.{FileName}
use Rattle.visible_files.specs.Held.{count_of, named_once}
use Rattle.state_store.specs.Store.{set_of}
use Rattle.session_link.specs.declared.link.Transaction.{Transaction}
use Rattle.session_link.proofs.SessionLaws.{closed, not_closed, close_sound, are_pinned_without, is_pinned_one}
use Rattle.session_link.specs.Links.{transactions_without, views_of}
use Rattle.session_link.proofs.session.Session.close_transaction.Goals as goal

pub close-requires : goal.close-requires
close-requires g c = (
  search rules,
  is_pinned_one c.args.self.now.store.sets.held c.in-Some.transaction.view (views_of (transactions_without c.args.number c.args.self.now.link.transactions))
      (are_pinned_without c.args.self.now.store.sets.held c.args.number c.args.self.now.link.transactions c.in-Some.transaction (sym c.in-Some.is ∙ c.close_transaction.ensures.is) c.requires),
)

pub returns-in_default-clause-exact : goal.returns-in_default-clause-exact
returns-in_default-clause-exact g c = λ s stands.
    not_closed g.D.Disk c.args.self.now _ c.args.number s stands (sym c.in_default.is ∙ c.close_transaction.ensures.is) c.in_default.ensures.unchanged

pub returns-clause-exact : goal.returns-clause-exact
returns-clause-exact g c = λ s stands.
    closed g.D.Disk c.args.self.now _ _ c.args.number c.in-Some.transaction s stands (sym c.in-Some.is ∙ c.close_transaction.ensures.is) c.in-Some.ensures.closed
    (c.close.ensures.holds s.list stands.list) c.close.ensures.goes

pub returns-clause-sound : goal.returns-clause-sound
returns-clause-sound g c = λ limits sound.
    close_sound limits c.args.self.now _ _ c.args.number c.close.ensures.others (c.close.ensures.sound limits.content sound.store)
    (c.close.ensures.pinned (views_of (transactions_without c.args.number c.args.self.now.link.transactions))
    (are_pinned_without c.args.self.now.store.sets.held c.args.number c.args.self.now.link.transactions c.in-Some.transaction (sym c.in-Some.is ∙ c.close_transaction.ensures.is) sound.pins))
    c.in-Some.ensures.closed sound

pub returns-in_default-clause-unpins : goal.returns-in_default-clause-unpins
returns-in_default-clause-unpins g c = λ t is n.
    let bad : Some t ≡ None = is ∙ sym (sym c.in_default.is ∙ c.close_transaction.ensures.is) in
    absurd cc

pub returns-clause-unpins : goal.returns-clause-unpins
returns-clause-unpins g c = λ t is n.
    let same : Some t ≡ Some c.in-Some.transaction = is ∙ sym (sym c.in-Some.is ∙ c.close_transaction.ensures.is) in
    let one : t ≡ c.in-Some.transaction = cc in
    subst (λ (x : Transaction). count_of c.close.new.self.sets.held n + named_once (set_of x.view).ids n ≡ count_of c.args.self.now.store.sets.held n)
    (sym one) (c.close.ensures.counts n)
