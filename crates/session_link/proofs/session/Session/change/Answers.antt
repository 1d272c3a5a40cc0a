use Rattle.std.proofs.Common.{All, ap, subst, sym, ◌∙◌, refl, arith}
use Rattle.agg_model.specs.declared.change.Change.{Change}
use Rattle.session_link.specs.declared.link.Link.{Link}
use Rattle.session_link.specs.declared.link.Transaction.{Transaction}
use Rattle.state_store.specs.Store.{HasView, ArePinned}
use Rattle.session_link.specs.Links.{views_of}
use Rattle.session_link.proofs.SessionLaws.{joined_link, on_true}
use Rattle.session_link.proofs.session.Session.change.Goals as goal

pub returns-then-branch-clause-sound : goal.returns-then-branch-clause-sound
returns-then-branch-clause-sound g c = λ sound.
    let change : Change = record { tx = c.in-Some.tx; entity = c.args.entity; key = c.args.key; act = c.args.act } in
    record {
      store = sound.store;
      views = subst (λ (l : Link). All (λ (t : Transaction). HasView c.args.self.now.store t.view) l.transactions)
          (sym (on_true c.in_ok-add.field-0 _ c.if-branch.true c.in_ok-add.ensures.added)) sound.views;
      pins = subst (λ (l : Link). ArePinned c.args.self.now.store.sets.held (views_of l.transactions))
          (sym (on_true c.in_ok-add.field-0 _ c.if-branch.true c.in_ok-add.ensures.added)) sound.pins;
      link = joined_link c.args.limits.now _ c.args.self.now.link _ change sound.link c.in-Some.is
          (record { act_fits = c.requires.entity; key = c.requires.key; value = c.requires.value })
          (sym c.if-branch.true ∙ c.in_ok-add.ensures.could)
          (on_true c.in_ok-add.field-0 _ c.if-branch.true c.in_ok-add.ensures.added);
    }
