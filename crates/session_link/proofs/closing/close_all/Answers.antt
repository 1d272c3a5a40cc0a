use Rattle.std.proofs.Common.{rules, ◌≡◌, ◌+◌, List, refl, ap, subst, sym, ◌∙◌}
use Rattle.std.specs.Vec.Iter.{into_iter_items}
use Rattle.state_store.specs.declared.store.Store.{Store}
use Rattle.merge_ranges.specs.declared.name.FileName.{FileName}
use Rattle.visible_files.specs.Held.{count_of}
use Rattle.state_store.specs.Store.{ArePinned, pins_of}
use Rattle.session_link.specs.declared.link.Transaction.{Transaction}
use Rattle.session_link.specs.Links.{views_of}
use Rattle.session_link.proofs.StoreLaws.{goes-refl, goes-trans}
use Rattle.session_link.proofs.SessionLaws.{is_pinned_one, unpinned_more, unpinned_all}
use Rattle.session_link.proofs.closing.close_all.Goals as goal

pub loop-transaction-init : goal.loop-transaction-init
loop-transaction-init g c = record {
  can = tt;
  ends = tt;
  pinned = subst (λ (ts : List Transaction). ArePinned c.args.store.now.sets.held (views_of ts))
      (sym (c.into_iter-transaction-iterator.ensures.into_iter_gives.0 ∙ c.into_vec-transaction-items.ensures)) c.requires;
  unpins = subst (λ (ts : List Transaction). (n : FileName) → count_of c.args.store.now.sets.held n + pins_of (views_of c.args.transactions) n ≡ count_of c.args.store.now.sets.held n + pins_of (views_of ts) n)
      (sym (c.into_iter-transaction-iterator.ensures.into_iter_gives.0 ∙ c.into_vec-transaction-items.ensures)) (λ n. refl);
  current = refl;
  others = refl;
  sound = λ most sound. sound;
  holds = λ list holds. holds;
  goes = goes-refl g.D.Disk c.args.store.now;
}

pub close-requires : goal.close-requires
close-requires g c = (
  search rules,
  is_pinned_one c.loop-transaction.store.sets.held c.in-Some.transaction.view (views_of (into_iter_items c.next.new.self))
      (subst (λ (ts : List Transaction). ArePinned c.loop-transaction.store.sets.held (views_of ts)) c.in-Some.ensures.steps.0 c.loop-transaction.invariant.pinned),
)

pub loop-transaction-preserved : goal.loop-transaction-preserved
loop-transaction-preserved g c = record {
  can = tt;
  ends = tt;
  pinned = c.close.ensures.pinned (views_of (into_iter_items c.next.new.self))
      (subst (λ (ts : List Transaction). ArePinned c.loop-transaction.store.sets.held (views_of ts)) c.in-Some.ensures.steps.0 c.loop-transaction.invariant.pinned);
  unpins = unpinned_more _ _ _ (views_of c.args.transactions) c.in-Some.transaction (into_iter_items c.next.new.self) _ c.in-Some.ensures.steps.0 c.loop-transaction.invariant.unpins c.close.ensures.counts;
  current = c.close.ensures.current ∙ c.loop-transaction.invariant.current;
  others = c.close.ensures.others ∙ ap (λ (s : Store _ _). record s { sets = c.close.new.self.sets }) c.loop-transaction.invariant.others;
  sound = λ most sound. c.close.ensures.sound most (c.loop-transaction.invariant.sound most sound);
  holds = λ list holds. c.close.ensures.holds list (c.loop-transaction.invariant.holds list holds);
  goes = goes-trans g.D.Disk c.args.store.now c.loop-transaction.store c.close.new.self c.loop-transaction.invariant.goes c.close.ensures.goes;
}

pub returns-clause-unpins : goal.returns-clause-unpins
returns-clause-unpins g c = unpinned_all _ _ (views_of c.args.transactions) (into_iter_items c.loop-transaction.transaction-iterator) (sym c.loop-transaction.transaction-iterator.rest.ok.0 ∙ c.in-None.ensures.steps.0) c.loop-transaction.invariant.unpins
