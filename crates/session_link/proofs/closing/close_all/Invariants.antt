use Rattle.std.proofs.Common.{◌≡◌, ℕ, ◌+◌}
use Rattle.std.specs.Vec.Iter.{into_iter_items}
use Rattle.agg_model.specs.ChangeList.{ChangeList}
use Rattle.merge_ranges.specs.declared.name.FileName.{FileName}
use Rattle.visible_files.specs.Held.{count_of}
use Rattle.state_store.specs.Store.{IsStore, Holds, Goes, ArePinned, pins_of}
use Rattle.session_link.specs.Links.{views_of}
use Rattle.session_link.proofs.closing.close_all.Given as goal

abbrev pub invariant-loop-transaction : goal.invariant-loop-transaction
invariant-loop-transaction g l = record {
  can : (goal.iterator-loop-transaction g).can_next l.transaction-iterator;
  ends : (goal.iterator-loop-transaction g).is_finite l.transaction-iterator;
  pinned : ArePinned l.store.sets.held (views_of (into_iter_items l.transaction-iterator));
  unpins : (n : FileName) → count_of l.store.sets.held n + pins_of (views_of l.fn.transactions) n
      ≡ count_of l.initial.store.sets.held n + pins_of (views_of (into_iter_items l.transaction-iterator)) n;
  current : l.store.sets.current ≡ l.initial.store.sets.current;
  others : l.store ≡ record l.initial.store { sets = l.store.sets };
  sound : (most : ℕ) → IsStore most l.initial.store → IsStore most l.store;
  holds : (list : ChangeList) → Holds g.D.Disk l.initial.store list → Holds g.D.Disk l.store list;
  goes : Goes g.D.Disk l.initial.store l.store;
}
