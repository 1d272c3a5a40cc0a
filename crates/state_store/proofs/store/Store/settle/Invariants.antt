use Rattle.std.proofs.Common.{◌≡◌, ◌-◌, ℕ}
use Rattle.agg_model.specs.ChangeList.{ChangeList}
use Rattle.merge_ranges.specs.declared.name.FileName.{FileName}
use Rattle.visible_files.specs.Held.{count_of}
use Rattle.state_store.specs.Store.{IsStore, Holds, Resumes, Goes, IsSettling, steps_held}
use Rattle.state_store.proofs.store.Store.settle.Given as goal

abbrev pub invariant-loop-alloc : goal.invariant-loop-alloc
invariant-loop-alloc g l = record {
  sound : (most : ℕ) → IsStore most l.initial.self → IsStore most l.self;
  holds : (list : ChangeList) → Holds g.D.Disk l.initial.self list → Holds g.D.Disk l.self list;
  resumes : (list : ChangeList) → Resumes g.D.Disk l.initial.self list → Resumes g.D.Disk l.self list;
  same : IsSettling l.initial.self l.self;
  pins : (n : FileName) → count_of l.self.sets.held n ≡ count_of l.initial.self.sets.held n;
  goes : Goes g.D.Disk l.initial.self l.self;
}

abbrev pub decreases-loop-alloc : goal.decreases-loop-alloc
decreases-loop-alloc g l = l.complete - steps_held l.self
