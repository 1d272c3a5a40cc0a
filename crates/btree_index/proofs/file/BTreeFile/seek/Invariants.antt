use Rattle.btree_index.proofs.Descents.{IsDescending}
use Rattle.btree_index.proofs.file.BTreeFile.seek.Given as goal

abbrev pub invariant-loop-level : goal.invariant-loop-level
invariant-loop-level g l = IsDescending l.words.words l.key l.bytes l.level l.start l.from l.to l.place l.initial.steps l.steps

abbrev pub decreases-loop-level : goal.decreases-loop-level
decreases-loop-level g l = l.level
