use Rattle.std.proofs.Common.{◌≡◌, take}
use Rattle.row_epochs.specs.Changes.{writes_of}
use Rattle.row_epochs.proofs.writes.inserts_of.Given as goal

abbrev pub invariant-loop-change : goal.invariant-loop-change
invariant-loop-change l = l.writes.items ≡ writes_of l.epoch (take l.change-index l.change-items)
