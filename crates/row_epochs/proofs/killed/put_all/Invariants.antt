use Rattle.std.proofs.Common.{◌≡◌, take}
use Rattle.row_epochs.specs.Kills.{with_kills}
use Rattle.row_epochs.proofs.killed.put_all.Given as goal

abbrev pub invariant-loop-id : goal.invariant-loop-id
invariant-loop-id l = with_kills l.epoch l.initial.kills.entries (take l.id-index l.ids) ≡ l.kills.entries
