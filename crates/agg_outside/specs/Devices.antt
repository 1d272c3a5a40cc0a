-- What a call keeps of a device, over the ghost members of its trait as one argument: at a bound `D: Disk`
-- that argument is `D.Disk`, and likewise `K.Keeper`, `I.Source`, `O.Sink`.
use Rattle.std.specs.Prelude.{◌≡◌, ◌≤◌, is_some}
use Rattle.agg_outside.specs.declared.disk.Disk as disk
use Rattle.agg_outside.specs.declared.keeper.Keeper as keeper
use Rattle.agg_outside.specs.declared.source.Source as source
use Rattle.agg_outside.specs.declared.sink.Sink as sink

-- the files stay as they were, whatever is told
abbrev pub KeepsFiles : {D : Type 0} → disk.Ghosts D → D → D → Type 0
KeepsFiles g old new = (g.files new ≡ g.files old) × (g.faults old ≤ g.faults new)

-- it tells its files still, or tells them no more than before
abbrev pub TellsFilesAsBefore : {D : Type 0} → disk.Ghosts D → D → D → Type 0
TellsFilesAsBefore g old new = is_some (g.files new) ≡ is_some (g.files old)

-- the rows and the floor stay as they were, whatever is told
abbrev pub KeepsRows : {K : Type 0} → keeper.Ghosts K → K → K → Type 0
KeepsRows g old new = (g.held new ≡ g.held old) × (g.faults old ≤ g.faults new)

-- no byte was taken
abbrev pub KeepsInput : {I : Type 0} → source.Ghosts I → I → I → Type 0
KeepsInput g old new = (g.left new ≡ g.left old) × (g.faults old ≤ g.faults new)

-- no byte was written
abbrev pub KeepsOutput : {O : Type 0} → sink.Ghosts O → O → O → Type 0
KeepsOutput g old new = (g.bytes new ≡ g.bytes old) × (g.faults old ≤ g.faults new)
