use Rattle.std.proofs.Common.{◌≡◌, map, take}
use Rattle.agg_model.specs.declared.change.Change.{Change}
use Rattle.row_epochs.specs.Changes.{id_born}
use Rattle.hot_keeper.proofs.notes.ids_born.Given as goal

abbrev pub invariant-loop-change : goal.invariant-loop-change
invariant-loop-change l = l.ids.items ≡ map (λ (c : Change). id_born l.epoch c) (take l.change-index l.change-items)
