-- What a look for repeats answers.
use Rattle.std.specs.Prelude.{◌≡◌, Option, Some, None, List}
use Rattle.agg_model.specs.declared.change.Change.{Change}
use Rattle.agg_model.specs.Batch.{HasNoRepeats}

-- the batch once more, if no change of it repeats another
abbrev pub IsKept : List Change → Option (List Change) → Type 0
IsKept batch None = HasNoRepeats batch → ⊥
IsKept batch (Some kept) = HasNoRepeats batch × (kept ≡ batch)
