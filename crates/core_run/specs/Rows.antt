-- Where an open row stands.
use Rattle.std.specs.Prelude.{◌≡◌, ℕ, ◌<◌, true, List, length, remove}
use Rattle.core_machine.specs.Sound.{has_row}
use Rattle.core_machine.specs.Entries.{without_row}
use Rattle.core_run.specs.declared.running.Row.{Row}
use Rattle.core_run.specs.Running.{openings}

-- the caller's row of this number stands at the place
pub record IsPlaceOf (rows : List Row) (caller number i : ℕ) : Type 0 where
  pub within : i < length rows
  pub there : has_row (openings rows) caller number ≡ true
  pub without : without_row caller number (openings rows) ≡ openings (remove rows i)
