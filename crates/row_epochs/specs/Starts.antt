-- What is asked of the rows that versioned rows begin with.
use Rattle.std.specs.Prelude.{ℕ, List, All}
use Rattle.agg_outside.specs.declared.rows.Row.{Row}
use Rattle.row_epochs.specs.Versions.{IsVersion, AllApart}

-- their epochs are at most this one, and no epoch sees two of one entity, key and number
pub record MayBecome (epoch : ℕ) (rows : List Row) : Type 0 where
  pub versions : All (IsVersion epoch) rows
  pub apart : AllApart rows
