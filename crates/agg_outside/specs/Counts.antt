-- Faults of a device are counted, so that an answer which blames the device has a cause.
use Rattle.std.specs.Prelude.{◌<◌, ◌≤◌, ◌⊎◌, ℕ, Result, IsErr, IsErrOf}

-- The count rose: it is greater than before, or stands at the last value of a counter.
abbrev pub Rose : ℕ → ℕ → Type 0
Rose before now = (before < now) ⊎ (18446744073709551615 ≤ now)

-- the count didn't fall, and this error comes only where it rose
pub record HasCause {T E : Type 0} (failed : E) (before now : ℕ) (result : Result T E) : Type 0 where
  pub no_fall : before ≤ now
  pub rose : IsErrOf result failed → Rose before now

-- the same for a call whose only error is that the device failed
pub record FailsForCause {T E : Type 0} (before now : ℕ) (result : Result T E) : Type 0 where
  pub no_fall : before ≤ now
  pub rose : IsErr result → Rose before now
