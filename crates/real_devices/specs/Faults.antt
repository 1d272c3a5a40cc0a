-- What a call of a device leaves of its count of faults.
use Rattle.std.specs.Prelude.{ℕ, ◌+◌, nat_lt, if◌then◌else◌, Result, Ok, Err}
use Rattle.agg_outside.specs.declared.errors.DiskError.{DiskError}
use Rattle.agg_outside.specs.declared.errors.DiskError.TheVariants as disk
use Rattle.agg_outside.specs.declared.errors.KeeperError.{KeeperError}
use Rattle.agg_outside.specs.declared.errors.KeeperError.TheVariants as keeper

-- one fault more; the count stays at its last value
abbrev pub one_more : ℕ → ℕ
one_more count = if nat_lt count 18446744073709551615 then count + 1 else count

-- a refusal is counted, and neither a success nor want of memory is
abbrev pub disk_count : {T : Type 0} → ℕ → Result T DiskError → ℕ
disk_count before (Ok value) = before
disk_count before (Err disk.Failed) = one_more before
disk_count before (Err disk.Memory) = before

-- the same of a keeper's calls
abbrev pub keeper_count : {T : Type 0} → ℕ → Result T KeeperError → ℕ
keeper_count before (Ok value) = before
keeper_count before (Err keeper.Failed) = one_more before
keeper_count before (Err keeper.Memory) = before
