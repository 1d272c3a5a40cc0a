-- That the clauses of the traits follow from the count after a call.
use Rattle.std.proofs.Common.{◌≡◌, ℕ, Result, Ok, Err, OnErr, arith, rules, sym, subst}
use Rattle.agg_outside.specs.declared.errors.DiskError.{DiskError}
use Rattle.agg_outside.specs.declared.errors.DiskError.TheVariants as disk
use Rattle.agg_outside.specs.declared.errors.KeeperError.{KeeperError}
use Rattle.agg_outside.specs.declared.errors.KeeperError.TheVariants as keeper
use Rattle.agg_outside.specs.Counts.{HasCause}
use Rattle.real_devices.specs.Faults.{disk_count, keeper_count}

disk_counts : {T : Type 0} (before : ℕ) (result : Result T DiskError) → HasCause disk.Failed before (disk_count before result) result
disk_counts before (Ok value) = grind (arith, rules)
disk_counts before (Err disk.Failed) = grind (arith, rules)
disk_counts before (Err disk.Memory) = grind (arith, rules)

-- a disk that counts its refusals has a cause for each
pub disk_cause : {T : Type 0} (before now : ℕ) (result : Result T DiskError) → now ≡ disk_count before result → HasCause disk.Failed before now result
disk_cause before now result e =
    let P : ℕ → Type 0 = λ n. HasCause disk.Failed before n result in
    subst P (sym e) (disk_counts before result)

keeper_counts : {T : Type 0} (before : ℕ) (result : Result T KeeperError) → HasCause keeper.Failed before (keeper_count before result) result
keeper_counts before (Ok value) = grind (arith, rules)
keeper_counts before (Err keeper.Failed) = grind (arith, rules)
keeper_counts before (Err keeper.Memory) = grind (arith, rules)

-- a keeper that counts its refusals has a cause for each
pub keeper_cause : {T : Type 0} (before now : ℕ) (result : Result T KeeperError) → now ≡ keeper_count before result → HasCause keeper.Failed before now result
keeper_cause before now result e =
    let P : ℕ → Type 0 = λ n. HasCause keeper.Failed before n result in
    subst P (sym e) (keeper_counts before result)

-- what holds anyway holds after an error
pub on_err : {T E : Type 0} (result : Result T E) (P : Type 0) → P → OnErr result P
on_err (Ok value) P p = tt
on_err (Err error) P p = p
