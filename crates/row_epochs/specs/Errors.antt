-- Why a call on versioned rows did nothing.
use Rattle.std.specs.Prelude.{◌≡◌, ◌^◌, Result, Ok, Err}
use Rattle.agg_outside.specs.declared.errors.KeeperError.{KeeperError}
use Rattle.agg_outside.specs.declared.errors.KeeperError.TheVariants as keeper
use Rattle.row_epochs.specs.declared.error.RowsError.{RowsError}
use Rattle.row_epochs.specs.declared.error.RowsError.TheVariants.{Keeper, Worn, Memory}

-- what an error of the keeper comes to
abbrev pub error_of : KeeperError → RowsError
error_of keeper.Failed = Keeper
error_of keeper.Memory = Memory

-- the epoch stood at its limit
abbrev pub IsWorn : {T : Type 0} → Result T RowsError → Type 0
IsWorn (Ok value) = ⊥
IsWorn (Err Keeper) = ⊥
IsWorn (Err (Worn epoch)) = epoch ≡ 2 ^ 62
IsWorn (Err Memory) = ⊥

-- no epoch is named
abbrev pub IsUnworn : {T : Type 0} → Result T RowsError → Type 0
IsUnworn (Ok value) = Unit {0}
IsUnworn (Err Keeper) = Unit {0}
IsUnworn (Err (Worn epoch)) = ⊥
IsUnworn (Err Memory) = Unit {0}

-- an epoch is named only where it is the limit
abbrev pub NamesLimit : {T : Type 0} → Result T RowsError → Type 0
NamesLimit (Ok value) = Unit {0}
NamesLimit (Err Keeper) = Unit {0}
NamesLimit (Err (Worn epoch)) = epoch ≡ 2 ^ 62
NamesLimit (Err Memory) = Unit {0}
