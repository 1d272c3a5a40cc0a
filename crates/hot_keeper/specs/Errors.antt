-- Why a read answered nothing.
use Rattle.row_epochs.specs.declared.error.RowsError.{RowsError}
use Rattle.row_epochs.specs.declared.error.RowsError.TheVariants as rows
use Rattle.hot_keeper.specs.declared.error.ReadError.{ReadError}
use Rattle.hot_keeper.specs.declared.error.ReadError.TheVariants.{Keeper, Memory}

-- what an error of the rows comes to; no read is worn
abbrev pub read_error_of : RowsError → ReadError
read_error_of rows.Keeper = Keeper
read_error_of (rows.Worn epoch) = Memory
read_error_of rows.Memory = Memory
