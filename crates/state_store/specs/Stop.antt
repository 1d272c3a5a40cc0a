-- Why a session stops before its input ends.
use Rattle.agg_outside.specs.declared.errors.DiskError.{DiskError}
use Rattle.agg_outside.specs.declared.errors.DiskError.TheVariants as disk
use Rattle.hot_keeper.specs.declared.error.ReadError.{ReadError}
use Rattle.hot_keeper.specs.declared.error.ReadError.TheVariants as reads
use Rattle.row_epochs.specs.declared.error.RowsError.{RowsError}
use Rattle.row_epochs.specs.declared.error.RowsError.TheVariants as rows
use Rattle.state_store.specs.declared.stop.Stop.{Stop}
use Rattle.state_store.specs.declared.stop.Stop.TheVariants.{Disk, Keeper, Worn, Memory}

-- what an error of the rows stops it with
abbrev pub stop_of : RowsError → Stop
stop_of rows.Keeper = Keeper
stop_of (rows.Worn epoch) = Worn
stop_of rows.Memory = Memory

-- what an error of the disk stops it with
abbrev pub stop_of_disk : DiskError → Stop
stop_of_disk disk.Failed = Disk
stop_of_disk disk.Memory = Memory

-- what an error of a read stops it with
abbrev pub stop_of_read : ReadError → Stop
stop_of_read reads.Keeper = Keeper
stop_of_read reads.Memory = Memory
