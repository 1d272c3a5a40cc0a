-- What keepers in memory hold, and the calls that one of them counts.
use Rattle.memory_side.specs.declared.mem_keeper.MemKeeper.{MemKeeper}
use Rattle.memory_side.specs.declared.sure_keeper.SureKeeper.{SureKeeper}
use Rattle.memory_side.specs.Memory.{CallCount}
use Rattle.agg_outside.specs.Rows.{Held}
use Rattle.memory_side.specs.RowTree.{rows_of}

abbrev pub sure_held : SureKeeper → Held
sure_held keeper = record { rows = rows_of keeper.rows.entries; floor = keeper.floor }

abbrev pub mem_held : MemKeeper → Held
mem_held keeper = record { rows = keeper.rows; floor = keeper.floor }

abbrev pub keeper_calls : MemKeeper → CallCount
keeper_calls keeper = keeper.calls
