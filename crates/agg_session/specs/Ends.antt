-- How a link ends, and whom it may blame.
use Rattle.std.specs.Prelude.{◌≤◌, Result, Err, IsErrOf}
use Rattle.agg_outside.specs.Counts.{Rose}
use Rattle.agg_outside.specs.declared.disk.Disk.{Ghosts as DiskGhosts}
use Rattle.agg_outside.specs.declared.sink.Sink.{Ghosts as SinkGhosts}
use Rattle.agg_outside.specs.declared.errors.SinkError.{SinkError}
use Rattle.agg_outside.specs.declared.errors.SinkError.TheVariants as sink
use Rattle.state_store.specs.declared.stop.Stop.{Stop}
use Rattle.state_store.specs.declared.stop.Stop.TheVariants as stops
use Rattle.state_store.specs.declared.store.Store.{Store}
use Rattle.state_store.specs.Store.{Goes}
use Rattle.agg_session.specs.declared.ends.LinkEnd.{LinkEnd}
use Rattle.agg_session.specs.declared.ends.LinkEnd.TheVariants as ends

abbrev pub end_of_stop : Stop → LinkEnd
end_of_stop stops.Disk = ends.Disk
end_of_stop stops.Keeper = ends.Keeper
end_of_stop stops.Worn = ends.Long
end_of_stop stops.Memory = ends.Memory

abbrev pub end_of_sink : SinkError → LinkEnd
end_of_sink sink.Failed = ends.Sink
end_of_sink sink.Memory = ends.Memory

-- What each call of a link keeps of its devices, and whom it may blame: each only where its count of
-- faults rose, and the source only in this case.
pub record IsBlamed {D K O T : Type 0} (disk : DiskGhosts D) (sink : SinkGhosts O)
    (Case : Type 0) (old new : Store D K) (out_old out : O) (result : Result T LinkEnd) : Type 0 where
  pub goes : Goes disk old new
  pub sink_stays : sink.faults out_old ≤ sink.faults out
  pub disk_rose : IsErrOf result ends.Disk → Rose (disk.faults old.disk) (disk.faults new.disk)
  pub keeper_rose : IsErrOf result ends.Keeper → Rose old.hot.faults new.hot.faults
  pub sink_rose : IsErrOf result ends.Sink → Rose (sink.faults out_old) (sink.faults out)
  pub source_rose : IsErrOf result ends.Source → Case

-- something was wanting: the link neither came to its end nor to its limit
abbrev pub IsWant : LinkEnd → Type 0
IsWant ends.Done = ⊥
IsWant ends.Source = Unit {0}
IsWant ends.Sink = Unit {0}
IsWant ends.Disk = Unit {0}
IsWant ends.Keeper = Unit {0}
IsWant ends.Long = ⊥
IsWant ends.Memory = Unit {0}

-- a link that ended so, as what a call answers that has nothing else to answer
abbrev pub ended_by : LinkEnd → Result (Unit {0}) LinkEnd
ended_by end = Err end
