-- What is said of a link and of a run, over the source, the sink and the devices themselves.
use Rattle.std.specs.Prelude.{ℕ}
use Rattle.agg_outside.specs.declared.disk.Disk.{Ghosts as DiskGhosts}
use Rattle.agg_outside.specs.declared.keeper.Keeper.{Ghosts as KeeperGhosts}
use Rattle.agg_outside.specs.declared.source.Source.{Ghosts as SourceGhosts}
use Rattle.agg_outside.specs.declared.sink.Sink.{Ghosts as SinkGhosts}
use Rattle.agg_model.specs.ChangeList.{ChangeList}
use Rattle.session_link.specs.declared.limits.Limits.{Limits}
use Rattle.agg_session.specs.declared.served.Served.{Served}
use Rattle.agg_session.specs.declared.run.Ended.{Ended}
use Rattle.agg_session.specs.Served as link
use Rattle.agg_session.specs.Top as run

-- `count` bytes were taken, and all lines are answered that now have their line feed
abbrev pub TakesOver : {D K I O : Type 0} → DiskGhosts D → SourceGhosts I → SinkGhosts O →
    Limits → Served D K → Served D K → I → I → O → O → ℕ → Type 0
TakesOver disk source sink limits old now i_old i o_old o count =
    link.Takes disk limits old now (sink.bytes o_old) (sink.bytes o) (source.left i_old) (source.left i) count

-- at most `room` bytes were taken, and the lines are answered in part that now have their line feed
abbrev pub TakesPartOver : {D K I O : Type 0} → DiskGhosts D → SourceGhosts I → SinkGhosts O →
    Limits → ℕ → Served D K → Served D K → I → I → O → O → Type 0
TakesPartOver disk source sink limits room old now i_old i o_old o =
    link.TakesPart disk limits room old now (sink.bytes o_old) (sink.bytes o) (source.left i_old) (source.left i)

-- the source was taken to its end, and all lines of it are answered
abbrev pub ServesAllOver : {D K I O : Type 0} → DiskGhosts D → SourceGhosts I → SinkGhosts O →
    Limits → Served D K → Served D K → I → I → O → O → Type 0
ServesAllOver disk source sink limits old now i_old i o_old o =
    link.ServesAll disk limits old now (sink.bytes o_old) (sink.bytes o) (source.left i_old) (source.left i)

-- the source was taken in part, and all lines that have their line feed are answered
abbrev pub ServesEndedOver : {D K I O : Type 0} → DiskGhosts D → SourceGhosts I → SinkGhosts O →
    Limits → Served D K → Served D K → I → I → O → O → Type 0
ServesEndedOver disk source sink limits old now i_old i o_old o =
    link.ServesEnded disk limits old now (sink.bytes o_old) (sink.bytes o) (source.left i_old) (source.left i)

-- the source was taken in part, and its lines are answered in part
abbrev pub ServesPartOver : {D K I O : Type 0} → DiskGhosts D → SourceGhosts I → SinkGhosts O →
    Limits → Served D K → Served D K → I → I → O → O → Type 0
ServesPartOver disk source sink limits old now i_old i o_old o =
    link.ServesPart disk limits old now (sink.bytes o_old) (sink.bytes o) (source.left i_old) (source.left i)

-- a run over the list took its source to the end
abbrev pub EndsWholeOver : {D K I O : Type 0} → DiskGhosts D → KeeperGhosts K → SourceGhosts I → SinkGhosts O →
    Limits → ChangeList → I → I → O → O → Ended D K → Type 0
EndsWholeOver disk keeper source sink limits list i_old i o_old o ended =
    run.EndsWhole limits list (source.left i_old) (source.left i) (sink.bytes o_old) (sink.bytes o)
    (keeper.held ended.keeper) (disk.files ended.disk)

-- a run over the list took its source in part, and ended between two lines
abbrev pub EndsBetweenOver : {D K I O : Type 0} → DiskGhosts D → KeeperGhosts K → SourceGhosts I → SinkGhosts O →
    Limits → ChangeList → I → I → O → O → Ended D K → Type 0
EndsBetweenOver disk keeper source sink limits list i_old i o_old o ended =
    run.EndsBetween limits list (source.left i_old) (source.left i) (sink.bytes o_old) (sink.bytes o)
    (keeper.held ended.keeper) (disk.files ended.disk)

-- a run over the list took its source in part, and may have ended within a line
abbrev pub EndsWithinOver : {D K I O : Type 0} → DiskGhosts D → KeeperGhosts K → SourceGhosts I → SinkGhosts O →
    Limits → ChangeList → I → I → O → O → Ended D K → Type 0
EndsWithinOver disk keeper source sink limits list i_old i o_old o ended =
    run.EndsWithin limits list (source.left i_old) (source.left i) (sink.bytes o_old) (sink.bytes o)
    (keeper.held ended.keeper) (disk.files ended.disk)
