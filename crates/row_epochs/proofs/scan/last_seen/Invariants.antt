use Rattle.std.proofs.Common.{◌≡◌, ◌≤◌, Some}
use Rattle.agg_outside.specs.Rows.{Held}
use Rattle.row_epochs.specs.Places.{place_at}
use Rattle.row_epochs.proofs.LastWalks.{StillLast}
use Rattle.row_epochs.proofs.scan.last_seen.Given as goal

abbrev pub invariant-loop-look : goal.invariant-loop-look
invariant-loop-look g l = record {
  held : g.K.Keeper.held l.keeper ≡ g.K.Keeper.held l.initial.keeper;
  faults : g.K.Keeper.faults l.initial.keeper ≤ g.K.Keeper.faults l.keeper;
  still : (h : Held) → g.K.Keeper.held l.initial.keeper ≡ Some h → StillLast l.epoch l.fn.entity l.key l.from l.before h.rows l.place;
}
