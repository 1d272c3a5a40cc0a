use Rattle.std.proofs.Common.{◌≡◌, drop}
use Rattle.core_machine.specs.Sound.{has_row}
use Rattle.core_run.specs.Running.{openings}
use Rattle.core_run.proofs.rows.is_open.Given as goal

abbrev pub invariant-loop-row : goal.invariant-loop-row
invariant-loop-row l = has_row (openings (drop l.row-index l.rows)) l.caller l.number ≡ has_row (openings l.rows) l.caller l.number
