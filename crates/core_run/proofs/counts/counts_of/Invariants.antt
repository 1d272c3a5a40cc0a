use Rattle.std.proofs.Common.{◌≡◌, ◌+◌, ℕ, List, drop}
use Rattle.core_run.specs.Counts.{count_of, times_in}
use Rattle.core_run.specs.Running.{openings}
use Rattle.core_run.proofs.counts.counts_of.Given as goal

abbrev pub invariant-loop-row : goal.invariant-loop-row
invariant-loop-row l = (q : List ℕ) → times_in (openings (drop l.row-index l.rows)) q + count_of l.counts.entries q ≡ times_in (openings l.rows) q
