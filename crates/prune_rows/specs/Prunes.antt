-- What a prune leaves.
use Rattle.std.specs.Prelude.{◌≡◌, ℕ, ◌+◌, ◌*◌, ◌≤◌, List}
use Rattle.agg_outside.specs.declared.rows.Row.{Row}
use Rattle.agg_outside.specs.Rows.{Held}
use Rattle.row_epochs.specs.Seen.{view, without_dead}
use Rattle.hot_keeper.specs.Pruning.{pruned}

-- without the rows that were killed at an epoch or before
abbrev pub purged : ℕ → Held → Held
purged oldest held = record held { rows = without_dead oldest held.rows }

-- what is held after a prune at an epoch, up to a step
abbrev pub after_prune : ℕ → ℕ → ℕ → ℕ → ℕ → Held → Held
after_prune epoch end size oldest limit held = purged oldest (pruned epoch (end * size) end limit held)

-- epochs from one on and up to another are shown what they were shown
abbrev pub SameBetween : ℕ → ℕ → List Row → List Row → Type 0
SameBetween first last old new = (epoch : ℕ) → first ≤ epoch → epoch ≤ last → view epoch new ≡ view epoch old
