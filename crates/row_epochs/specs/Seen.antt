-- Which versions of rows an epoch sees.
use Rattle.std.specs.Prelude.{◌≡◌, ℕ, ◌≤◌, Bool, ◌==◌, ◌&&◌, ◌||◌, not, nat_le, nat_lt, List, map}
use Rattle.std.specs.List.{filter}
use Rattle.agg_outside.specs.declared.rows.Row.{Row}

-- it isn't killed
abbrev pub is_alive : Row → Bool
is_alive row = row.killed == 0

-- it was born by the epoch, and wasn't killed by then
unfoldable pub is_seen : ℕ → Row → Bool
is_seen epoch row = nat_le row.id.born epoch && (row.killed == 0 || nat_lt epoch row.killed)

-- the rows that an epoch sees
abbrev pub seen : ℕ → List Row → List Row
seen epoch rows = filter (is_seen epoch) rows

-- what those who see a row are shown: all but when it is killed
abbrev pub shown : Row → Row
shown row = record row { killed = 0 }

-- what an epoch is shown of the rows
abbrev pub view : ℕ → List Row → List Row
view epoch rows = map shown (seen epoch rows)

-- the views up to an epoch, and those from one on, are the same
abbrev pub SameUpTo : ℕ → List Row → List Row → Type 0
SameUpTo last old new = (epoch : ℕ) → epoch ≤ last → view epoch new ≡ view epoch old

abbrev pub SameFrom : ℕ → List Row → List Row → Type 0
SameFrom first old new = (epoch : ℕ) → first ≤ epoch → view epoch new ≡ view epoch old

-- it was killed at the epoch or before
unfoldable pub is_dead : ℕ → Row → Bool
is_dead epoch row = not (row.killed == 0) && nat_le row.killed epoch

-- the rows that no epoch from this one on sees, and the others
abbrev pub dead : ℕ → List Row → List Row
dead epoch rows = filter (is_dead epoch) rows

abbrev pub without_dead : ℕ → List Row → List Row
without_dead epoch rows = filter (λ row. not (is_dead epoch row)) rows
