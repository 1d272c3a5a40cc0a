-- How many open rows have a name.
use Rattle.std.specs.Prelude.{◌≡◌, ℕ, ◌+◌, List, [], ◌∷◌, if◌then◌else◌, Option, Some, None}
use Rattle.std.specs.Ordering.{nat_cmp}
use Rattle.std.specs.Cmp.Lexicographic.{slice_cmp}
use Rattle.std.specs.Map.{lookup}
use Rattle.std.specs.BTreeMap.{is_at}
use Rattle.core_machine.specs.declared.machine.Opening.{Opening}
use Rattle.core_run.specs.declared.running.Row.{Row}
use Rattle.core_run.specs.declared.running.Running.{Running}
use Rattle.core_run.specs.Running.{openings}

abbrev pub or_zero : Option ℕ → ℕ
or_zero None = 0
or_zero (Some n) = n

-- how often the name is counted
abbrev pub count_of : List (List ℕ × ℕ) → List ℕ → ℕ
count_of counts name = or_zero (lookup (is_at (slice_cmp nat_cmp name)) counts)

-- 1 where the two are one name
abbrev pub at_once : List ℕ → List ℕ → ℕ
at_once name q = if is_at (slice_cmp nat_cmp name) q then 1 else 0

-- how often the name stands among these
abbrev pub times : List (List ℕ) → List ℕ → ℕ
times [] q = 0
times (name ∷ names) q = at_once name q + times names q

-- how many of the rows have the name, which stands in none of them twice
abbrev pub times_in : List Opening → List ℕ → ℕ
times_in [] q = 0
times_in (row ∷ rows) q = times row.names q + times_in rows q

-- each name is counted as often as it stands in the rows
abbrev pub AreCounted : List (List ℕ × ℕ) → List Row → Type 0
AreCounted counts rows = (q : List ℕ) → count_of counts q ≡ times_in (openings rows) q

abbrev pub IsCounted : Running → Type 0
IsCounted r = AreCounted r.counts.entries r.rows.items
