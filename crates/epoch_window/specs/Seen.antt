-- The changes that an epoch sees from a number on.
use Rattle.std.specs.Prelude.{ℕ, nat_le, List, Option}
use Rattle.std.specs.List.{filter}
use Rattle.std.specs.Option.{option_map}
use Rattle.agg_outside.specs.Rows.{Held}
use Rattle.agg_model.specs.declared.change.Change.{Change}
use Rattle.row_epochs.specs.Changes.{changes_seen}
use Rattle.row_epochs.specs.Versions.{Versions}

-- the changes that an epoch sees from a number on, where the keeper tells its rows
abbrev pub seen_from : ℕ → ℕ → Held → List Change
seen_from epoch from h = filter (λ c. nat_le from c.tx) (changes_seen epoch h.rows)

abbrev pub told_from : ℕ → ℕ → Versions → Option (List Change)
told_from epoch from hot = option_map (seen_from epoch from) hot.told
