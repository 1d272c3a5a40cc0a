-- Rows as changes, and changes as rows.
use Rattle.std.specs.Prelude.{◌≢◌, ℕ, zero, suc, List, [], ◌∷◌, ◌++◌, map, All, unwrap_or}
use Rattle.agg_outside.specs.declared.rows.RowId.{RowId}
use Rattle.agg_outside.specs.declared.rows.Row.{Row}
use Rattle.agg_outside.specs.declared.rows.RowWrite.{RowWrite}
use Rattle.agg_outside.specs.declared.rows.RowWrite.TheVariants.{Insert, Kill, Floor}
use Rattle.agg_model.specs.declared.entity.Entity.{Entity}
use Rattle.agg_model.specs.declared.entity.Entity.TheVariants.{Accounts, Storage, Code, LogAddrs}
use Rattle.agg_model.specs.declared.entity.Entity.TheVariants.{LogTopics, TracesFrom, TracesTo}
use Rattle.agg_model.specs.declared.change.Act.{Act}
use Rattle.agg_model.specs.declared.change.Act.TheVariants.{Mark}
use Rattle.agg_model.specs.Act.{act_number, act_value, act_in}
use Rattle.agg_model.specs.declared.change.Change.{Change}
use Rattle.agg_model.specs.Entity.{entity_number}
use Rattle.agg_model.specs.Place.{place_of}
use Rattle.row_epochs.specs.Seen.{seen}

-- the entity and the act of a row, whose numbers are at most 6 and 2
unfoldable pub entity_of : ℕ → Entity
entity_of zero = Accounts
entity_of (suc zero) = Storage
entity_of (suc (suc zero)) = Code
entity_of (suc (suc (suc zero))) = LogAddrs
entity_of (suc (suc (suc (suc zero)))) = LogTopics
entity_of (suc (suc (suc (suc (suc zero))))) = TracesFrom
entity_of (suc (suc (suc (suc (suc (suc n)))))) = TracesTo

unfoldable pub act_of : ℕ → List ℕ → Act
act_of n value = unwrap_or (act_in n value) Mark

-- the change that a row holds
unfoldable pub change_of : Row → Change
change_of row = record { tx = row.id.tx; entity = entity_of row.id.entity; key = row.id.key; act = act_of row.act row.value }

-- the changes that an epoch sees
abbrev pub changes_seen : ℕ → List Row → List Change
changes_seen epoch rows = map change_of (seen epoch rows)

-- no change of the list has the change's place
abbrev pub IsNew : Change → List Change → Type 0
IsNew c cs = All (λ d. place_of d ≢ place_of c) cs

-- the row of a change that is written at an epoch
abbrev pub id_born : ℕ → Change → RowId
id_born epoch c = record { entity = entity_number c.entity; key = c.key; tx = c.tx; born = epoch }

unfoldable pub row_born : ℕ → Change → Row
row_born epoch c = record { id = id_born epoch c; killed = 0; act = act_number c.act; value = act_value c.act }

-- the writes of a batch at an epoch
abbrev pub writes_of : ℕ → List Change → List RowWrite
writes_of epoch changes = map (λ c. Insert (row_born epoch c)) changes

-- the writes that kill rows at an epoch and set the floor
abbrev pub kills_of : ℕ → ℕ → List RowId → List RowWrite
kills_of epoch floor ids = map (λ id. Kill id epoch) ids ++ Floor floor ∷ []
