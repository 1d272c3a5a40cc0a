-- Versioned rows as contracts see them.
use Rattle.std.specs.Prelude.{◌≡◌, ℕ, ◌≤◌, true, List, [], ◌∷◌, Option, All, IsTrue, IsSomeAnd}
use Rattle.agg_outside.specs.declared.rows.RowId.{RowId}
use Rattle.agg_outside.specs.declared.rows.Row.{Row}
use Rattle.agg_outside.specs.Rows.{Held, ascends, row_at}
use Rattle.row_epochs.specs.Seen.{is_seen}

-- what the keeper tells, the present epoch, and how often the keeper has failed
pub record Versions : Type 0 where
  pub told : Option Held
  pub epoch : ℕ
  pub faults : ℕ

-- its epochs are at most the present one, and its numbers are those of an entity and an act
pub record IsVersion (epoch : ℕ) (row : Row) : Type 0 where
  pub born : row.id.born ≤ epoch
  pub killed : row.killed ≤ epoch
  pub entity : row.id.entity ≤ 6
  pub act : row.act ≤ 2

-- two rows of the same entity, key and number aren't both seen at an epoch
abbrev pub AreApart : Row → Row → Type 0
AreApart a b =
    a.id.entity ≡ b.id.entity → a.id.key ≡ b.id.key → a.id.tx ≡ b.id.tx →
    (epoch : ℕ) → is_seen epoch a ≡ true → is_seen epoch b ≡ true → ⊥

abbrev pub AllApart : List Row → Type 0
AllApart [] = Unit {0}
AllApart (row ∷ rows) = All (AreApart row) rows × AllApart rows

-- rows with versions up to an epoch
pub record AreVersions (epoch : ℕ) (held : Held) : Type 0 where
  pub in_order : IsTrue (ascends held.rows)
  pub versions : All (IsVersion epoch) held.rows
  pub apart : AllApart held.rows

-- the id is that of an alive row
abbrev pub IsAlive : List Row → RowId → Type 0
IsAlive rows id = IsSomeAnd (row_at id rows) (λ row. row.killed ≡ 0)
