-- The rows that a keeper holds for a list.
use Rattle.std.specs.Prelude.{◌≡◌, ℕ, List, map, All}
use Rattle.agg_outside.specs.declared.rows.Row.{Row}
use Rattle.agg_outside.specs.Rows.{Held}
use Rattle.agg_model.specs.declared.change.Change.{Change}
use Rattle.agg_model.specs.Arranged.{arranged}
use Rattle.agg_model.specs.ChangeList.{ChangeList}
use Rattle.agg_model.specs.Entity.{entity_number}
use Rattle.agg_model.specs.Act.{act_number, act_value}

-- what a row says, whenever it was born or killed
pub record Said : Type 0 where
  pub entity : ℕ
  pub key : List ℕ
  pub tx : ℕ
  pub act : ℕ
  pub value : List ℕ

abbrev pub said_by : Row → Said
said_by row = record { entity = row.id.entity; key = row.id.key; tx = row.id.tx; act = row.act; value = row.value }

abbrev pub said_of : Change → Said
said_of c = record {
  entity = entity_number c.entity;
  key = c.key;
  tx = c.tx;
  act = act_number c.act;
  value = act_value c.act;
}

-- one row for each change of the list, in the order of rows, all alive, and the floor is 0
pub record HasRows (held : Held) (list : ChangeList) : Type 0 where
  pub rows : map said_by held.rows ≡ map said_of (arranged list.changes)
  pub alive : All (λ row. row.killed ≡ 0) held.rows
  pub floor : held.floor ≡ 0
