-- The groups of one more step, and the set that they make with those below it.
use Rattle.std.specs.Prelude.{◌≡◌, ℕ, ◌+◌, ◌*◌, ◌<◌, ◌≤◌, List, map, length, All, is_some, IsTrue}
use Rattle.agg_model.specs.ChangeList.{ChangeList}
use Rattle.agg_model.specs.Entity.{is_domain_entity}
use Rattle.merge_ranges.specs.Cut.{is_aligned}
use Rattle.collate_step.specs.Groups.{GroupFiles, step_groups}
use Rattle.visible_files.specs.declared.ids.GroupId.{GroupId}
use Rattle.visible_files.specs.Ids.{AreCuts, replaced_by, added_ids, gone_ids}
use Rattle.visible_files.specs.Sets.{SetOf, SetsOf, NextSet}
use Rattle.state_store.specs.Store.{IsStepBelow}

abbrev pub id_of_group : GroupFiles → GroupId
id_of_group g = record { entity = g.entity; range = g.range }

-- the group begins at the step, and each of its files has a name
pub record IsOfStep (step : ℕ) (g : GroupFiles) : Type 0 where
  pub from : g.range.from ≡ step
  pub aligned : IsTrue (is_aligned g.range)
  pub kv : is_some g.kv ≡ is_domain_entity g.entity
  pub v : is_some g.v ≡ is_domain_entity g.entity

-- the groups are those of one step for all entities, and may follow those of the set
pub record CanAdd (set : SetOf GroupFiles) (added : List GroupFiles) : Type 0 where
  pub count : length added ≡ 7
  pub of_step : All (IsOfStep set.end) added
  pub cuts : AreCuts (map id_of_group (replaced_by id_of_group set.groups added)) (set.end + 1)

-- the next set has the current groups and these, and there is room to make it visible
pub record Follows (sets : SetsOf GroupFiles) (added : List GroupFiles) (next : NextSet GroupFiles) : Type 0 where
  pub before : next.before ≡ sets.current.groups
  pub groups : next.set.groups ≡ replaced_by id_of_group sets.current.groups added
  pub end : next.set.end ≡ sets.current.end + 1
  pub room : 7 * (length (added_ids sets.current.ids next.set.ids) + length (gone_ids sets.current.ids next.set.ids))
      ≤ sets.spare

-- the groups are those of the list's next step, and the others are below it
pub record IsNextStep (list : ChangeList) (step : ℕ) (below added : List GroupFiles) : Type 0 where
  pub is : added ≡ step_groups list step
  pub complete : (step + 1) * list.size ≤ list.next
  pub early : step < 4096
  pub single : All (IsStepBelow step) below
