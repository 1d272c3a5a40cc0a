-- What files and a window of rows stand for.
use Rattle.std.specs.Prelude.{◌≡◌, ℕ, ◌*◌, List, [], map, Option, Some, unwrap_or}
use Rattle.std.specs.Option.{option_map}
use Rattle.agg_model.specs.declared.change.Change.{Change}
use Rattle.agg_model.specs.declared.contents.Before.{Before}
use Rattle.agg_model.specs.declared.entity.Entity.{Entity}
use Rattle.agg_model.specs.ChangeList.{ChangeList, IsChangeList}
use Rattle.collate_step.specs.Groups.{GroupFiles, AreGroupsBelow, groups_for, pairs_of}
use Rattle.window_laws.specs.Parts.{Part, changes_from}

-- the files are those of the list up to a step, and the window has its changes from there on
pub record Stand (list : ChangeList) (files : List GroupFiles) (told : Option (List Change)) (size end at : ℕ) : Type 0 where
  pub are_changes : IsChangeList list
  pub size_is : list.size ≡ size
  pub files_are : AreGroupsBelow list end files
  pub told_is : told ≡ Some (changes_from (end * list.size) list.changes)
  pub at_is : at ≡ list.next

-- the values before the changes of a group, none where it keeps none
abbrev pub befores_of : GroupFiles → List Before
befores_of g = unwrap_or (option_map (λ f. f.befores) g.v) []

-- a group as the laws of files see it
abbrev pub part_in : ℕ → GroupFiles → Part
part_in size g = record {
  from = g.range.from * size;
  to = g.range.to * size;
  kv = pairs_of g;
  v = befores_of g;
  ef = g.ef.lists;
}

-- those of an entity
abbrev pub parts_for : ℕ → Entity → List GroupFiles → List Part
parts_for size e groups = map (part_in size) (groups_for e groups)
