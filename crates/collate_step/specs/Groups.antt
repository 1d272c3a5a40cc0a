-- A group as contracts see it, and the groups of a step.
use Rattle.std.specs.Prelude.{◌≡◌, ℕ, ◌+◌, ◌*◌, ◌==◌, ◌&&◌, nat_le, nat_lt, Bool, List, [], ◌∷◌, map, if◌then◌else◌, Option, Some, None, IfSome, is_some, unwrap_or, IsTrue}
use Rattle.std.specs.Option.{option_map}
use Rattle.std.specs.List.{filter}
use Rattle.agg_model.specs.declared.entity.Entity.{Entity}
use Rattle.agg_model.specs.declared.entity.Entity.TheVariants.{Accounts, Storage, Code, LogAddrs, LogTopics, TracesFrom, TracesTo}
use Rattle.agg_model.specs.declared.entity.Range.{Range}
use Rattle.agg_model.specs.declared.entity.FileKind.{FileKind}
use Rattle.agg_model.specs.declared.entity.FileKind.TheVariants.{Kv, Bt, Kvi, V, Vi, Ef, Efi}
use Rattle.agg_model.specs.declared.change.Change.{Change}
use Rattle.agg_model.specs.Entity.{entity_number, is_domain_entity}
use Rattle.agg_model.specs.Arranged.{arranged}
use Rattle.agg_model.specs.ChangeList.{ChangeList}
use Rattle.agg_model.specs.Contents.{kv_contents, v_contents}
use Rattle.agg_model.specs.declared.contents.Pair.{Pair}
use Rattle.agg_model.specs.Pairs.{held_value, newest_word, word_in}
use Rattle.content_laws.specs.Parts.{Adjoin}
use Rattle.domain_core.specs.KvFile.{TaggedPairs, tagged_pairs, kv_tag, kv_spelling, bt_spelling, kvi_spelling}
use Rattle.history_core.specs.VFile.{TaggedBefores, tagged_befores, v_tag, v_spelling, vi_spelling}
use Rattle.inverted_index.specs.EfFile.{TaggedLists, ef_tag, ef_file, ef_spelling, efi_spelling}
use Rattle.merge_ranges.specs.Cut.{is_aligned}

-- the files of an entity over a range of steps; a domain has values and earlier values
pub record GroupFiles : Type 0 where
  pub entity : Entity
  pub range : Range
  pub kv : Option TaggedPairs
  pub v : Option TaggedBefores
  pub ef : TaggedLists

-- each file says what it is of, at one step size
pub record AreTagged (g : GroupFiles) (size : ℕ) : Type 0 where
  pub kv : IfSome g.kv (λ f. f.tag ≡ kv_tag g.entity size g.range.from g.range.to)
  pub v : IfSome g.v (λ f. f.tag ≡ v_tag g.entity size g.range.from g.range.to)
  pub ef : g.ef.tag ≡ ef_tag g.entity size g.range.from g.range.to

-- the range is aligned, a domain alone has values, and the files are of the entity and the range
pub record IsGroup (g : GroupFiles) : Type 0 where
  pub aligned : IsTrue (is_aligned g.range)
  pub kv : is_some g.kv ≡ is_domain_entity g.entity
  pub v : is_some g.v ≡ is_domain_entity g.entity
  pub tagged : (size : ℕ) × AreTagged g size

-- the bytes of the file of a kind
abbrev pub bytes_of : GroupFiles → FileKind → Option (List ℕ)
bytes_of g Kv = option_map kv_spelling g.kv
bytes_of g Bt = option_map bt_spelling g.kv
bytes_of g Kvi = option_map kvi_spelling g.kv
bytes_of g V = option_map v_spelling g.v
bytes_of g Vi = option_map vi_spelling g.v
bytes_of g Ef = Some (ef_spelling g.ef)
bytes_of g Efi = Some (efi_spelling g.ef)

-- the files of a list
abbrev pub kv_of : ChangeList → Entity → Range → TaggedPairs
kv_of list e r =
    tagged_pairs (kv_tag e list.size r.from r.to) (kv_contents list.size list.changes e r.from r.to)

abbrev pub v_of : ChangeList → Entity → Range → TaggedBefores
v_of list e r = tagged_befores (v_tag e list.size r.from r.to) (v_contents list.size list.changes e r.from r.to)

abbrev pub group_of : ChangeList → Entity → Range → GroupFiles
group_of list e r = record {
  entity = e;
  range = r;
  kv = if is_domain_entity e then Some (kv_of list e r) else None;
  v = if is_domain_entity e then Some (v_of list e r) else None;
  ef = ef_file list.size list.changes e r.from r.to;
}

abbrev pub step_range : ℕ → Range
step_range step = record { from = step; to = step + 1 }

-- all entities in their order
abbrev pub entities : List Entity
entities = Accounts ∷ Storage ∷ Code ∷ LogAddrs ∷ LogTopics ∷ TracesFrom ∷ TracesTo ∷ []

-- the groups of a list over one step
abbrev pub step_groups : ChangeList → ℕ → List GroupFiles
step_groups list step = map (λ e. group_of list e (step_range step)) entities

-- the change's number is one of the step
abbrev pub is_in_step : ℕ → ℕ → Change → Bool
is_in_step size step c = nat_le (step * size) c.tx && nat_lt c.tx ((step + 1) * size)

-- the changes of a list in a step, sorted
abbrev pub step_changes : ChangeList → ℕ → List Change
step_changes list step = arranged (filter (is_in_step list.size step) list.changes)

-- the groups of an entity, in their order
abbrev pub groups_for : Entity → List GroupFiles → List GroupFiles
groups_for e groups = filter (λ g. entity_number g.entity == entity_number e) groups

-- the groups are those of the list over ranges from step 0 up to this step, for each entity
abbrev pub AreGroupsBelow : ChangeList → ℕ → List GroupFiles → Type 0
AreGroupsBelow list step groups =
    (e : Entity) → (ranges : List Range) × (Adjoin 0 ranges step × (groups_for e groups ≡ map (group_of list e) ranges))

-- the pairs of a group, and those of the groups of an entity
abbrev pub pairs_of : GroupFiles → List Pair
pairs_of g = unwrap_or (option_map (λ f. f.pairs) g.kv) []

abbrev pub pairs_for : Entity → List GroupFiles → List (List Pair)
pairs_for e groups = map pairs_of (groups_for e groups)

-- the word of a key in a group, if it is one of the entity
abbrev pub word_of_group : Entity → GroupFiles → List ℕ → Option (List ℕ)
word_of_group e g k = if entity_number g.entity == entity_number e then word_in (pairs_of g) k else None

-- the value of a key in the newest of the groups of the entity that has it
abbrev pub value_in_groups : Entity → List GroupFiles → List ℕ → Option (List ℕ)
value_in_groups e groups k = held_value (newest_word (pairs_for e groups) k)

abbrev pub IsDomain : Entity → Type 0
IsDomain e = IsTrue (is_domain_entity e)
