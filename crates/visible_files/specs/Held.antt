-- Groups whose files are kept: how often each is pinned, and which of its names are retired.
use Rattle.std.specs.Prelude.{◌≡◌, ℕ, ◌+◌, ◌≤◌, Bool, true, false, not, ◌==◌, ◌&&◌, ◌||◌, List, [], ◌∷◌, ◌++◌, map, if◌then◌else◌, Option, Some, None, find, is_none, suc, option_and_then, ◌-◌, ◌^◌}
use Rattle.std.specs.Option.{option_map_or}
use Rattle.agg_model.specs.Entity.{is_domain_entity}
use Rattle.agg_model.specs.declared.entity.Entity.{Entity}
use Rattle.std.specs.List.{list_any, list_all}
use Rattle.agg_model.specs.declared.entity.FileKind.{FileKind}
use Rattle.agg_model.specs.declared.entity.FileKind.TheVariants.{Kv, Bt, Kvi, V, Vi, Ef, Efi}
use Rattle.merge_ranges.specs.Kind.{kind_number}
use Rattle.merge_ranges.specs.Name.{has_kind}
use Rattle.merge_ranges.specs.declared.name.FileName.{FileName}
use Rattle.visible_files.specs.declared.ids.GroupId.{GroupId}
use Rattle.visible_files.specs.declared.held.HeldGroup.{HeldGroup}
use Rattle.visible_files.specs.Ids.{same_id, place, places, Ascends, contains_id, is_inside, added_ids}

-- the group that a file is of
abbrev pub id_of_name : FileName → GroupId
id_of_name n = record { entity = n.entity; range = n.range }

-- the name is one of the group's
abbrev pub is_name_of : FileName → GroupId → Bool
is_name_of n id = same_id id (id_of_name n) && has_kind n.entity n.kind

-- the name is one of a group of the list
abbrev pub is_named : List GroupId → FileName → Bool
is_named ids n = list_any (λ id. is_name_of n id) ids

abbrev pub held_ids : List HeldGroup → List GroupId
held_ids held = map (λ h. h.id) held

abbrev pub held_places : List HeldGroup → List ℕ
held_places held = map (λ h. place h.id) held

-- all but the pins
abbrev pub unpinned : List HeldGroup → List (GroupId × Option FileKind)
unpinned held = map (λ h. (h.id, h.retired)) held

-- the pins of a group, at its names
abbrev pub pins_at : FileName → HeldGroup → ℕ
pins_at n h = if is_name_of n h.id then h.pins else 0

-- how often a file is pinned
abbrev pub count_of : List HeldGroup → FileName → ℕ
count_of [] n = 0
count_of (h ∷ hs) n = pins_at n h + count_of hs n

-- the kind and those behind it, in the order of names
abbrev pub kinds_from : FileKind → List FileKind
kinds_from Kv = Kv ∷ Bt ∷ Kvi ∷ V ∷ Vi ∷ Ef ∷ Efi ∷ []
kinds_from Bt = Bt ∷ Kvi ∷ V ∷ Vi ∷ Ef ∷ Efi ∷ []
kinds_from Kvi = Kvi ∷ V ∷ Vi ∷ Ef ∷ Efi ∷ []
kinds_from V = V ∷ Vi ∷ Ef ∷ Efi ∷ []
kinds_from Vi = Vi ∷ Ef ∷ Efi ∷ []
kinds_from Ef = Ef ∷ Efi ∷ []
kinds_from Efi = Efi ∷ []

abbrev pub name_with : GroupId → FileKind → FileName
name_with id k = record { entity = id.entity; range = id.range; kind = k }

-- the names of these kinds
abbrev pub names_with : GroupId → List FileKind → List FileName
names_with id [] = []
names_with id (k ∷ ks) = name_with id k ∷ names_with id ks

-- the retired names of a group: those from the first that is left on
abbrev pub names_left : GroupId → Option FileKind → List FileName
names_left id None = []
names_left id (Some k) = names_with id (kinds_from k)

-- the retired names, in order
abbrev pub retired_names : List HeldGroup → List FileName
retired_names [] = []
retired_names (h ∷ hs) = names_left h.id h.retired ++ retired_names hs

unfoldable pub same_file : FileName → FileName → Bool
same_file a b = same_id (id_of_name a) (id_of_name b) && (kind_number a.kind == kind_number b.kind)

abbrev pub is_retired : List HeldGroup → FileName → Bool
is_retired held n = list_any (λ m. same_file m n) (retired_names held)

-- the first retired name that isn't pinned
abbrev pub first_unpinned : List HeldGroup → Option FileName
first_unpinned held = find (λ n. count_of held n == 0) (retired_names held)

-- a group that isn't replaced
abbrev pub is_shown : List HeldGroup → GroupId → Bool
is_shown held id = list_any (λ h. is_none h.retired && same_id h.id id) held

-- a group that is replaced and has retired names
abbrev pub is_hidden : List HeldGroup → GroupId → Bool
is_hidden held id = list_any (λ h. not (is_none h.retired) && same_id h.id id) held

-- the first kind of an entity
unfoldable pub first_kind : Entity → FileKind
first_kind e = if is_domain_entity e then Kv else Ef

-- the group with one more pin, where it is visible
abbrev pub raised : HeldGroup → HeldGroup
raised h = if is_none h.retired then record h { pins = h.pins + 1 } else h

-- the group as replaced, where it is visible and none of these
abbrev pub retired_without : List GroupId → HeldGroup → HeldGroup
retired_without ids h =
    if is_none h.retired && not (contains_id ids h.id) then record h { retired = Some (first_kind h.id.entity) } else h

-- 1 for a name of these groups
abbrev pub named_once : List GroupId → FileName → ℕ
named_once ids n = if is_named ids n then 1 else 0

-- all pins could be counted once more
abbrev pub has_full : List HeldGroup → Bool
has_full held = list_any (λ h. h.pins == 2 ^ 64 - 1) held

abbrev pub free_name : GroupId → ℕ → Option FileKind → Option FileName → Option FileName
free_name id pins None rest = rest
free_name id pins (Some k) rest = if pins == 0 then Some (name_with id k) else rest

-- the first name that is left of the first group that is replaced and not pinned
abbrev pub first_free : List HeldGroup → Option FileName
first_free [] = None
first_free (h ∷ hs) = free_name h.id h.pins h.retired (first_free hs)

-- a group that is replaced has only kinds of its entity left
abbrev pub has_kind_left : HeldGroup → Bool
has_kind_left h = option_map_or (λ k. has_kind h.id.entity k) h.retired true

-- what holds of the held groups while these are visible
pub record IsHeld (ids : List GroupId) (held : List HeldGroup) : Type 0 where
  pub order : Ascends 0 (held_places held)
  -- the visible ones are these
  pub shown : (id : GroupId) → is_shown held id ≡ contains_id ids id
  -- a replaced one is a part of one of these
  pub hidden : (id : GroupId) → is_hidden held id ≡ true → is_inside ids id ≡ true
  pub left : list_all has_kind_left held ≡ true

-- pins of some of these groups are taken away, and of those from a place on are not yet
pub record Unpins (before held : List HeldGroup) (ids rest : List GroupId) : Type 0 where
  pub order : Ascends 0 (places rest)
  pub pinned : (n : FileName) → is_named rest n ≡ true → 1 ≤ count_of held n
  pub counts : (n : FileName) → count_of held n + named_once ids n ≡ count_of before n + named_once rest n
  pub others : unpinned held ≡ unpinned before

-- new groups are added as visible ones; those from a place on are not yet
pub record Adds (before : List GroupId) (initial held : List HeldGroup) (all rest : List GroupId) : Type 0 where
  pub rises : Ascends 0 (places rest)
  pub order : Ascends 0 (held_places held)
  pub fresh : (id : GroupId) → contains_id (added_ids before rest) id ≡ true
      → contains_id (held_ids held) id ≡ false
  pub counts : (n : FileName) → count_of held n ≡ count_of initial n
  pub shown : (id : GroupId) →
      (is_shown held id || contains_id (added_ids before rest) id)
      ≡ (is_shown initial id || contains_id (added_ids before all) id)
  pub hidden : (id : GroupId) → is_hidden held id ≡ is_hidden initial id
  pub names : retired_names held ≡ retired_names initial
  pub left : list_all has_kind_left held ≡ list_all has_kind_left initial

-- a visible group without pins is new among these
pub record AddsOne (id : GroupId) (old new : List HeldGroup) : Type 0 where
  pub order : Ascends 0 (held_places new)
  pub ids : (i : GroupId) → contains_id (held_ids new) i ≡ (same_id id i || contains_id (held_ids old) i)
  pub counts : (n : FileName) → count_of new n ≡ count_of old n
  pub shown : (i : GroupId) → is_shown new i ≡ (same_id id i || is_shown old i)
  pub hidden : (i : GroupId) → is_hidden new i ≡ is_hidden old i
  pub names : retired_names new ≡ retired_names old
  pub left : list_all has_kind_left new ≡ list_all has_kind_left old

-- a visible group that the name is of
abbrev pub is_shown_name : List HeldGroup → FileName → Bool
is_shown_name held n = list_any (λ h. is_none h.retired && is_name_of n h.id) held

-- the group as it is when it becomes visible
abbrev pub visible_group : GroupId → HeldGroup
visible_group id = record { id = id; pins = 0; retired = None }

-- replaced and not pinned
abbrev pub is_free : HeldGroup → Bool
is_free h = not (is_none h.retired) && (h.pins == 0)

-- the place of the first group that is free
abbrev pub free_place : List HeldGroup → ℕ
free_place [] = 0
free_place (h ∷ hs) = if is_free h then 0 else suc (free_place hs)

-- the kind behind this one
unfoldable pub kind_after : FileKind → Option FileKind
kind_after Kv = Some Bt
kind_after Bt = Some Kvi
kind_after Kvi = Some V
kind_after V = Some Vi
kind_after Vi = Some Ef
kind_after Ef = Some Efi
kind_after Efi = None

abbrev pub state_after : HeldGroup → Option FileKind → List HeldGroup
state_after h None = []
state_after h (Some k) = record h { retired = Some k } ∷ []

-- the group without the first of its retired names, where some are left then
abbrev pub rest_of : HeldGroup → List HeldGroup
rest_of h = state_after h (option_and_then kind_after h.retired)

-- the first name that is left of the first free group is taken away
abbrev pub without_first : List HeldGroup → List HeldGroup
without_first [] = []
without_first (h ∷ hs) = if is_free h then rest_of h ++ hs else h ∷ without_first hs
