-- Groups by entity and range, their order, and the cuts that a list of them makes.
use Rattle.std.specs.Prelude.{◌≡◌, ◌⊎◌, ℕ, suc, ◌+◌, ◌*◌, ◌^◌, ◌≤◌, ◌<◌, slice_index_or, Bool, true, false, not, ◌==◌, ◌&&◌, nat_lt, nat_le, List, [], ◌∷◌, map, filter, length, if◌then◌else◌}
use Rattle.std.specs.List.{list_any}
use Rattle.agg_model.specs.Entity.{entity_number}
use Rattle.agg_model.specs.declared.entity.Entity.{Entity}
use Rattle.agg_model.specs.declared.entity.Entity.TheVariants.{Accounts, Storage, Code, LogAddrs, LogTopics, TracesFrom, TracesTo}
use Rattle.agg_model.specs.declared.entity.Range.{Range}
use Rattle.merge_ranges.specs.Cut.{is_aligned, IsCut, end_of, IsUnionIn}
use Rattle.visible_files.specs.declared.ids.GroupId.{GroupId}

abbrev pub same_entity : Entity → Entity → Bool
same_entity a b = entity_number a == entity_number b

unfoldable pub same_id : GroupId → GroupId → Bool
same_id a b = same_entity a.entity b.entity && (a.range.from == b.range.from) && (a.range.to == b.range.to)

-- the place of a group in order: by the number of its entity, then by its first step, then by its end
unfoldable pub place : GroupId → ℕ
place id = (entity_number id.entity * 2 ^ 64 + id.range.from) * 2 ^ 64 + id.range.to

abbrev pub places : List GroupId → List ℕ
places ids = map place ids

-- each number is above the one before it, and the first at least low
abbrev pub Ascends : ℕ → List ℕ → Type 0
Ascends low [] = Unit {0}
Ascends low (x ∷ xs) = (low ≤ x) × Ascends (suc x) xs

-- no number is below the one before it, and the first is at least low
abbrev pub Rises : ℕ → List ℕ → Type 0
Rises low [] = Unit {0}
Rises low (x ∷ xs) = (low ≤ x) × Rises x xs

-- the first n have keys below k, the others don't
pub record IsLowerBound {X : Type 0} (key : X → ℕ) (xs : List X) (k n : ℕ) : Type 0 where
  pub within : n ≤ length xs
  pub before : (i : ℕ) (d : X) → i < n → key (slice_index_or xs i d) < k
  pub rest : (i : ℕ) (d : X) → n ≤ i → i < length xs → k ≤ key (slice_index_or xs i d)

abbrev pub contains_id : List GroupId → GroupId → Bool
contains_id ids id = list_any (λ x. same_id x id) ids

-- the ranges of an entity, in order
abbrev pub ranges_of : Entity → List GroupId → List Range
ranges_of e [] = []
ranges_of e (id ∷ ids) = if same_entity id.entity e then id.range ∷ ranges_of e ids else ranges_of e ids

-- the ranges of each entity are a cut with this end
pub record AreCuts (ids : List GroupId) (end : ℕ) : Type 0 where
  pub cut : (e : Entity) → IsCut (ranges_of e ids)
  pub ends : (e : Entity) → end_of (ranges_of e ids) ≡ end

-- adjacent aligned ranges from a step on, of which the last ends at `end`
abbrev pub is_cut_to : ℕ → List Range → ℕ → Bool
is_cut_to a [] end = a == end
is_cut_to a (r ∷ rs) end = (r.from == a) && is_aligned r && is_cut_to r.to rs end

-- the test of `AreCuts`
abbrev pub are_cuts : List GroupId → ℕ → Bool
are_cuts ids end =
    is_cut_to 0 (ranges_of Accounts ids) end && is_cut_to 0 (ranges_of Storage ids) end
    && is_cut_to 0 (ranges_of Code ids) end
    && is_cut_to 0 (ranges_of LogAddrs ids) end && is_cut_to 0 (ranges_of LogTopics ids) end
    && is_cut_to 0 (ranges_of TracesFrom ids) end && is_cut_to 0 (ranges_of TracesTo ids) end

-- groups in order, of which each entity's are a cut with this end
pub record IsSet (ids : List GroupId) (end : ℕ) : Type 0 where
  pub order : Ascends 0 (places ids)
  pub cuts : AreCuts ids end

-- it begins where the ranges of its entity end, or is the union of at least two of them
abbrev pub ExtendsOrMerges : List GroupId → GroupId → Type 0
ExtendsOrMerges ids id =
    (id.range.from ≡ end_of (ranges_of id.entity ids)) ⊎ IsUnionIn (ranges_of id.entity ids) id.range

-- the steps of a are all those of b and perhaps more, of the same entity
unfoldable pub covers : GroupId → GroupId → Bool
covers a b = same_entity a.entity b.entity && nat_le a.range.from b.range.from && nat_le b.range.to a.range.to

abbrev pub is_covered : List GroupId → GroupId → Bool
is_covered ids id = list_any (λ a. covers a id) ids

-- one that isn't this one covers it
abbrev pub is_inside : List GroupId → GroupId → Bool
is_inside ids id = list_any (λ a. covers a id && not (same_id a id)) ids

module _ {X : Type 0} (id_of : X → GroupId) where
  -- x behind those that are before it
  abbrev pub placed : X → List X → List X
  placed x [] = x ∷ []
  placed x (y ∷ ys) = if nat_lt (place (id_of y)) (place (id_of x)) then y ∷ placed x ys else x ∷ y ∷ ys

  -- these, one after the other put to their places among those
  abbrev pub all_placed : List X → List X → List X
  all_placed [] ys = ys
  all_placed (x ∷ xs) ys = all_placed xs (placed x ys)

  -- in order
  abbrev pub in_order : List X → List X
  in_order xs = all_placed xs []

  -- those that none of the added covers, and the added ones at their places
  abbrev pub replaced_by : List X → List X → List X
  replaced_by xs added = all_placed added (filter (λ x. not (is_covered (map id_of added) (id_of x))) xs)

-- the ids that are in the second list alone
abbrev pub added_ids : List GroupId → List GroupId → List GroupId
added_ids before after = filter (λ id. not (contains_id before id)) after

-- the ids that are in the first list alone
abbrev pub gone_ids : List GroupId → List GroupId → List GroupId
gone_ids before after = filter (λ id. not (contains_id after id)) before

-- the group of an entity over a range
abbrev pub id_with : {G : Type 0} → (G → Entity) → (G → Range) → G → GroupId
id_with entity range g = record { entity = entity g; range = range g }

-- what the next set lacks of the one before is a part of one of its groups
abbrev pub Replaces : List GroupId → List GroupId → Type 0
Replaces before after =
    (id : GroupId) → contains_id before id ≡ true → contains_id after id ≡ false → is_inside after id ≡ true
