-- A publish whose step, or whose entity and range, is given.
use Rattle.std.specs.Prelude.{◌≡◌, ℕ, ◌+◌, ◌≤◌, true, List, [], ◌∷◌, length}
use Rattle.agg_model.specs.declared.entity.Entity.{Entity}
use Rattle.agg_model.specs.declared.entity.Range.{Range}
use Rattle.merge_ranges.specs.Cut.{end_from}
use Rattle.core_machine.specs.Texts.{SameNames, AreAmong, entity_texts, all_texts}
use Rattle.core_machine.specs.Publishing.{range_at, is_end, parts_of}

-- the added names are those of all groups over the step, at which the visible ones end and which is complete
pub record IsStep (complete : ℕ) (visible added : List (List ℕ)) (step : ℕ) : Type 0 where
  pub at_end : is_end visible step ≡ true
  pub complete_step : step + 1 ≤ complete
  pub are : SameNames added (all_texts (range_at step 1 ∷ []))

-- the names that are replaced are those of at least two visible groups of the entity whose union is the range
pub record IsUnionOf (visible replaced : List (List ℕ)) (e : Entity) (r : Range) : Type 0 where
  pub ends : end_from r.from (parts_of replaced e r) ≡ r.to
  pub several : 2 ≤ length (parts_of replaced e r)
  pub seen : AreAmong replaced visible
  pub gone : SameNames replaced (entity_texts e (parts_of replaced e r))

-- and the added ones are those of the group over the range
pub record IsMergeTo (visible added replaced : List (List ℕ)) (e : Entity) (r : Range) : Type 0 where
  pub union : IsUnionOf visible replaced e r
  pub are : SameNames added (entity_texts e (r ∷ []))
