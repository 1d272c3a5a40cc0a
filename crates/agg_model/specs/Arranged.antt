-- The changes sorted by entity, key and number.
use Rattle.std.specs.Prelude.{ℕ, List, [], ◌∷◌, if◌then◌else◌, Option, Some, None, All, IsTrue}
use Rattle.agg_model.specs.declared.entity.Entity.{Entity}
use Rattle.agg_model.specs.declared.change.Change.{Change}
use Rattle.agg_model.specs.Place.{Place, place_of, is_before, is_of}
use Rattle.agg_model.specs.ChangeList.{last_where, value_of}

-- the change put in at its place, behind all that are not after it
abbrev pub put_in : Change → List Change → List Change
put_in c [] = c ∷ []
put_in c (d ∷ ds) = if is_before (place_of c) (place_of d) then c ∷ d ∷ ds else d ∷ put_in c ds

-- sorted changes after more are put in, one by one
abbrev pub arranged_from : List Change → List Change → List Change
arranged_from acc [] = acc
arranged_from acc (c ∷ cs) = arranged_from (put_in c acc) cs

unfoldable pub arranged : List Change → List Change
arranged cs = arranged_from [] cs

-- each change is before all later ones
abbrev pub Ascend : List Change → Type 0
Ascend [] = Unit {0}
Ascend (c ∷ cs) = All (λ d. IsTrue (is_before (place_of c) (place_of d))) cs × Ascend cs

-- the last change before a place
unfoldable pub last_before : Place → List Change → Option Change
last_before p cs = last_where (λ c. is_before (place_of c) p) cs

-- the value of the entity and key, where the change is one of them
abbrev pub value_for : Entity → List ℕ → Option Change → Option (List ℕ)
value_for e k None = None
value_for e k (Some c) = if is_of e k c then value_of c else None
