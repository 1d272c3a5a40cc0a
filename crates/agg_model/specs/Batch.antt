-- Which changes may stand together in a batch.
use Rattle.std.specs.Prelude.{◌≢◌, ℕ, ◌+◌, ◌<◌, ◌≤◌, List, [], ◌∷◌, length, All, IsTrue, Bool, not}
use Rattle.agg_model.specs.declared.entity.Entity.{Entity}
use Rattle.agg_model.specs.declared.change.Act.{Act}
use Rattle.agg_model.specs.declared.change.Act.TheVariants.{Put, Del, Mark}
use Rattle.agg_model.specs.declared.change.Change.{Change}
use Rattle.agg_model.specs.declared.limits.TheConstants.{KEY_MOST, VALUE_MOST}
use Rattle.agg_model.specs.Entity.{is_domain_entity}
use Rattle.agg_model.specs.Place.{place_of}

-- domains take values and deletions, indexes take marks
abbrev pub fits_entity : Entity → Act → Bool
fits_entity e (Put value) = is_domain_entity e
fits_entity e Del = is_domain_entity e
fits_entity e Mark = not (is_domain_entity e)

pub record IsKey (key : List ℕ) : Type 0 where
  pub not_empty : 1 ≤ length key
  pub within : length key ≤ KEY_MOST
  pub bytes : All (λ b. b < 256) key

pub record IsValue (value : List ℕ) : Type 0 where
  pub not_empty : 1 ≤ length value
  pub within : length value ≤ VALUE_MOST
  pub bytes : All (λ b. b < 256) value

abbrev pub HasValue : Act → Type 0
HasValue (Put value) = IsValue value
HasValue Del = Unit {0}
HasValue Mark = Unit {0}

pub record IsChange (c : Change) : Type 0 where
  pub act_fits : IsTrue (fits_entity c.entity c.act)
  pub key : IsKey c.key
  pub value : HasValue c.act

-- the numbers never fall, and begin at `least` or above
abbrev pub AscendFrom : ℕ → List Change → Type 0
AscendFrom least [] = Unit {0}
AscendFrom least (c ∷ cs) = (least ≤ c.tx) × AscendFrom c.tx cs

-- no two changes have the same number, entity and key
abbrev pub HasNoRepeats : List Change → Type 0
HasNoRepeats [] = Unit {0}
HasNoRepeats (c ∷ cs) = All (λ d. place_of d ≢ place_of c) cs × HasNoRepeats cs

-- a batch that may come after the numbers below `next`, with all its numbers below `far`
pub record IsBatch (next far : ℕ) (batch : List Change) : Type 0 where
  pub ascend : AscendFrom next batch
  pub below_far : All (λ c. c.tx < far) batch
  pub fit : All IsChange batch

-- the content of changes: the bytes of key and value, and 64 for each
abbrev pub value_length : Act → ℕ
value_length (Put value) = length value
value_length Del = 0
value_length Mark = 0

abbrev pub content_of_change : Change → ℕ
content_of_change c = length c.key + value_length c.act + 64

abbrev pub content_of : List Change → ℕ
content_of [] = 0
content_of (c ∷ cs) = content_of_change c + content_of cs
