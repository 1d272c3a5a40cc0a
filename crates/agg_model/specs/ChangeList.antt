-- The list of all changes, and what a key holds just before a number.
use Rattle.std.specs.Prelude.{ℕ, ◌+◌, ◌++◌, ◌*◌, ◌^◌, ◌<◌, ◌≤◌, Bool, List, [], ◌∷◌, ◌&&◌, nat_lt, nat_le, false, if◌then◌else◌, Option, Some, None, All}
use Rattle.std.specs.Option.{option_or, option_and_then}
use Rattle.agg_model.specs.declared.entity.Entity.{Entity}
use Rattle.agg_model.specs.declared.change.Act.{Act}
use Rattle.agg_model.specs.declared.change.Act.TheVariants.{Put, Del, Mark}
use Rattle.agg_model.specs.declared.change.Change.{Change}
use Rattle.agg_model.specs.declared.limits.TheConstants.{STEPS_MOST}
use Rattle.agg_model.specs.Place.{is_of}
use Rattle.agg_model.specs.Batch.{AscendFrom, HasNoRepeats, IsChange, content_of}
use Rattle.agg_model.specs.Merged.{merged}

-- all accepted changes in order, the number from which on the next ones come, and how many numbers a step has
pub record ChangeList : Type 0 where
  pub changes : List Change
  pub next : ℕ
  pub size : ℕ

pub record IsChangeList (list : ChangeList) : Type 0 where
  pub size_from_one : 1 ≤ list.size
  pub size_within : list.size ≤ 2 ^ 32
  pub next_within : list.next ≤ STEPS_MOST * list.size
  pub below_next : All (λ c. c.tx < list.next) list.changes
  pub ascend : AscendFrom 0 list.changes
  pub no_repeats : HasNoRepeats list.changes
  pub fit : All IsChange list.changes

-- the next number after these changes: one above the last number
abbrev pub next_of : ℕ → List Change → ℕ
next_of next [] = next
next_of next (c ∷ cs) = next_of (c.tx + 1) cs

-- the list after a batch
abbrev pub grown : ChangeList → List Change → ChangeList
grown list batch = record { changes = list.changes ++ batch; next = next_of list.next batch; size = list.size }

-- there is a first change, and it is not below the next number
abbrev pub begins_from : ℕ → List Change → Bool
begins_from next [] = false
begins_from next (c ∷ cs) = nat_le next c.tx

-- whether the list may grow by the pending changes, of repeats the last
abbrev pub may_grow : ℕ → ChangeList → List Change → Bool
may_grow most list pending =
    begins_from list.next pending && nat_le (content_of list.changes + content_of (merged pending)) most

-- the last change that passes the test
abbrev pub last_where : (Change → Bool) → List Change → Option Change
last_where p [] = None
last_where p (c ∷ cs) = option_or (last_where p cs) (if p c then Some c else None)

-- the value that an act leaves
abbrev pub value_of_act : Act → Option (List ℕ)
value_of_act (Put value) = Some value
value_of_act Del = None
value_of_act Mark = None

abbrev pub value_of : Change → Option (List ℕ)
value_of c = value_of_act c.act

-- the change is one of this entity and key, with a number below n
unfoldable pub is_of_before : Entity → List ℕ → ℕ → Change → Bool
is_of_before e k n c = is_of e k c && nat_lt c.tx n

-- the last change of this entity and key with a number below n
unfoldable pub last_change : List Change → Entity → List ℕ → ℕ → Option Change
last_change cs e k n = last_where (is_of_before e k n) cs

-- the value of a key just before the number n
unfoldable pub value_at : List Change → Entity → List ℕ → ℕ → Option (List ℕ)
value_at cs e k n = option_and_then value_of (last_change cs e k n)

unfoldable pub latest : ChangeList → Entity → List ℕ → Option (List ℕ)
latest list e k = value_at list.changes e k list.next

unfoldable pub as_of : ChangeList → Entity → List ℕ → ℕ → Option (List ℕ)
as_of list e k n = value_at list.changes e k n
