-- What the files of an entity and the changes behind them tell together.
use Rattle.std.specs.Prelude.{◌≡◌, ℕ, ◌*◌, ◌&&◌, ◌++◌, nat_le, nat_lt, Bool, List, [], ◌∷◌, map, find, if◌then◌else◌, Option, None, unwrap_or}
use Rattle.std.specs.Option.{option_or, option_and_then}
use Rattle.std.specs.List.{filter}
use Rattle.agg_model.specs.declared.entity.Entity.{Entity}
use Rattle.agg_model.specs.declared.entity.Range.{Range}
use Rattle.agg_model.specs.declared.change.Change.{Change}
use Rattle.agg_model.specs.declared.contents.Pair.{Pair}
use Rattle.agg_model.specs.declared.contents.Before.{Before}
use Rattle.agg_model.specs.declared.contents.Times.{Times}
use Rattle.agg_model.specs.Arranged.{arranged}
use Rattle.agg_model.specs.ChangeList.{ChangeList, last_change}
use Rattle.agg_model.specs.Contents.{kv_contents, v_contents, ef_contents, times}
use Rattle.agg_model.specs.Pairs.{newest_word, held_value, value_over}
use Rattle.content_laws.specs.Looks.{numbers_in, before_in}
use Rattle.content_laws.specs.Parts.{Adjoin}

-- the changes with numbers from one on, by entity, key and number
unfoldable pub changes_from : ℕ → List Change → List Change
changes_from from cs = arranged (filter (λ c. nat_le from c.tx) cs)

-- what the files over a range of steps hold, and the numbers that are in it
pub record Part : Type 0 where
  pub from : ℕ
  pub to : ℕ
  pub kv : List Pair
  pub v : List Before
  pub ef : List Times

abbrev pub part_of : ℕ → List Change → Entity → Range → Part
part_of size cs e r = record {
  from = r.from * size;
  to = r.to * size;
  kv = kv_contents size cs e r.from r.to;
  v = v_contents size cs e r.from r.to;
  ef = ef_contents size cs e r.from r.to;
}

-- the parts are those of the list over ranges from step 0 up to this step, oldest first
abbrev pub ArePartsBelow : ChangeList → Entity → ℕ → List Part → Type 0
ArePartsBelow list e step parts =
    (ranges : List Range) × (Adjoin 0 ranges step × (parts ≡ map (part_of list.size list.changes e) ranges))

-- ---- values

-- the word of a key in the newest part that has it
abbrev pub newest_in : List Part → List ℕ → Option (List ℕ)
newest_in parts k = newest_word (map (λ p. p.kv) parts) k

-- the numbers of a key in a part
abbrev pub numbers_of : Part → List ℕ → List ℕ
numbers_of p k = unwrap_or (numbers_in p.ef k) []

-- the word before the first change of a key in a part from a number on
abbrev pub word_before : Part → List ℕ → ℕ → Option (List ℕ)
word_before p k n = option_and_then (λ t. before_in p.v k t) (find (nat_le n) (numbers_of p k))

-- the same in the first part that has such a change; what ends by the number is passed over
abbrev pub first_before : List Part → List ℕ → ℕ → Option (List ℕ)
first_before [] k n = None
first_before (p ∷ ps) k n =
    if nat_le p.to n then first_before ps k n else option_or (word_before p k n) (first_before ps k n)

-- the value of a key just before a number, from the parts below another number and the changes behind it
abbrev pub value_found : List Part → List Change → Entity → List ℕ → ℕ → ℕ → Option (List ℕ)
value_found parts behind e k end n =
    if nat_lt n end then held_value (option_or (first_before parts k n) (newest_in parts k))
    else value_over (held_value (newest_in parts k)) (last_change behind e k n)

-- ---- numbers

-- the number is from one on and below another
abbrev pub is_between : ℕ → ℕ → ℕ → Bool
is_between a b t = nat_le a t && nat_lt t b

-- the numbers of a key in the parts from one on and below another, oldest first
abbrev pub numbers_between : List Part → List ℕ → ℕ → ℕ → List ℕ
numbers_between [] k a b = []
numbers_between (p ∷ ps) k a b = filter (is_between a b) (numbers_of p k) ++ numbers_between ps k a b

-- and behind them
abbrev pub numbers_found : List Part → List Change → Entity → List ℕ → ℕ → ℕ → List ℕ
numbers_found parts behind e k a b = numbers_between parts k a b ++ times behind e k a b
