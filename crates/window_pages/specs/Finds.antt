-- What is found of a key in the groups whose next key it is; the others have none of it.
use Rattle.std.specs.Prelude.{ℕ, ◌*◌, ◌||◌, nat_le, nat_lt, Bool, true, false, List, [], ◌∷◌, find, if◌then◌else◌, Option, None, unwrap_or}
use Rattle.std.specs.Option.{option_or, option_and_then}
use Rattle.std.specs.List.{filter}
use Rattle.agg_model.specs.declared.entity.Entity.{Entity}
use Rattle.agg_model.specs.declared.change.Change.{Change}
use Rattle.agg_model.specs.ChangeList.{last_change}
use Rattle.agg_model.specs.Pairs.{word_in, held_value, value_over}
use Rattle.collate_step.specs.Groups.{pairs_of}
use Rattle.history_core.specs.Befores.{value_before}
use Rattle.inverted_index.specs.EfFile.{numbers_of}
use Rattle.window_laws.specs.Parts.{is_between}
use Rattle.window_reads.specs.Standing.{befores_of}
use Rattle.window_pages.specs.Places.{Place, is_at}

-- the numbers of a key
abbrev pub numbers_at : Place → List ℕ → Option (List ℕ)
numbers_at p k = if is_at p.next k then numbers_of p.group.ef.lists k else None

-- some number of the list
abbrev pub has_any : List ℕ → Bool
has_any [] = false
has_any (n ∷ ns) = true

-- whether some of them are from one number on and below another
abbrev pub has_between : List ℕ → ℕ → ℕ → Place → Bool
has_between k a b p = has_any (filter (is_between a b) (unwrap_or (numbers_at p k) []))

abbrev pub have_between : List ℕ → ℕ → ℕ → List Place → Bool
have_between k a b [] = false
have_between k a b (p ∷ ps) = has_between k a b p || have_between k a b ps

-- the word before the first change of a key from a number on, where the group doesn't end by it
abbrev pub word_before : List ℕ → ℕ → Place → Option (List ℕ)
word_before k n p =
    option_and_then (λ t. value_before (befores_of p.group) k t) (option_and_then (find (nat_le n)) (numbers_at p k))

abbrev pub word_from : ℕ → List ℕ → ℕ → Place → Option (List ℕ)
word_from size k n p = if nat_le (p.group.range.to * size) n then None else word_before k n p

-- in the first group that has one
abbrev pub first_word : ℕ → List ℕ → ℕ → List Place → Option (List ℕ)
first_word size k n [] = None
first_word size k n (p ∷ ps) = option_or (word_from size k n p) (first_word size k n ps)

-- the word of a key at the end of a group, and in the last group that has one
abbrev pub word_at : List ℕ → Place → Option (List ℕ)
word_at k p = if is_at p.next k then word_in (pairs_of p.group) k else None

abbrev pub newest_word : List ℕ → List Place → Option (List ℕ)
newest_word k [] = None
newest_word k (p ∷ ps) = option_or (newest_word k ps) (word_at k p)

-- the value of a key just before a number, from the groups below another number and the changes behind them
abbrev pub value_at_places : ℕ → List Place → List Change → Entity → List ℕ → ℕ → ℕ → Option (List ℕ)
value_at_places size places behind e k end n =
    if nat_lt n end then held_value (option_or (first_word size k n places) (newest_word k places))
    else value_over (held_value (newest_word k places)) (last_change behind e k n)
