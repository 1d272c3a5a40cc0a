-- What walks over the groups of all entities find of one.
use Rattle.std.specs.Prelude.{ℕ, ◌*◌, ◌==◌, ◌++◌, nat_le, Bool, List, [], ◌∷◌, reverse, if◌then◌else◌, Option, Some, None, unwrap_or}
use Rattle.std.specs.Option.{option_or, option_and_then}
use Rattle.std.specs.List.{filter}
use Rattle.agg_model.specs.declared.change.Act.{Act}
use Rattle.agg_model.specs.declared.change.Change.{Change}
use Rattle.agg_model.specs.declared.entity.Entity.{Entity}
use Rattle.agg_model.specs.Entity.{entity_number}
use Rattle.agg_model.specs.ChangeList.{value_of_act}
use Rattle.agg_model.specs.Contents.{times}
use Rattle.collate_step.specs.Groups.{GroupFiles}
use Rattle.history_core.specs.Befores.{value_before}
use Rattle.inverted_index.specs.EfFile.{numbers_of, first_from}
use Rattle.window_laws.specs.Parts.{is_between}
use Rattle.window_reads.specs.Standing.{befores_of}

-- the word before the first change of a key in a group from a number on
abbrev pub word_before_in : GroupFiles → List ℕ → ℕ → Option (List ℕ)
word_before_in g k n = option_and_then (λ t. value_before (befores_of g) k t) (first_from g.ef.lists k n)

-- where the group is of the entity and doesn't end by the number
abbrev pub word_from : ℕ → Entity → List ℕ → ℕ → GroupFiles → Option (List ℕ)
word_from size e k n g =
    if entity_number g.entity == entity_number e then (if nat_le (g.range.to * size) n then None else word_before_in g k n)
    else None

-- in the first group that has one
abbrev pub first_word : ℕ → Entity → List ℕ → ℕ → List GroupFiles → Option (List ℕ)
first_word size e k n [] = None
first_word size e k n (g ∷ gs) = option_or (word_from size e k n g) (first_word size e k n gs)

-- the value that an act leaves, or else the one found before
abbrev pub value_left : Option (List ℕ) → Option Act → Option (List ℕ)
value_left found None = found
value_left found (Some act) = value_of_act act

-- the numbers of a key in a group of the entity, from one on and below another
abbrev pub numbers_in_group : Entity → List ℕ → ℕ → ℕ → GroupFiles → List ℕ
numbers_in_group e k a b g =
    if entity_number g.entity == entity_number e then filter (is_between a b) (unwrap_or (numbers_of g.ef.lists k) []) else []

-- those in all groups
abbrev pub numbers_in_groups : Entity → List ℕ → ℕ → ℕ → List GroupFiles → List ℕ
numbers_in_groups e k a b [] = []
numbers_in_groups e k a b (g ∷ gs) = numbers_in_group e k a b g ++ numbers_in_groups e k a b gs

-- and in the changes behind them, descending where they are sought backwards
abbrev pub all_numbers : Entity → List GroupFiles → List Change → List ℕ → ℕ → ℕ → List ℕ
all_numbers e groups behind k a b = numbers_in_groups e k a b groups ++ times behind e k a b

abbrev pub turned : Bool → List ℕ → List ℕ
turned back ns = if back then reverse ns else ns
