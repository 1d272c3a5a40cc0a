-- Which files a list has: every kind of every entity, one group for each complete step.
use Rattle.std.specs.Prelude.{ℕ, zero, suc, ◌+◌, ◌/◌, Bool, List, [], ◌∷◌, ◌++◌}
use Rattle.agg_model.specs.declared.entity.Entity.{Entity}
use Rattle.agg_model.specs.declared.entity.Range.{Range}
use Rattle.agg_model.specs.declared.entity.FileKind.{FileKind}
use Rattle.agg_model.specs.ChangeList.{ChangeList}
use Rattle.merge_ranges.specs.declared.name.FileName.{FileName}
use Rattle.merge_ranges.specs.Name.{has_kind}
use Rattle.merge_ranges.specs.CanonicalNames.{names_over}

-- how many steps are complete
abbrev pub complete_steps : ChangeList → ℕ
complete_steps list = list.next / list.size

-- whether the entity has files of this kind
abbrev pub is_built : Entity → FileKind → Bool
is_built e k = has_kind e k

-- one step alone
abbrev pub single_step : ℕ → Range
single_step n = record { from = n; to = n + 1 }

-- the first steps, each alone
abbrev pub single_steps : ℕ → List Range
single_steps zero = []
single_steps (suc n) = single_steps n ++ single_step n ∷ []

-- the ranges of steps that the files of a list are over
abbrev pub cut_of : ChangeList → List Range
cut_of list = single_steps (complete_steps list)

-- the names of the files over these ranges, in the order of names
abbrev pub written_over : List Range → List FileName
written_over ranges = names_over ranges

-- the names of the files of a list, in their order
abbrev pub written_names : ChangeList → List FileName
written_names list = written_over (cut_of list)
