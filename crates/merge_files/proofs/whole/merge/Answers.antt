use Rattle.std.proofs.Common.{map, sym, ◌∙◌}
use Rattle.std.specs.Arc.{arc_value}
use Rattle.merge_files.proofs.Wholes.{no-gap, clash}
use Rattle.merge_files.proofs.whole.merge.Goals as goal

pub returns-in-Some-clause-group : goal.returns-in-Some-clause-group
returns-in-Some-clause-group c =
    λ list e ranges valid adjoin are.
    absurd (clash (sym c.first_gap.ensures ∙ c.in-Some.is) (no-gap list e c.args.range ranges (map (λ g. arc_value g) c.args.inputs.now) c.requires adjoin are))
