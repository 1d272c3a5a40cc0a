use Rattle.std.proofs.Common.{sym, subst, ◌∙◌, ap, Option, ℕ}
use Rattle.std.specs.Prelude.{IfSome}
use Rattle.word_file.specs.Difference.{first_difference, IsDifference}
use Rattle.word_file.proofs.Differences.{none_is, is_none_from, first_difference-same, same_from_none, place_of_difference}
use Rattle.word_file.proofs.access.first_difference.Goals as goal

pub returns-clause-same : goal.returns-clause-same
returns-clause-same c = (
  λ none. same_from_none c.args.one.now c.args.other.now (sym c.difference_from.ensures ∙ none_is c.difference_from.result none),
  λ same. is_none_from c.difference_from.result (c.difference_from.ensures ∙ ap (first_difference c.args.one.now) (sym same) ∙ first_difference-same c.args.one.now),
)

pub returns-clause-place : goal.returns-clause-place
returns-clause-place c =
    subst (λ (o : Option ℕ). IfSome o (IsDifference c.args.one.now c.args.other.now)) (sym c.difference_from.ensures) (place_of_difference c.args.one.now c.args.other.now)
