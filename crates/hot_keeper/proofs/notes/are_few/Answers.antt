use Rattle.std.proofs.Common.{◌∙◌}
use Rattle.std.specs.Ordering.{is_gt}
use Rattle.hot_keeper.specs.Notes.{note_cmp, first_note}
use Rattle.hot_keeper.proofs.NoteLaws.{note_up}
use Rattle.hot_keeper.proofs.notes.are_few.Goals as goal

pub range-range-requires : goal.range-range-requires
range-range-requires c =
    (λ i. is_gt (note_cmp (c.in_ok-first.ensures i) (c.in_ok-end.ensures i))) ∙ note_up c.args.numbers.from (first_note c.args.numbers.to).id c.requires
