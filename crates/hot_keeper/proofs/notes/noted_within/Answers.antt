use Rattle.std.proofs.Common.{◌≡◌, ◌++◌, List, [], map, sym, ap, subst, ◌∙◌, append-nil}
use Rattle.std.specs.List.{Contains}
use Rattle.agg_outside.specs.declared.rows.RowId.{RowId}
use Rattle.std.specs.Ordering.{is_gt}
use Rattle.hot_keeper.specs.declared.notes.Note.{Note}
use Rattle.hot_keeper.specs.Notes.{note_cmp, first_note}
use Rattle.hot_keeper.proofs.NoteLaws.{note_up, in_range}
use Rattle.hot_keeper.proofs.notes.noted_within.Goals as goal

pub range-note-items-requires : goal.range-note-items-requires
range-note-items-requires c =
    (λ i. is_gt (note_cmp (c.in_ok-first.ensures i) (c.in_ok-end.ensures i))) ∙ note_up c.args.numbers.from (first_note c.args.numbers.to).id c.requires

pub returns : goal.returns
returns c = λ id has low high.
    let at = c.loop-note in
    let done : at.note-iterator ≡ [] = c.in-None.ensures.steps.0 in
    let F : List RowId → Type 0 = λ l. Contains l id in
    subst F
    (sym (sym (append-nil at.ids.items) ∙ ap (λ (l : List Note). at.ids.items ++ map (λ (n : Note). n.id) l) (sym done) ∙ at.invariant.2))
    (in_range c.args.notes.now c.args.numbers.from c.args.numbers.to c.in_ok-first.first c.in_ok-end.end id c.in_ok-first.ensures c.in_ok-end.ensures has low high)
