use Rattle.std.proofs.Common.{All, List, sym, subst}
use Rattle.std.specs.Vec.Iter.{into_iter_items}
use Rattle.std.proofs.lemmas.List.Elements.{All-cons}
use Rattle.agg_outside.specs.declared.rows.RowId.{RowId}
use Rattle.hot_keeper.specs.Notes.{HasNote}
use Rattle.hot_keeper.proofs.notes.add_notes.Goals as goal

pub loop-id-preserved : goal.loop-id-preserved
loop-id-preserved c =
    let at = c.loop-id in
    record {
      can = tt;
      ends = tt;
      keep = λ other has. c.in_ok-add_note.ensures.keeps other (at.invariant.keep other has);
      left = λ last more rest.
          let F : List RowId → Type 0 = λ l. All (HasNote last) l in
          at.invariant.left last (λ other has. more other (c.in_ok-add_note.ensures.keeps other has))
          (subst F (sym c.in-Some.ensures.steps.0) (All-cons (HasNote last) c.in-Some.id (into_iter_items c.next.new.self) (more c.in-Some.id c.in_ok-add_note.ensures.has) rest));
    }
