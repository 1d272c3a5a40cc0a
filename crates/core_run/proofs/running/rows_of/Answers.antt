use Rattle.std.proofs.Common.{All, List, subst}
use Rattle.std.specs.Vec.Iter.{into_iter_items}
use Rattle.std.proofs.lemmas.List.Elements.{All-tail}
use Rattle.core_machine.specs.declared.machine.Opening.{Opening}
use Rattle.core_machine.specs.Texts.{IsInForm}
use Rattle.core_run.proofs.RowPlaces.{openings-step}
use Rattle.core_run.proofs.running.rows_of.Goals as goal

pub loop-row-preserved : goal.loop-row-preserved
loop-row-preserved c =
    let at = c.loop-row in
    let P : Opening → Type 0 = λ row. IsInForm row.names in
    let rest = into_iter_items c.next.new.self in
    record {
      can = tt;
      ends = tt;
      form = All-tail P c.in-Some.row rest (subst (λ (l : List Opening). All P l) c.in-Some.ensures.steps.0 at.invariant.form);
      left =
          openings-step at.rows.items c.push.new.self.items c.in_ok-row.row c.in-Some.row rest (into_iter_items at.row-iterator) c.args.opened c.in_ok-push.ensures.items c.in_ok-row.ensures
          c.in-Some.ensures.steps.0 at.invariant.left;
    }
