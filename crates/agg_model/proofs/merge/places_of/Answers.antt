use Rattle.std.proofs.Common.{◌+◌, ◌++◌, ◌∷◌, [], length, length-append, drop, sym, ◌∙◌, ap, subst, arith}
use Rattle.std.specs.BTreeMap.{get}
use Rattle.agg_model.specs.Merged.{index_of, places_from, put_over}
use Rattle.agg_model.specs.Spot.{spot_cmp, place_of_spot}
use Rattle.agg_model.proofs.Merges.{Goes, goes-after, known-old, known-new, left-next}
use Rattle.agg_model.proofs.merge.places_of.Goals as goal
use Rattle.agg_model.proofs.merge.places_of.Goals.{in-Some+in_ok-push, in_default+in_ok-push-2}

pub overflow_add-count : goal.overflow_add-count
overflow_add-count c = omega (arith, c.loop-i.invariant.few)

pub loop-i-preserved : goal.loop-i-preserved
loop-i-preserved c =
    let before = c.loop-i.invariant in
    let kept = before.kept in
    let places = c.loop-i.places.items in
    let change = c.index-changes-i.result in
    let seen = c.in_ok-before.ensures in
    elim c.match-branch-2.branch [
      | in-Some+in_ok-push w ↦
          let p = w.index-place.result.now in
          let here = known-old c.loop-i.seen _ kept places _ seen.old (before.goes _) w.in-Some.before p w.in-Some.is w.index-place.ensures in
          let items = ap (λ (v : _). v.items) w.places-is ∙ w.in_ok-push.ensures.items in
          record {
            kept = put_over change kept;
            count = here.1 ∙ before.count ∙ sym w.count-is;
            few = omega (arith, w.count-is, before.few);
            long = omega (arith, ap length items, length-append places (p ∷ []), before.long);
            left =
                ap (λ l. l ++ places_from (put_over change kept) (drop (c.loop-i.i + 1) c.args.changes.now)) items
                ∙ left-next places kept c.args.changes.now c.loop-i.i p change c.loop-i-test.true c.index-changes-i.is here.0 _ before.left;
            goes = λ s.
                subst (λ l. Goes (get spot_cmp c.insert.new.self s) l (index_of (place_of_spot s) (put_over change kept))) (sym items)
                (goes-after c.loop-i.seen c.insert.new.self _ kept places c.loop-i.i p seen.updates.0 before.goes (sym before.long) here.0 s);
          }
      | in_default+in_ok-push-2 w ↦
          let count = c.loop-i.count in
          let here = known-new c.loop-i.seen _ kept places _ seen.old (before.goes _) count w.in_default.is before.count in
          let items = ap (λ (v : _). v.items) w.places-is ∙ w.in_ok-push-2.ensures.items in
          record {
            kept = put_over change kept;
            count = here.1 ∙ ap (λ n. n + 1) before.count ∙ sym w.count-is;
            few = omega (arith, w.count-is, before.few);
            long = omega (arith, ap length items, length-append places (count ∷ []), before.long);
            left =
                ap (λ l. l ++ places_from (put_over change kept) (drop (c.loop-i.i + 1) c.args.changes.now)) items
                ∙ left-next places kept c.args.changes.now c.loop-i.i count change c.loop-i-test.true c.index-changes-i.is here.0 _ before.left;
            goes = λ s.
                subst (λ l. Goes (get spot_cmp c.insert.new.self s) l (index_of (place_of_spot s) (put_over change kept))) (sym items)
                (goes-after c.loop-i.seen c.insert.new.self _ kept places c.loop-i.i count seen.updates.0 before.goes (sym before.long) here.0 s);
          }
    ]
