use Rattle.std.proofs.Common.{◌<◌, ◌≤◌, length, get_or, sym, ◌∙◌, ap, arith}
use Rattle.std.specs.Vec.Iter.{into_iter_items}
use Rattle.agg_model.specs.Merged.{merged_from, merged, place_among, places_from, put_over}
use Rattle.agg_model.proofs.Merges.{first_of_rest, set-placed, push-placed}
use Rattle.agg_model.proofs.merge.placed.Goals as goal

pub loop-change-init : goal.loop-change-init
unfolding merged
loop-change-init c =
    let none = c.new-kept.ensures.items in
    let all = c.into_iter-change-iterator.ensures.into_iter_gives.0 ∙ c.into_vec-change-items.ensures in
    record {
      can = tt;
      ends = tt;
      left = (λ i. merged_from (none i) (all i));
      placed = (λ i. places_from (none i) (all i)) ∙ sym c.requires;
    }

pub loop-change-preserved-then-place-len : goal.loop-change-preserved-then-place-len
loop-change-preserved-then-place-len c =
    let kept = c.loop-change.kept.items in
    let change = c.in-Some.change in
    let rest = into_iter_items c.next.new.self in
    let place = get_or c.args.places.now c.loop-change.at 0 in
    let first = first_of_rest (place_among change kept) (places_from (put_over change kept) rest) c.args.places.now c.loop-change.at (ap (places_from kept) (sym c.in-Some.ensures.steps.0) ∙ c.loop-change.invariant.placed) in
    let below : place < length kept = omega (arith, c.if-place-len.true, c.len.ensures, c.loop-change.kept.ok.0) in
    let here = sym (set-placed kept change place first.here below) in
    record {
      can = tt;
      ends = tt;
      left =
          ap (λ l. merged_from l rest) here
          ∙ ap (merged_from kept) (sym c.in-Some.ensures.steps.0)
          ∙ c.loop-change.invariant.left;
      placed = ap (λ l. places_from l rest) here ∙ sym first.rest;
    }

pub loop-change-preserved-then-place-len-2 : goal.loop-change-preserved-then-place-len-2
loop-change-preserved-then-place-len-2 c =
    let kept = c.loop-change.kept.items in
    let change = c.in-Some.change in
    let rest = into_iter_items c.next.new.self in
    let place = get_or c.args.places.now c.loop-change.at 0 in
    let first = first_of_rest (place_among change kept) (places_from (put_over change kept) rest) c.args.places.now c.loop-change.at (ap (places_from kept) (sym c.in-Some.ensures.steps.0) ∙ c.loop-change.invariant.placed) in
    let below : place < length kept = omega (arith, c.if-place-len.true, c.len.ensures, c.loop-change.kept.ok.0) in
    let here = sym (set-placed kept change place first.here below) in
    record {
      can = tt;
      ends = tt;
      left =
          ap (λ l. merged_from l rest) here
          ∙ ap (merged_from kept) (sym c.in-Some.ensures.steps.0)
          ∙ c.loop-change.invariant.left;
      placed = ap (λ l. places_from l rest) here ∙ sym first.rest;
    }

pub loop-change-preserved : goal.loop-change-preserved
loop-change-preserved c =
    let kept = c.loop-change.kept.items in
    let change = c.in-Some.change in
    let rest = into_iter_items c.next.new.self in
    let place = get_or c.args.places.now c.loop-change.at 0 in
    let first = first_of_rest (place_among change kept) (places_from (put_over change kept) rest) c.args.places.now c.loop-change.at (ap (places_from kept) (sym c.in-Some.ensures.steps.0) ∙ c.loop-change.invariant.placed) in
    let behind : length kept ≤ place = omega (arith, c.if-place-len.false, c.len.ensures, c.loop-change.kept.ok.0) in
    let here = c.in_ok-push.ensures.items ∙ sym (push-placed kept change place first.here behind) in
    record {
      can = tt;
      ends = tt;
      left =
          ap (λ l. merged_from l rest) here
          ∙ ap (merged_from kept) (sym c.in-Some.ensures.steps.0)
          ∙ c.loop-change.invariant.left;
      placed = ap (λ l. places_from l rest) here ∙ sym first.rest;
    }
