use Rattle.std.proofs.Common.{[], ◌∷◌, ◌++◌, ap, sym, ◌∙◌, append_assoc}
use Rattle.std.specs.Vec.Iter.{into_iter_items}
use Rattle.window_reads.proofs.numbers.append.Goals as goal

pub loop-number-init : goal.loop-number-init
loop-number-init c =
    let all = c.into_iter-number-iterator.ensures.into_iter_gives.0 ∙ c.into_vec-number-items.ensures in
    record { can = tt; ends = tt; left = ap (λ xs. c.args.out.now ++ xs) all }

pub loop-number-preserved : goal.loop-number-preserved
loop-number-preserved c =
    let out = c.loop-number.out in
    let rest = into_iter_items c.next.new.self in
    record {
      can = tt;
      ends = tt;
      left =
          ap (λ l. l ++ rest) c.in_ok-push.ensures.ok
          ∙ append_assoc out (c.in-Some.number ∷ []) rest
          ∙ ap (λ l. out ++ l) (sym c.in-Some.ensures.steps.0)
          ∙ c.loop-number.invariant.left;
    }
