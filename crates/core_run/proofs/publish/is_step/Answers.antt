use Rattle.std.proofs.Common.{◌≡◌, true, ◌<◌, sym, ◌∙◌, rules, arith}
use Rattle.core_run.proofs.Candidates.{step-decides}
use Rattle.core_run.proofs.publish.is_step.Goals as goal

pub returns : goal.returns
returns c =
    let on : c.in_ok-at_end.at_end ≡ true = first_of (search rules, grind arith) in
    let below : c.args.step < c.args.complete = omega arith in
    step-decides c.args.complete c.args.step c.args.visible.now.keys c.args.added.now c.in_ok-set.set.keys c.in_ok-wanted.wanted.keys c.in_ok-cut.cut c.are_same.result below
    (sym c.in_ok-at_end.ensures ∙ on) c.in_ok-cut.ensures c.in_ok-wanted.ensures c.in_ok-set.ensures c.are_same.ensures
