use Rattle.std.proofs.Common.{◌≡◌, true, rules, arith}
use Rattle.core_run.proofs.Candidates.{merge-to-decides}
use Rattle.core_run.proofs.publish.is_merge_to.Goals as goal

pub returns : goal.returns
returns c =
    let on : c.in_ok-union.union ≡ true = first_of (search rules, grind arith) in
    merge-to-decides c.args.visible.now.keys c.args.added.now c.args.replaced.now c.in_ok-set.set.keys c.in_ok-wanted.wanted.keys c.args.name.entity c.args.name.range c.in_ok-cut.cut
    c.are_same.result (c.in_ok-union.ensures.0 on) c.in_ok-cut.ensures c.in_ok-wanted.ensures c.in_ok-set.ensures c.are_same.ensures
