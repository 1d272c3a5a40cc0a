use Rattle.std.proofs.Common.{◌<◌, ◌≤◌, ◌-◌, ap, subst, arith}
use Rattle.std.specs.Ordering.{nat_cmp}
use Rattle.std.specs.Cmp.Lexicographic.{slice_cmp}
use Rattle.std.specs.Map.{lookup}
use Rattle.std.specs.BTreeMap.{is_at}
use Rattle.core_run.specs.Counts.{count_of}
use Rattle.core_run.proofs.CountLaws.{count-less, count-last, put-there}
use Rattle.core_run.proofs.counts.uncount_name.Goals as goal

pub returns-then-count-gt1 : goal.returns-then-count-gt1
returns-then-count-gt1 c =
    let old = c.args.counts.now.entries in
    let many : 1 < c.count_of-count.result = omega (arith, c.if-count-gt1.true) in
    let some : 1 < count_of old c.args.name = subst (λ n. 1 < n) c.count_of-count.ensures many in
    let put = put-there c.insert-before.result (lookup (is_at (slice_cmp nat_cmp c.args.name)) old) c.insert-before.ensures.absent c.insert-before.ensures.updates some in
    λ q. count-less old c.insert-before.new.self.entries c.args.name q (c.count_of-count.result - 1) (put.0 q) (ap (λ n. n - 1) c.count_of-count.ensures)

pub returns : goal.returns
returns c =
    let old = c.args.counts.now.entries in
    let low : c.count_of-count.result ≤ 1 = omega (arith, c.if-count-gt1.false) in
    let few : count_of old c.args.name ≤ 1 = subst (λ n. n ≤ 1) c.count_of-count.ensures low in
    λ q. count-last old c.remove-last.new.self.entries c.args.name q (c.remove-last.ensures.updates.0 q) few
