use Rattle.std.proofs.Common.{◌+◌, ◌≤◌, ◌≡◌, ℕ, suc, All, take, subst, arith}
use Rattle.hot_keeper.proofs.AheadLaws.{all_more}
use Rattle.hot_keeper.proofs.ahead.are_from.Goals as goal

pub loop-change-preserved : goal.loop-change-preserved
loop-change-preserved c =
    let i = c.loop-change.change-index in
    let more : suc i ≡ i + 1 = omega arith in
    let F : ℕ → Type 0 = λ n. All (λ d. c.args.tx ≤ d.tx) (take n c.args.changes.now) in
    subst F more (all_more (λ d. c.args.tx ≤ d.tx) c.args.changes.now i c.change-item.result c.loop-change-test.true c.change-item.is c.loop-change.invariant c.if-change-tx.false)
