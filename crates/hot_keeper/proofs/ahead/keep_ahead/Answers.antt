use Rattle.std.proofs.Common.{◌≤◌, List, All, sym, subst}
use Rattle.agg_model.specs.declared.change.Change.{Change}
use Rattle.hot_keeper.proofs.AheadLaws.{ahead_batch}
use Rattle.hot_keeper.proofs.ahead.keep_ahead.Goals as goal

pub returns-then-are_from-clause-after : goal.returns-then-are_from-clause-after
returns-then-are_from-clause-after c = λ epoch h ahead.
    let F : List Change → Type 0 = λ l. All (λ d. c.in-Some.kept.tx ≤ d.tx) l in
    ahead_batch c.in-Some.kept c.args.ahead.now epoch c.args.batch.now h c.in-Some.ensures.value (subst F c.as_slice-changes.ensures (c.are_from.ensures c.if-are_from.true)) ahead
