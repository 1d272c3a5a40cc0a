use Rattle.std.proofs.Common.{◌-◌, sym, ap, ◌∙◌, arith, take}
use Rattle.std.specs.Option.{option_or}
use Rattle.window_pages.specs.Finds.{newest_word}
use Rattle.window_pages.proofs.Changes.{newest-last}
use Rattle.window_pages.proofs.values.newest_word.Goals as goal

pub returns-in-Some : goal.returns-in-Some
returns-in-Some g c =
    let cursors = c.args.cursors.now in
    let left = c.loop-left.left in
    let last = newest-last c.args.key.now cursors left c.index-cursors-left.result c.loop-left-test.true c.loop-left.invariant.within c.index-cursors-left.is in
    let rest = newest_word c.args.key.now (take (left - 1) cursors) in
    ap (λ o. option_or o rest) c.in-Some.ensures ∙ sym last ∙ c.loop-left.invariant.same

pub loop-left-preserved : goal.loop-left-preserved
loop-left-preserved g c =
    let cursors = c.args.cursors.now in
    let left = c.loop-left.left in
    let last = newest-last c.args.key.now cursors left c.index-cursors-left.result c.loop-left-test.true c.loop-left.invariant.within c.index-cursors-left.is in
    let rest = newest_word c.args.key.now (take (left - 1) cursors) in
    record {
      within = omega (arith, c.loop-left.invariant.within);
      same = ap (λ o. option_or o rest) c.in_default.ensures ∙ sym last ∙ c.loop-left.invariant.same;
    }
