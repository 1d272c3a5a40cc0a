use Rattle.std.proofs.Common.{◌++◌, map, take, reverse, ap, ◌∙◌, arith}
use Rattle.std.specs.Arc.{arc_value}
use Rattle.window_reads.specs.Folds.{numbers_in_group, numbers_in_groups}
use Rattle.window_reads.proofs.NumberPages.{walk-more, found-last}
use Rattle.window_reads.proofs.numbers.files_down.Goals as goal

pub loop-left-preserved : goal.loop-left-preserved
loop-left-preserved c =
    let e = c.args.entity in
    let k = c.args.key.now in
    let a = c.args.numbers.from in
    let b = c.args.numbers.to in
    let files = c.args.files.now in
    let left = c.loop-left.left in
    let z = c.index-files-left.result in
    let out = c.loop-left.out in
    let whole = take c.args.room (c.args.out.now ++ reverse (numbers_in_groups e k a b (map (λ g. arc_value g) files))) in
    let last = found-last e k a b (λ g. arc_value g) files left z c.loop-left-test.true c.loop-left.invariant.within c.index-files-left.is in
    let added = c.in_ok-add_down.ensures ∙ ap (λ g. take c.args.room (out ++ reverse (numbers_in_group e k a b g))) c.deref.ensures in
    let next = walk-more c.args.room out c.add_down.new.out (reverse (numbers_in_group e k a b (arc_value z))) _ _ whole added last c.loop-left.invariant.same in
    record {
      within = omega (arith, c.loop-left.invariant.within);
      short = next.0;
      same = next.1;
    }
