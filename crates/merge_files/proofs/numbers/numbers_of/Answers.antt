use Rattle.std.proofs.Common.{◌≡◌, ◌<◌, ◌++◌, length, arith, sym, ◌∙◌, ap}
use Rattle.merge_files.specs.Shown.{shown}
use Rattle.merge_files.proofs.NumberWords.{numbers-more}
use Rattle.merge_files.proofs.numbers.numbers_of.Goals as goal

pub loop-i-preserved : goal.loop-i-preserved
loop-i-preserved c =
    let words = (shown c.args.item.now).words in
    let within : c.loop-i.i < length words = omega (arith, c.loop-i-test.true, c.lists-i-end.ensures) in
    let found = c.list-list.ensures.found in
    c.in_ok-add_list.ensures ∙ ap (λ ns. ns ++ c.list-list.result) c.loop-i.invariant
    ∙ sym (numbers-more words c.loop-i.i c.list-list.result within found.0 found.1)
