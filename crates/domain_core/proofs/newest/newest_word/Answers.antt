use Rattle.std.proofs.Common.{◌-◌, sym, ap, ◌∙◌, arith, take}
use Rattle.std.specs.Option.{option_or}
use Rattle.agg_model.specs.Pairs.{newest_word}
use Rattle.domain_core.specs.KvFile.{pairs_of_files}
use Rattle.domain_core.proofs.LookBack.{newest_word-last, words_read-last}
use Rattle.domain_core.proofs.newest.newest_word.Goals as goal

pub returns-in-Some-clause-word : goal.returns-in-Some-clause-word
returns-in-Some-clause-word g c =
    let left = c.loop-left.left in
    let last = newest_word-last c.args.files.now c.args.key.now left c.index-files-left.result c.loop-left-test.true c.loop-left.invariant.within c.index-files-left.is in
    let rest = newest_word (pairs_of_files (take (left - 1) c.args.files.now)) c.args.key.now in
    ap (λ o. option_or o rest) c.in-Some.ensures.value ∙ sym last ∙ c.loop-left.invariant.same

pub returns-in-Some-clause-steps : goal.returns-in-Some-clause-steps
returns-in-Some-clause-steps g c =
    let last = words_read-last c.args.files.now c.args.key.now c.loop-left.left c.index-files-left.result c.loop-left-test.true c.loop-left.invariant.within c.index-files-left.is in
    omega (arith, last, c.in-Some.ensures.steps, c.loop-left.invariant.read)

pub loop-left-preserved : goal.loop-left-preserved
loop-left-preserved g c =
    let left = c.loop-left.left in
    let last = newest_word-last c.args.files.now c.args.key.now left c.index-files-left.result c.loop-left-test.true c.loop-left.invariant.within c.index-files-left.is in
    let rest = newest_word (pairs_of_files (take (left - 1) c.args.files.now)) c.args.key.now in
    let fewer = words_read-last c.args.files.now c.args.key.now left c.index-files-left.result c.loop-left-test.true c.loop-left.invariant.within c.index-files-left.is in
    record {
      within = omega arith;
      same = ap (λ o. option_or o rest) c.in_default.ensures.value ∙ sym last ∙ c.loop-left.invariant.same;
      read = omega (arith, fewer, c.in_default.ensures.steps, c.loop-left.invariant.read);
    }
