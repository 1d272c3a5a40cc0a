use Rattle.std.proofs.Common.{◌+◌, drop, sym, subst, ◌∙◌, arith, ℕ}
use Rattle.std.proofs.lemmas.Option.{cond_some}
use Rattle.word_file.specs.Reading.{has_word, said_length}
use Rattle.word_file.proofs.Walks.{IsWalked, begins, goes_on, stops, ends, none_cond}
use Rattle.word_file.proofs.read.count_words.Goals as goal

pub loop-at-init : goal.loop-at-init
loop-at-init c = begins c.args.bytes.now c.requires

pub returns-in_default : goal.returns-in_default
returns-in_default c =
    let here = drop c.loop-at.at c.args.bytes.now in
    let ended = none_cond (has_word here) (c.loop-at.at + (4 + said_length here)) (sym c.in_default.is ∙ c.word_end.ensures) in
    sym (stops c.args.bytes.now c.loop-at.at c.loop-at.found c.loop-at-test.true ended c.loop-at.invariant)

pub loop-at-preserved : goal.loop-at-preserved
loop-at-preserved c =
    let here = drop c.loop-at.at c.args.bytes.now in
    let found = cond_some (has_word here) (c.loop-at.at + (4 + said_length here)) c.in-Some.end (sym c.word_end.ensures ∙ c.in-Some.is) in
    subst (λ (at : ℕ). IsWalked c.args.bytes.now at (c.loop-at.found + 1)) found.1
    (goes_on c.args.bytes.now c.loop-at.at c.loop-at.found (λ i. omega (arith, c.type_inv.bytes i)) found.0 c.loop-at.invariant)

pub returns : goal.returns
returns c = sym (ends c.args.bytes.now c.loop-at.at c.loop-at.found c.loop-at-test.false c.loop-at.invariant)
