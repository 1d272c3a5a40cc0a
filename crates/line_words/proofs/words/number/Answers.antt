use Rattle.std.proofs.Common.{◌≡◌, ◌^◌, ◌<◌, sym, arith, refl, length}
use Rattle.std.proofs.lemmas.Bool.{eqb-true}
use Rattle.line_words.proofs.Numerals.{number_of-none, number_of-far, is_numeral-empty, is_numeral-long, is_numeral-other, value_below, ReadsDigits-more, number_of-read, value_is, above_zero}
use Rattle.std.specs.Str.Parse.{digits_value}
use Rattle.line_words.proofs.words.number.Goals as goal
use Rattle.line_words.proofs.words.number.Goals.{then-is_empty-via-then-is_empty, then-is_empty-via-else-is_empty+then-word-gt19}

pub returns-then-is_empty-clause-exact : goal.returns-then-is_empty-clause-exact
returns-then-is_empty-clause-exact c =
    elim c.then-is_empty.branch [
      | then-is_empty-via-then-is_empty w ↦ rw (number_of-none c.args.word.now (is_numeral-empty c.args.word.now (eqb-true _ _ (sym w.if-is_empty.ensures)))) refl
      | then-is_empty-via-else-is_empty+then-word-gt19 w ↦ rw (number_of-none c.args.word.now (is_numeral-long c.args.word.now (omega arith))) refl
    ]

pub returns-then-not-is_ascii_digit-clause-exact : goal.returns-then-not-is_ascii_digit-clause-exact
returns-then-not-is_ascii_digit-clause-exact c =
    rw (number_of-none c.args.word.now (is_numeral-other c.args.word.now c.loop-digit.digit-index c.loop-digit-test.true (sym c.if-not-is_ascii_digit.ensures.value))) refl

pub overflow_mul-n : goal.overflow_mul-n
overflow_mul-n c =
    let below : c.loop-digit.n < 10 ^ 18 = value_below c.args.word.now c.loop-digit.digit-index c.loop-digit.n c.loop-digit.invariant (omega arith) in
    omega arith

pub overflow_add-n : goal.overflow_add-n
overflow_add-n c =
    let below : c.loop-digit.n < 10 ^ 18 = value_below c.args.word.now c.loop-digit.digit-index c.loop-digit.n c.loop-digit.invariant (omega arith) in
    omega (arith, c.type_inv.word c.loop-digit.digit-index)

pub loop-digit-preserved : goal.loop-digit-preserved
loop-digit-preserved c =
    rw c.from.ensures (ReadsDigits-more c.args.word.now c.loop-digit.digit-index c.loop-digit.n c.loop-digit.invariant c.loop-digit-test.true (sym c.if-not-is_ascii_digit.ensures.value))

pub returns-then-n-clause-exact : goal.returns-then-n-clause-exact
returns-then-n-clause-exact c =
    let word = c.args.word.now in
    let some : 0 < length word = above_zero (length word) (sym c.if-is_empty.ensures) in
    rw (number_of-read word c.loop-digit.digit-index c.loop-digit.n some c.if-word-gt19.false c.loop-digit-test.false c.loop-digit.invariant c.if-n.true) refl

pub returns-else-n-clause-exact : goal.returns-else-n-clause-exact
returns-else-n-clause-exact c =
    let word = c.args.word.now in
    let value : c.loop-digit.n ≡ digits_value 10 word = value_is word c.loop-digit.digit-index c.loop-digit.n c.loop-digit.invariant c.loop-digit-test.false in
    rw (number_of-far word (omega (arith, value))) refl
