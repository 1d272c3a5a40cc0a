use Rattle.line_words.proofs.Numerals.{ReadsDigits}
use Rattle.line_words.proofs.words.number.Given as goal

abbrev pub invariant-loop-digit : goal.invariant-loop-digit
invariant-loop-digit l = ReadsDigits l.word l.digit-index l.n
