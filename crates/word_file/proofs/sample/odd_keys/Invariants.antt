use Rattle.std.proofs.Common.{◌≡◌}
use Rattle.word_file.specs.Sample.{odd_words}
use Rattle.word_file.proofs.sample.odd_keys.Given as goal

abbrev pub invariant-loop-i : goal.invariant-loop-i
invariant-loop-i l = l.writer.words ≡ odd_words l.i
