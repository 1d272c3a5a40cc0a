use Rattle.std.proofs.Common.{length}
use Rattle.command_words.proofs.words.+size_from.Given as goal

abbrev pub decreases-size_from : goal.decreases-size_from
decreases-size_from l = length l.words.now
