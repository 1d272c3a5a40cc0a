use Rattle.std.proofs.Common.{◌≡◌, ◌++◌, drop}
use Rattle.domain_core.specs.KvFile.{words_of}
use Rattle.domain_core.proofs.build.words_for.Given as goal

abbrev pub invariant-loop-pair : goal.invariant-loop-pair
invariant-loop-pair l = record {
  tag : l.writer.tag ≡ l.fn.tag;
  words : l.writer.words ++ words_of (drop l.pair-index l.pairs) ≡ words_of l.pairs;
}
