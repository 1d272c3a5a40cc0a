use Rattle.std.proofs.Common.{◌≡◌, ◌++◌, drop}
use Rattle.inverted_index.specs.EfFile.{words_of}
use Rattle.inverted_index.proofs.build.words_for.Given as goal

abbrev pub invariant-loop-list : goal.invariant-loop-list
invariant-loop-list l = record {
  tag : l.writer.tag ≡ l.fn.tag;
  words : l.writer.words ++ words_of (drop l.list-index l.lists) ≡ words_of l.lists;
}
