use Rattle.std.proofs.Common.{◌≡◌, ◌++◌, drop}
use Rattle.history_core.specs.KeyWord.{words_of}
use Rattle.history_core.proofs.spell.words_for.Given as goal

abbrev pub invariant-loop-row : goal.invariant-loop-row
invariant-loop-row l = record {
  tag : l.writer.tag ≡ l.fn.tag;
  words : l.writer.words ++ words_of (drop l.row-index l.rows) ≡ words_of l.rows;
}
