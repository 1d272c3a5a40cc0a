use Rattle.std.proofs.Common.{◌≡◌, length}
use Rattle.inverted_index.specs.EfFile.{words_of}
use Rattle.window_pages.proofs.KeyWalks.{IsWalked}
use Rattle.window_pages.proofs.lists.key_from.Given as goal

abbrev pub invariant-loop-pair : goal.invariant-loop-pair
invariant-loop-pair l = record {
  ends : l._pair-end ≡ length (words_of l.ef.lists);
  walked : IsWalked l.ef.lists l.first l.at l._pair;
}
