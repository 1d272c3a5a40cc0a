use Rattle.std.proofs.Common.{◌≡◌, drop}
use Rattle.window_pages.specs.Finds.{first_word}
use Rattle.window_pages.proofs.values.first_word.Given as goal

abbrev pub invariant-loop-cursor : goal.invariant-loop-cursor
invariant-loop-cursor g l = first_word l.size l.key l.n (drop l.cursor-index l.cursors) ≡ first_word l.size l.key l.n l.cursors
