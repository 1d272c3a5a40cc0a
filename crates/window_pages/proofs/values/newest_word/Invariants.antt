use Rattle.std.proofs.Common.{◌≡◌, ◌≤◌, length, take}
use Rattle.window_pages.specs.Finds.{newest_word}
use Rattle.window_pages.proofs.values.newest_word.Given as goal

abbrev pub invariant-loop-left : goal.invariant-loop-left
invariant-loop-left g l = record {
  within : l.left ≤ length l.cursors;
  same : newest_word l.key (take l.left l.cursors) ≡ newest_word l.key l.cursors;
}

abbrev pub decreases-loop-left : goal.decreases-loop-left
decreases-loop-left g l = l.left
