use Rattle.std.proofs.Common.{◌≡◌, drop}
use Rattle.window_pages.specs.Finds.{have_between}
use Rattle.window_pages.proofs.values.is_between_in_some.Given as goal

abbrev pub invariant-loop-cursor : goal.invariant-loop-cursor
invariant-loop-cursor l =
    have_between l.key l.numbers.from l.numbers.to (drop l.cursor-index l.cursors) ≡ have_between l.key l.numbers.from l.numbers.to l.cursors
