use Rattle.std.proofs.Common.{◌≡◌, ◌≤◌, length}
use Rattle.hashed_words.proofs.filter.empty_slots.Given as goal

abbrev pub invariant-loop : goal.invariant-loop
invariant-loop l = record { count : length l.marks.items ≡ l.counter; within : l.counter ≤ l.slots }
