use Rattle.std.proofs.Common.{◌≡◌, ◌-◌, ℕ, List}
use Rattle.core_run.specs.Counts.{count_of, times}
use Rattle.core_run.proofs.counts.uncount_names.Given as goal

abbrev pub invariant-loop-name : goal.invariant-loop-name
invariant-loop-name l = record {
  can : (goal.iterator-loop-name).can_next l.name-iterator;
  ends : (goal.iterator-loop-name).is_finite l.name-iterator;
  left : (q : List ℕ) → count_of l.counts.entries q - times l.name-iterator q ≡ count_of l.fn.counts.entries q - times l.fn.names.keys q;
}
