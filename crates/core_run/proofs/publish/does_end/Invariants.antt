use Rattle.std.proofs.Common.{◌≡◌, ◌-◌, ◌&&◌, drop, find, ℕ}
use Rattle.std.specs.Prelude.{nat_le}
use Rattle.core_machine.specs.Publishing.{has_group, range_at, size_to}
use Rattle.core_run.proofs.publish.does_end.Given as goal

abbrev pub invariant-loop-count : goal.invariant-loop-count
invariant-loop-count l =
    find (λ (size : ℕ). nat_le size l.to && has_group l.names.keys l.entity (range_at (l.to - size) size)) (drop l.count-index l.count-items) ≡ size_to l.names.keys l.entity l.to
