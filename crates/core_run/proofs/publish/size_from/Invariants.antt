use Rattle.std.proofs.Common.{◌≡◌, drop, find, ℕ}
use Rattle.core_machine.specs.Publishing.{has_group, range_at, size_from}
use Rattle.core_run.proofs.publish.size_from.Given as goal

abbrev pub invariant-loop-count : goal.invariant-loop-count
invariant-loop-count l =
    find (λ (size : ℕ). has_group l.names.keys l.entity (range_at l.from size)) (drop l.count-index l.count-items) ≡ size_from l.names.keys l.entity l.from
