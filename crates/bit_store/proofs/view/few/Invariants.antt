use Rattle.std.proofs.Common.{◌≡◌, ◌-◌, drop}
use Rattle.bit_store.specs.Counts.{number_in}
use Rattle.bit_store.proofs.view.few.Given as goal

abbrev pub invariant-loop-k : goal.invariant-loop-k
invariant-loop-k l = l.number ≡ number_in (drop (l.len - l.k) l.bytes)
