use Rattle.std.proofs.Common.{◌≡◌, true, List, ℕ, drop}
use Rattle.core_machine.specs.Texts.{has, AreAmong}
use Rattle.core_run.proofs.names.has_all.Given as goal

-- those that are left decide, and are among the names
abbrev pub invariant-loop-name : goal.invariant-loop-name
invariant-loop-name l = record {
  left : ((q : List ℕ) → has (drop l.name-index l.name-items) q ≡ true → has l.set.keys q ≡ true) → AreAmong l.names l.set.keys;
  within : AreAmong (drop l.name-index l.name-items) l.names;
}
