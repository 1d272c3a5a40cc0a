use Rattle.std.proofs.Common.{◌≡◌, ◌&&◌, not, List, ℕ, drop}
use Rattle.core_machine.specs.Texts.{has, IsInForm}
use Rattle.core_run.proofs.names.remove_names.Given as goal

abbrev pub invariant-loop-name : goal.invariant-loop-name
invariant-loop-name l = record {
  was : IsInForm l.fn.set.keys;
  form : IsInForm l.set.keys;
  left : (q : List ℕ) → (has l.set.keys q && not (has (drop l.name-index l.name-items) q)) ≡ (has l.fn.set.keys q && not (has l.names q));
}
