use Rattle.std.proofs.Common.{◌≡◌, drop}
use Rattle.core_machine.specs.Texts.{with_names}
use Rattle.core_run.proofs.names.add_names.Given as goal

abbrev pub invariant-loop-name : goal.invariant-loop-name
invariant-loop-name l = with_names l.set.keys (drop l.name-index l.name-items) ≡ with_names l.fn.set.keys l.names
