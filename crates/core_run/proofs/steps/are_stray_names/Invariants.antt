use Rattle.std.proofs.Common.{drop, All}
use Rattle.core_machine.specs.Entries.{IsStrayName}
use Rattle.core_run.specs.Running.{machine_of}
use Rattle.core_run.proofs.steps.are_stray_names.Given as goal

-- those that are left decide
abbrev pub invariant-loop-name : goal.invariant-loop-name
invariant-loop-name l = All (IsStrayName (machine_of l.running)) (drop l.name-index l.name-items) → All (IsStrayName (machine_of l.running)) l.names
