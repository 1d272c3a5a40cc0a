use Rattle.std.proofs.Common.{◌≡◌, take}
use Rattle.core_machine.specs.Entries.{ArePossible, replay}
use Rattle.core_run.specs.Counts.{IsCounted}
use Rattle.core_run.specs.Running.{machine_of}
use Rattle.core_run.proofs.run.run_core.Given as goal

abbrev pub invariant-loop-entry : goal.invariant-loop-entry
invariant-loop-entry l = record {
  at : l.place ≡ l.entry-index;
  may : ArePossible l.fn.start (take l.entry-index l.entries);
  counted : IsCounted l.running;
  is : machine_of l.running ≡ replay l.fn.start (take l.entry-index l.entries);
}
