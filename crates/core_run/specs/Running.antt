-- The running machine, whose names stand in sets.
use Rattle.std.specs.Prelude.{List, map}
use Rattle.core_machine.specs.declared.machine.Machine.{Machine}
use Rattle.core_machine.specs.declared.machine.Opening.{Opening}
use Rattle.core_run.specs.declared.running.Row.{Row}
use Rattle.core_run.specs.declared.running.Running.{Running}

abbrev pub opening_of : Row → Opening
opening_of row = record { caller = row.caller; number = row.number; at = row.at; names = row.names.keys }

abbrev pub openings : List Row → List Opening
openings rows = map opening_of rows

-- the machine that it stands for
abbrev pub machine_of : Running → Machine
machine_of r = record {
  changes = r.changes;
  next = r.next;
  size = r.size;
  opened = openings r.rows.items;
  present = r.present.keys;
  visible = r.visible.keys;
}
