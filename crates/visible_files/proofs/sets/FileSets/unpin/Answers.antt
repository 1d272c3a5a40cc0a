use Rattle.visible_files.proofs.Pins.{held-same, retired_names-same}
use Rattle.visible_files.proofs.sets.FileSets.unpin.Goals as goal

pub invariant_of-self : goal.invariant_of-self
invariant_of-self g c = record {
  of_current = c.self.invariant.of_current;
  of_held = held-same _ c.self.inside.held.items c.unpin_held.new.held.items c.self.invariant.of_held c.unpin_held.ensures.others;
  of_strays = c.self.invariant.of_strays;
}

pub returns-clause-retired : goal.returns-clause-retired
returns-clause-retired g c = rw (← c.self.view_is) (retired_names-same c.self.inside.held.items c.unpin_held.new.held.items c.unpin_held.ensures.others)
