use Rattle.std.proofs.Common.{◌+◌, cond, ap, ◌∙◌}
use Rattle.visible_files.specs.Held.{count_of}
use Rattle.visible_files.proofs.Pins.{held-same, retired_names-same, shown_name-named}
use Rattle.visible_files.proofs.sets.FileSets.pin.Goals as goal

pub invariant_of-self : goal.invariant_of-self
invariant_of-self g c = record {
  of_current = c.self.invariant.of_current;
  of_held = held-same _ c.self.inside.held.items c.pin_held.new.held.items c.self.invariant.of_held c.pin_held.ensures.others;
  of_strays = c.self.invariant.of_strays;
}

pub returns-clause-counts : goal.returns-clause-counts
returns-clause-counts g c = rw (← c.self.view_is) (λ n. c.pin_held.ensures.counts n ∙ ap (λ b. count_of c.self.inside.held.items n + cond b 1 0) (shown_name-named _ c.self.inside.held.items n c.self.invariant.of_held))

pub returns-clause-retired : goal.returns-clause-retired
returns-clause-retired g c = rw (← c.self.view_is) (retired_names-same c.self.inside.held.items c.pin_held.new.held.items c.pin_held.ensures.others)
