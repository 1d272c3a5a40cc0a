use Rattle.std.proofs.Common.{List, ◌∙◌, subst}
use Rattle.core_run.specs.declared.running.Row.{Row}
use Rattle.core_run.specs.Counts.{AreCounted}
use Rattle.core_run.proofs.NameSets.{set-of-form}
use Rattle.core_run.proofs.running.running_of.Goals as goal

pub returns-clause-is : goal.returns-clause-is
returns-clause-is c = λ i. record {
  changes = c.args.machine.changes;
  next = c.args.machine.next;
  size = c.args.machine.size;
  opened = c.in_ok-rows.ensures i;
  present = (c.in_ok-present.ensures ∙ set-of-form c.args.machine.present c.requires.form.present) i;
  visible = (c.in_ok-visible.ensures ∙ set-of-form c.args.machine.visible c.requires.form.visible) i;
}

pub returns-clause-counted : goal.returns-clause-counted
returns-clause-counted c = subst (λ (rs : List Row). AreCounted c.in_ok-counts.counts.entries rs) c.as_slice.ensures.value c.in_ok-counts.ensures
