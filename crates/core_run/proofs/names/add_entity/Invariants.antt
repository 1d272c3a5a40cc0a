use Rattle.std.proofs.Common.{◌≡◌, drop}
use Rattle.core_machine.specs.Texts.{with_names, entity_texts}
use Rattle.core_run.proofs.names.add_entity.Given as goal

abbrev pub invariant-loop-range : goal.invariant-loop-range
invariant-loop-range l =
    with_names l.set.keys (entity_texts l.entity (drop l.range-index l.range-items)) ≡ with_names l.fn.set.keys (entity_texts l.entity l.cut)
