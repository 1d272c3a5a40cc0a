use Rattle.std.proofs.Common.{◌≡◌, drop, map}
use Rattle.merge_ranges.specs.CanonicalNames.{group_names}
use Rattle.core_machine.specs.Texts.{with_names, texts_of}
use Rattle.core_machine.proofs.GroupTexts.{named}
use Rattle.core_run.proofs.names.add_group.Given as goal

abbrev pub invariant-loop-kind : goal.invariant-loop-kind
invariant-loop-kind l =
    with_names l.set.keys (texts_of (map (named l.entity l.range) (drop l.kind-index l.kind-items)))
    ≡ with_names l.fn.set.keys (texts_of (group_names l.entity l.range))
