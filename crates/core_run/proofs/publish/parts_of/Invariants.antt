use Rattle.std.proofs.Common.{◌≡◌, ◌++◌}
use Rattle.merge_ranges.specs.Cut.{end_from}
use Rattle.core_machine.specs.Publishing.{parts_from, parts_of}
use Rattle.core_run.proofs.publish.parts_of.Given as goal

abbrev pub invariant-loop-left : goal.invariant-loop-left
invariant-loop-left l = record {
  parts : l.parts ++ parts_from l.left l.names.keys l.entity l.from l.range.to ≡ parts_of l.names.keys l.entity l.range;
  end : l.from ≡ end_from l.range.from l.parts;
}

abbrev pub decreases-loop-left : goal.decreases-loop-left
decreases-loop-left l = l.left
