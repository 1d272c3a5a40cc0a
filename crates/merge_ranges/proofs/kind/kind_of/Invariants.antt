use Rattle.std.proofs.Common.{◌≢◌, ◌<◌}
use Rattle.merge_ranges.specs.Kind.{kind_number, ending}
use Rattle.agg_model.specs.declared.entity.FileKind.{FileKind}
use Rattle.merge_ranges.proofs.kind.kind_of.Given as goal

abbrev pub invariant-loop-number : goal.invariant-loop-number
invariant-loop-number l = (k : FileKind) → kind_number k < l.number → ending k ≢ l.text
