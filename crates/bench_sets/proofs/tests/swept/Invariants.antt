use Rattle.std.proofs.Common.{◌≡◌}
use Rattle.merge_ranges.specs.declared.name.FileName.{FileName}
use Rattle.visible_files.specs.Held.{count_of}
use Rattle.bench_sets.proofs.tests.swept.Given as goal

abbrev pub invariant-loop-count : goal.invariant-loop-count
invariant-loop-count l = (n : FileName) → count_of l.sets.held n ≡ count_of l.initial.sets.held n
