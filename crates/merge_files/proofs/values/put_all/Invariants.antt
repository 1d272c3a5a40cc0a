use Rattle.std.proofs.Common.{◌≡◌, ◌++◌, List, length}
use Rattle.agg_model.specs.declared.contents.Pair.{Pair}
use Rattle.merge_files.specs.KeptPairs.{kept_pairs, ArePut}
use Rattle.merge_files.proofs.values.put_all.Given as goal

abbrev pub invariant-items : goal.invariant-items
invariant-items l = record {
  pairs : List Pair;
  put : ArePut l.fn.writer l.writer pairs;
  left : pairs ++ kept_pairs l.from l.walk ≡ kept_pairs l.from l.fn.walk;
}

abbrev pub decreases-items : goal.decreases-items
decreases-items l = length l.walk
