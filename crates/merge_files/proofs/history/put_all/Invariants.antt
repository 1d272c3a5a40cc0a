use Rattle.std.proofs.Common.{◌≡◌, ◌++◌, List, length, map}
use Rattle.agg_model.specs.declared.contents.Before.{Before}
use Rattle.merge_files.specs.MergedRows.{row_of, RowsPut}
use Rattle.merge_files.proofs.history.put_all.Given as goal

abbrev pub invariant-items : goal.invariant-items
invariant-items l = record {
  rows : List Before;
  put : RowsPut l.fn.writer l.writer rows;
  left : rows ++ map row_of l.walk ≡ map row_of l.fn.walk;
}

abbrev pub decreases-items : goal.decreases-items
decreases-items l = length l.walk
