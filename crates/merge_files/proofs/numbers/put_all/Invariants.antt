use Rattle.std.proofs.Common.{◌≡◌, ◌++◌, ◌<◌, ◌^◌, List, length, map}
use Rattle.agg_model.specs.declared.contents.Times.{Times}
use Rattle.merge_files.specs.MergedLists.{times_of, ListsPut}
use Rattle.merge_files.proofs.numbers.put_all.Given as goal

abbrev pub invariant-items : goal.invariant-items
invariant-items l = record {
  few : l.counted < 2 ^ 23;
  lists : List Times;
  put : ListsPut 0 l.counted l.fn.writer l.writer lists;
  left : lists ++ map times_of l.walk ≡ map times_of l.fn.walk;
}

abbrev pub decreases-items : goal.decreases-items
decreases-items l = length l.walk
