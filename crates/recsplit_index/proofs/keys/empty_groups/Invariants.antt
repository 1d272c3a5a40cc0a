use Rattle.std.proofs.Common.{◌≡◌, [], map}
use Rattle.std.specs.List.{range_with_len}
use Rattle.recsplit_index.specs.Index.{bucket_keys}
use Rattle.recsplit_index.proofs.KeyLists.{lists_of}
use Rattle.recsplit_index.proofs.keys.empty_groups.Given as goal

abbrev pub invariant-loop-bucket : goal.invariant-loop-bucket
invariant-loop-bucket l = lists_of l.groups.items ≡ map (bucket_keys l.buckets []) (range_with_len 0 l.bucket)
