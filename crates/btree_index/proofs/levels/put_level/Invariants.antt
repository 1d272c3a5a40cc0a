use Rattle.std.proofs.Common.{◌≡◌, ◌*◌, ◌^◌, ◌++◌, map}
use Rattle.std.specs.List.{range_with_len}
use Rattle.std.specs.Prelude.{slice_index}
use Rattle.file_numbers.specs.Lists.{number_bytes}
use Rattle.btree_index.proofs.levels.put_level.Given as goal

abbrev pub invariant-loop-k : goal.invariant-loop-k
invariant-loop-k l = l.out.items ≡ l.initial.out.items ++ number_bytes (map (λ k. slice_index l.offsets (k * 16 ^ l.j)) (range_with_len 0 l.k))
