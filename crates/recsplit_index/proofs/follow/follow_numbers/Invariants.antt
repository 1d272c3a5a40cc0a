use Rattle.std.proofs.Common.{ℕ, List, ◌++◌, take}
use Rattle.file_numbers.specs.Lists.{number_bytes}
use Rattle.recsplit_index.specs.Layout.{Follows, IsWithin}
use Rattle.recsplit_index.proofs.follow.follow_numbers.Given as goal

abbrev pub invariant-loop-number : goal.invariant-loop-number
invariant-loop-number l = record {
  text : (at : ℕ) (front : List ℕ) → Follows l.bytes at front l.fn.so_far → Follows l.bytes at (front ++ number_bytes (take l.number-index l.numbers)) l.reached;
  within : IsWithin l.bytes l.reached;
}
