use Rattle.std.proofs.Common.{◌≡◌, take}
use Rattle.agg_outside.proofs.file_map.copy_entries.Given as goal

abbrev pub invariant-loop-file : goal.invariant-loop-file
invariant-loop-file l = l.copies.items ≡ take l.file-index l.files
