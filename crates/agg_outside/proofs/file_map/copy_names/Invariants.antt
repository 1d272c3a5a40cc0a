use Rattle.std.proofs.Common.{◌≡◌, map, take}
use Rattle.agg_outside.specs.declared.file_map.FileEntry.{FileEntry}
use Rattle.agg_outside.proofs.file_map.copy_names.Given as goal

abbrev pub invariant-loop-file : goal.invariant-loop-file
invariant-loop-file l = l.names ≡ map (λ (file : FileEntry). file.name) (take l.file-index l.files)
