use Rattle.std.proofs.Common.{◌≤◌, List, length, map, sym, ap, ◌∙◌, arith, take_all}
use Rattle.agg_outside.specs.declared.file_map.FileEntry.{FileEntry}
use Rattle.agg_outside.proofs.FileEdits.{keys-files_of}
use Rattle.agg_outside.proofs.file_map.copy_names.Goals as goal

pub returns : goal.returns
returns c =
    let files = c.args.files.now in
    let all : length files ≤ c.loop-file.file-index = omega arith in
    c.loop-file.invariant ∙ ap (λ (l : List FileEntry). map (λ (file : FileEntry). file.name) l) (take_all c.loop-file.file-index files all)
    ∙ sym (keys-files_of files c.requires)
