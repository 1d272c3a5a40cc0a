use Rattle.std.proofs.Common.{List, Some, sym, ap, ◌∙◌}
use Rattle.agg_outside.specs.declared.file_map.FileEntry.{FileEntry}
use Rattle.agg_outside.specs.FileList.{files_of}
use Rattle.agg_outside.specs.FilePlaces.{IsNamedAt, IsGapFor}
use Rattle.agg_outside.proofs.FileEdits.{get-named, get-gap, files_of-remove, files_of-remove_absent, remove-names}
use Rattle.agg_outside.proofs.file_map.take_entry.Goals as goal

pub returns-in-Ok-clause-bytes : goal.returns-in-Ok-clause-bytes
returns-in-Ok-clause-bytes c =
    let name = c.args.name.now in
    let items = c.args.files.now.items in
    let file : FileEntry = c.remove-bytes.result in
    let at : IsNamedAt name items c.in-Ok.place = rw c.deref.ensures.value at c.in-Ok.ensures in
    ap (λ (x : FileEntry). Some x.bytes) c.remove-bytes.ensures.value ∙ sym (get-named name items c.in-Ok.place file at)

pub returns-in-Ok-clause-ascending : goal.returns-in-Ok-clause-ascending
returns-in-Ok-clause-ascending c =
    rw c.remove-bytes.ensures.items (remove-names c.args.files.now.items c.in-Ok.place c.requires)

pub returns-in-Ok-clause-files : goal.returns-in-Ok-clause-files
returns-in-Ok-clause-files c =
    let name = c.args.name.now in
    let items = c.args.files.now.items in
    let file : FileEntry = c.remove-bytes.result in
    let at : IsNamedAt name items c.in-Ok.place = rw c.deref.ensures.value at c.in-Ok.ensures in
    ap (λ (l : List FileEntry). files_of l) c.remove-bytes.ensures.items ∙ files_of-remove name items c.in-Ok.place file at

pub returns-in-Err-clause-bytes : goal.returns-in-Err-clause-bytes
returns-in-Err-clause-bytes c =
    let items = c.args.files.now.items in
    let gap : IsGapFor c.args.name.now items c.in-Err.field-0 = rw c.deref.ensures.value at c.in-Err.ensures in
    sym (get-gap c.args.name.now items c.in-Err.field-0 gap)

pub returns-in-Err-clause-files : goal.returns-in-Err-clause-files
returns-in-Err-clause-files c =
    let items = c.args.files.now.items in
    let gap : IsGapFor c.args.name.now items c.in-Err.field-0 = rw c.deref.ensures.value at c.in-Err.ensures in
    files_of-remove_absent c.args.name.now items c.in-Err.field-0 gap
