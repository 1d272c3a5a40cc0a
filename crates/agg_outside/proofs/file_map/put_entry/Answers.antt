use Rattle.std.proofs.Common.{IsTrue, List, set, sym, ap, subst, ◌∙◌}
use Rattle.agg_outside.specs.declared.file_map.FileEntry.{FileEntry}
use Rattle.agg_outside.specs.FileList.{names_ascend, files_of}
use Rattle.agg_outside.specs.FilePlaces.{IsNamedAt, IsGapFor}
use Rattle.agg_outside.proofs.FileEdits.{files_of-set, files_of-insert, set-names, insert-names}
use Rattle.agg_outside.proofs.file_map.put_entry.Goals as goal

pub returns-in-Ok-clause-ascending : goal.returns-in-Ok-clause-ascending
returns-in-Ok-clause-ascending c =
    let items = c.args.files.now.items in
    let place = c.in-Ok.place in
    let bytes = c.args.bytes in
    let file : FileEntry = c.index_mut.result.now in
    let P : FileEntry → Type 0 = λ x. IsTrue (names_ascend (set items place (record x { bytes = bytes }))) in
    subst P (sym c.index_mut.ensures.value) (set-names items place file bytes c.requires.ascending)

pub returns-in-Ok-clause-files : goal.returns-in-Ok-clause-files
returns-in-Ok-clause-files c =
    let items = c.args.files.now.items in
    let place = c.in-Ok.place in
    let bytes = c.args.bytes in
    let file : FileEntry = c.index_mut.result.now in
    let at : IsNamedAt c.args.name items place = rw (c.deref.ensures.value, c.as_slice.ensures) at c.in-Ok.ensures in
    ap (λ (x : FileEntry). files_of (set items place (record x { bytes = bytes }))) c.index_mut.ensures.value
    ∙ files_of-set c.args.name bytes items place file at

pub returns-in-Ok-insert-clause-ascending : goal.returns-in-Ok-insert-clause-ascending
returns-in-Ok-insert-clause-ascending c =
    let items = c.args.files.now.items in
    let place = c.in-Err.place in
    let new : FileEntry = record { name = c.args.name; bytes = c.args.bytes } in
    let gap : IsGapFor c.args.name items place = rw (c.deref.ensures.value, c.as_slice.ensures) at c.in-Err.ensures in
    rw c.in-Ok-insert.ensures.items (insert-names items place new c.requires.ascending gap)

pub returns-in-Ok-insert-clause-files : goal.returns-in-Ok-insert-clause-files
returns-in-Ok-insert-clause-files c =
    let items = c.args.files.now.items in
    let place = c.in-Err.place in
    let new : FileEntry = record { name = c.args.name; bytes = c.args.bytes } in
    let gap : IsGapFor c.args.name items place = rw (c.deref.ensures.value, c.as_slice.ensures) at c.in-Err.ensures in
    ap (λ (l : List FileEntry). files_of l) c.in-Ok-insert.ensures.items ∙ files_of-insert items place new gap
