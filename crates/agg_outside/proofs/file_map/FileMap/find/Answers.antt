use Rattle.std.proofs.Common.{Some, sym, ap, ◌∙◌}
use Rattle.agg_outside.specs.declared.file_map.FileEntry.{FileEntry}
use Rattle.agg_outside.specs.FilePlaces.{IsNamedAt, IsGapFor}
use Rattle.agg_outside.proofs.FileEdits.{get-named, get-gap}
use Rattle.agg_outside.proofs.file_map.FileMap.find.Goals as goal

pub returns-in-Ok : goal.returns-in-Ok
returns-in-Ok c =
    let name = c.args.name.now in
    let items = c.self.inside.entries.items in
    let file : FileEntry = c.index.result.now in
    let at : IsNamedAt name items c.in-Ok.place = rw c.as_slice.ensures.value at c.in-Ok.ensures in
    rw (← c.self.view_is) (ap (λ (x : FileEntry). Some x.bytes) c.index.ensures ∙ sym (get-named name items c.in-Ok.place file at))

pub returns-in-Err : goal.returns-in-Err
returns-in-Err c =
    let name = c.args.name.now in
    let items = c.self.inside.entries.items in
    let gap : IsGapFor name items c.in-Err.field-0 = rw c.as_slice.ensures.value at c.in-Err.ensures in
    rw (← c.self.view_is) (sym (get-gap name items c.in-Err.field-0 gap))
