use Rattle.std.proofs.Common.{List, ◌∙◌, ap}
use Rattle.std.specs.FinMap.{get}
use Rattle.agg_outside.specs.declared.file_map.FileEntry.{FileEntry}
use Rattle.agg_outside.specs.FileList.{files_of}
use Rattle.agg_outside.specs.Files.{Files}
use Rattle.agg_outside.proofs.FileEdits.{get-insert_elsewhere}
use Rattle.memory_side.specs.MemoryDisks.{SureFiles}
use Rattle.memory_side.proofs.sure_disk.SureDiskDisk.write_new.Goals as goal

pub returns-clause-others : goal.returns-clause-others
returns-clause-others c = λ other apart.
    let same = ap (λ (d : SureFiles). d.files) c.self.view_is in
    ap (λ (files : Files). get files other) c.in_ok-put.ensures.ok
    ∙ get-insert_elsewhere (files_of c.self.inside.files) c.args.name.now c.args.bytes.now other apart
    ∙ ap (λ (files : List FileEntry). get (files_of files) other) same
