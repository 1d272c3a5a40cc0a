-- What disks in memory are seen as.
use Rattle.std.specs.Prelude.{List}
use Rattle.agg_outside.specs.declared.file_map.FileEntry.{FileEntry}
use Rattle.memory_side.specs.Memory.{CallCount}

-- the files in the order of their names, and the calls so far
pub record FailingDisk : Type 0 where
  pub files : List FileEntry
  pub count : CallCount

-- the files of a disk that never fails, in the order of their names
pub record SureFiles : Type 0 where
  pub files : List FileEntry
