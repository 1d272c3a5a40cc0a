use Rattle.std.proofs.Common.{refl}
use Rattle.real_devices.proofs.Causes.{disk_cause}
use Rattle.real_devices.proofs.dir_disk.DirDiskDisk.TheImpl.Goals as goal

pub list-tells : goal.list-tells
list-tells g x c = record { names = tt; files = refl; cause = disk_cause _ _ c.result c.ensures.counted }

pub read-tells : goal.read-tells
read-tells g x c = record { bytes = tt; files = refl; cause = disk_cause _ _ c.result c.ensures.counted }

pub write_new-tells : goal.write_new-tells
write_new-tells g x c = record {
  ok = tt;
  others = tt;
  silent = refl;
  cause = disk_cause _ _ c.result c.ensures.counted;
}

pub rename-tells : goal.rename-tells
rename-tells g x c = record {
  ok = tt;
  err = tt;
  silent = refl;
  cause = disk_cause _ _ c.result c.ensures.counted;
}

pub remove-tells : goal.remove-tells
remove-tells g x c = record {
  ok = tt;
  err = tt;
  silent = refl;
  cause = disk_cause _ _ c.result c.ensures.counted;
}
