use Rattle.std.proofs.Common.{refl}
use Rattle.real_devices.proofs.Causes.{keeper_cause, on_err}
use Rattle.real_devices.proofs.sql_keeper.SqlKeeperKeeper.TheImpl.Goals as goal

pub seek-tells : goal.seek-tells
seek-tells g x c = record { row = tt; held = refl; cause = keeper_cause _ _ c.result c.ensures }

pub seek_back-tells : goal.seek_back-tells
seek_back-tells g x c = record { row = tt; held = refl; cause = keeper_cause _ _ c.result c.ensures }

pub scan_some-tells : goal.scan_some-tells
scan_some-tells g x c = record { rows = tt; held = refl; cause = keeper_cause _ _ c.result c.ensures.counted }

pub floor-tells : goal.floor-tells
floor-tells g x c = record { floor = tt; held = refl; cause = keeper_cause _ _ c.result c.ensures }

pub apply-tells : goal.apply-tells
apply-tells g x c = record {
  ok = tt;
  silent = refl;
  err = on_err c.result _ refl;
  cause = keeper_cause _ _ c.result c.ensures;
}
