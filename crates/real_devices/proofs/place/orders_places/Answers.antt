use Rattle.std.proofs.Common.{arith}
use Rattle.real_devices.specs.IdOrder.{id_bytes-cmp}
use Rattle.real_devices.proofs.place.orders_places.Goals as goal

pub returns : goal.returns
returns c =
    id_bytes-cmp c.args.a.now c.args.b.now (record { tx = omega arith; born = omega arith }) (record { tx = omega arith; born = omega arith })
