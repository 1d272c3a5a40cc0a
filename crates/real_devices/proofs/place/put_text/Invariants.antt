use Rattle.std.proofs.Common.{◌≡◌, ◌++◌, drop}
use Rattle.real_devices.specs.IdBytes.{ended}
use Rattle.real_devices.proofs.place.put_text.Given as goal

abbrev pub invariant-loop-byte : goal.invariant-loop-byte
invariant-loop-byte l = l.out.items ++ ended (drop l.byte-index l.text) ≡ l.fn.out.items ++ ended l.text
