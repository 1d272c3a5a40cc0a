use Rattle.std.proofs.Common.{◌≡◌, map, take}
use Rattle.memory_side.specs.Memory.{Supply}
use Rattle.memory_side.proofs.sure_doors.sources_of.Given as goal

abbrev pub invariant-loop-input : goal.invariant-loop-input
invariant-loop-input l = map (λ (s : Supply). s.left) l.sources.items ≡ take l.input-index l.inputs
