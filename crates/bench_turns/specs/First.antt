-- The pass that starts the threads.
use Rattle.std.specs.Prelude.{◌≡◌, []}
use Rattle.turn_cell.specs.declared.view.Knowledge.{Knowledge}

-- pass 0, which took no turn
abbrev pub IsFirst : {R T : Type 0} → Knowledge R T → Type 0
IsFirst m = (m.number ≡ 0) × (m.mine ≡ [])
