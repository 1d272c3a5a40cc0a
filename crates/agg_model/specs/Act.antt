-- An act as the number and the value in a row.
use Rattle.std.specs.Prelude.{ℕ, ◌==◌, if◌then◌else◌, List, [], Option, Some, None}
use Rattle.agg_model.specs.declared.change.Act.{Act}
use Rattle.agg_model.specs.declared.change.Act.TheVariants.{Put, Del, Mark}

abbrev pub act_number : Act → ℕ
act_number (Put value) = 0
act_number Del = 1
act_number Mark = 2

-- the value, empty where the act has none
abbrev pub act_value : Act → List ℕ
act_value (Put value) = value
act_value Del = []
act_value Mark = []

-- the act that a number and a value tell, if they tell one
abbrev pub act_in : ℕ → List ℕ → Option Act
act_in number value =
    if number == 0 then Some (Put value) else (if number == 1 then Some Del else (if number == 2 then Some Mark else None))
