use Rattle.std.proofs.Common.{◌≢◌, ◌<◌}
use Rattle.agg_model.specs.Entity.{entity_number, entity_name}
use Rattle.agg_model.specs.declared.entity.Entity.{Entity}
use Rattle.agg_model.proofs.entity.Entity.of_name.Given as goal

abbrev pub invariant-loop-number : goal.invariant-loop-number
invariant-loop-number l = (e : Entity) → entity_number e < l.number → entity_name e ≢ l.name
