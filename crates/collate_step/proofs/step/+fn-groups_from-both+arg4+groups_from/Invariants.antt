use Rattle.std.proofs.Common.{◌-◌}
use Rattle.agg_model.specs.Entity.{entity_number}
use Rattle.collate_step.proofs.step.+fn-groups_from-both+arg4+groups_from.Given as goal

abbrev pub decreases-both+arg4 : goal.decreases-both+arg4
decreases-both+arg4 g l = 7 - entity_number l.next.entity

abbrev pub decreases-groups_from : goal.decreases-groups_from
decreases-groups_from g l = 7 - entity_number l.place.entity
