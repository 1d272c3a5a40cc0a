use Rattle.merge_ranges.proofs.NameCounts.{length-names_over}
use Rattle.merge_ranges.proofs.NameOrder.{entity_names-ascend, names_over-ascend, filter-ascend, ascend-distinct}
use Rattle.merge_ranges.proofs.Names.{spelled-injective}
use Rattle.merge_ranges.proofs.name.name_laws.Goals as goal

pub returns-clause-apart : goal.returns-clause-apart
returns-clause-apart c = spelled-injective

pub returns-clause-count : goal.returns-clause-count
returns-clause-count c = length-names_over

pub returns-clause-entity : goal.returns-clause-entity
returns-clause-entity c = entity_names-ascend

pub returns-clause-ascend : goal.returns-clause-ascend
returns-clause-ascend c = names_over-ascend

pub returns-clause-kept : goal.returns-clause-kept
returns-clause-kept c = filter-ascend

pub returns-clause-distinct : goal.returns-clause-distinct
returns-clause-distinct c = ascend-distinct
