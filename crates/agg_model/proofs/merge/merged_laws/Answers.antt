use Rattle.agg_model.proofs.MergedLaws.{merged-HasNoRepeats, merged-IsBatch, value_at-merged, next_of-merged, merged-content, merged-empty}
use Rattle.agg_model.proofs.merge.merged_laws.Goals as goal

pub returns-clause-no_repeats : goal.returns-clause-no_repeats
returns-clause-no_repeats c = merged-HasNoRepeats

pub returns-clause-fits : goal.returns-clause-fits
returns-clause-fits c = merged-IsBatch

pub returns-clause-same_values : goal.returns-clause-same_values
returns-clause-same_values c = λ before cs least e k n up. value_at-merged e k n before cs least up

pub returns-clause-same_next : goal.returns-clause-same_next
returns-clause-same_next c = next_of-merged

pub returns-clause-no_more : goal.returns-clause-no_more
returns-clause-no_more c = merged-content

pub returns-clause-empty : goal.returns-clause-empty
returns-clause-empty c = merged-empty
