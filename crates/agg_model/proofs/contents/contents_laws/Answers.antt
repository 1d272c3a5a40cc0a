use Rattle.agg_model.proofs.ContentsLaws.{kv_contents-later, v_contents-later, ef_contents-later, kv_contents-ArePairs, changes_over-arranged}
use Rattle.agg_model.proofs.LastChangesLaws.{kv_contents-step_pairs}
use Rattle.agg_model.proofs.contents.contents_laws.Goals as goal

pub returns-clause-kv_stays : goal.returns-clause-kv_stays
returns-clause-kv_stays c = kv_contents-later

pub returns-clause-v_stays : goal.returns-clause-v_stays
returns-clause-v_stays c = v_contents-later

pub returns-clause-ef_stays : goal.returns-clause-ef_stays
returns-clause-ef_stays c = ef_contents-later

pub returns-clause-pairs : goal.returns-clause-pairs
returns-clause-pairs c = kv_contents-ArePairs

pub returns-clause-sorted : goal.returns-clause-sorted
returns-clause-sorted c = λ list e a b valid order. kv_contents-step_pairs list.size list.changes e a b order valid.ascend

pub returns-clause-within : goal.returns-clause-within
returns-clause-within c = changes_over-arranged
