use Rattle.std.proofs.Common.{refl}
use Rattle.agg_model.specs.Entity.{entity_number}
use Rattle.agg_model.specs.Place.{is_of, is_before, place_of, place_cmp}
use Rattle.agg_model.specs.ChangeList.{value_at, last_change, is_of_before}
use Rattle.agg_model.specs.Arranged.{arranged}
use Rattle.agg_model.specs.Contents.{is_within, is_of_within, changes_over, kv_contents, v_contents, times, ef_contents}
use Rattle.agg_model.proofs.tests.contents_of_two_steps.Goals as goal

pub returns-clause-kv_first : goal.returns-clause-kv_first
unfolding entity_number is_of is_before place_of place_cmp value_at last_change is_of_before arranged is_within is_of_within changes_over kv_contents v_contents times ef_contents
returns-clause-kv_first c = refl

pub returns-clause-kv_second : goal.returns-clause-kv_second
unfolding entity_number is_of is_before place_of place_cmp value_at last_change is_of_before arranged is_within is_of_within changes_over kv_contents v_contents times ef_contents
returns-clause-kv_second c = refl

pub returns-clause-kv_both : goal.returns-clause-kv_both
unfolding entity_number is_of is_before place_of place_cmp value_at last_change is_of_before arranged is_within is_of_within changes_over kv_contents v_contents times ef_contents
returns-clause-kv_both c = refl

pub returns-clause-v_second : goal.returns-clause-v_second
unfolding entity_number is_of is_before place_of place_cmp value_at last_change is_of_before arranged is_within is_of_within changes_over kv_contents v_contents times ef_contents
returns-clause-v_second c = refl

pub returns-clause-ef_second : goal.returns-clause-ef_second
unfolding entity_number is_of is_before place_of place_cmp value_at last_change is_of_before arranged is_within is_of_within changes_over kv_contents v_contents times ef_contents
returns-clause-ef_second c = refl
