use Rattle.std.proofs.Common.{refl}
use Rattle.agg_model.specs.Entity.{entity_number}
use Rattle.agg_model.specs.Place.{is_of, is_before, place_of, place_cmp}
use Rattle.agg_model.specs.ChangeList.{value_at, last_change, is_of_before}
use Rattle.agg_model.specs.Arranged.{arranged}
use Rattle.agg_model.specs.Contents.{is_within, is_of_within, times}
use Rattle.agg_model.specs.Listed.{keys_within, range, history, index}
use Rattle.agg_model.proofs.tests.rows_of_worked.Goals as goal

pub returns-clause-before_the_deletion : goal.returns-clause-before_the_deletion
unfolding entity_number is_of is_before place_of place_cmp value_at last_change is_of_before arranged is_within is_of_within times keys_within range history index
returns-clause-before_the_deletion c = refl

pub returns-clause-behind_the_deletion : goal.returns-clause-behind_the_deletion
unfolding entity_number is_of is_before place_of place_cmp value_at last_change is_of_before arranged is_within is_of_within times keys_within range history index
returns-clause-behind_the_deletion c = refl

pub returns-clause-below_a_key : goal.returns-clause-below_a_key
unfolding entity_number is_of is_before place_of place_cmp value_at last_change is_of_before arranged is_within is_of_within times keys_within range history index
returns-clause-below_a_key c = refl

pub returns-clause-changed_from_five : goal.returns-clause-changed_from_five
unfolding entity_number is_of is_before place_of place_cmp value_at last_change is_of_before arranged is_within is_of_within times keys_within range history index
returns-clause-changed_from_five c = refl

pub returns-clause-numbers : goal.returns-clause-numbers
unfolding entity_number is_of is_before place_of place_cmp value_at last_change is_of_before arranged is_within is_of_within times keys_within range history index
returns-clause-numbers c = refl

pub returns-clause-backwards : goal.returns-clause-backwards
unfolding entity_number is_of is_before place_of place_cmp value_at last_change is_of_before arranged is_within is_of_within times keys_within range history index
returns-clause-backwards c = refl

pub returns-clause-a_page : goal.returns-clause-a_page
unfolding entity_number is_of is_before place_of place_cmp value_at last_change is_of_before arranged is_within is_of_within times keys_within range history index
returns-clause-a_page c = refl

pub returns-clause-the_last_page : goal.returns-clause-the_last_page
unfolding entity_number is_of is_before place_of place_cmp value_at last_change is_of_before arranged is_within is_of_within times keys_within range history index
returns-clause-the_last_page c = refl
