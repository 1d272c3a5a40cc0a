use Rattle.std.proofs.Common.{ap, sym, ◌∙◌}
use Rattle.row_epochs.specs.Changes.{entity_of}
use Rattle.row_epochs.proofs.RowWalks.{entity_back}
use Rattle.row_epochs.proofs.places.entity_in.Goals as goal

pub returns : goal.returns
returns c = sym (entity_back c.in-Some.entity) ∙ ap entity_of c.in-Some.ensures.found
