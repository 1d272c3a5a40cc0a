use Rattle.std.proofs.Common.{ap, sym, ◌∙◌, Option, unwrap_or}
use Rattle.agg_model.specs.declared.change.Act.{Act}
use Rattle.agg_model.specs.declared.change.Act.TheVariants.{Mark}
use Rattle.row_epochs.specs.Changes.{act_of}
use Rattle.row_epochs.proofs.places.act_in.Goals as goal

pub returns : goal.returns
unfolding act_of
returns c = ap (λ (o : Option Act). unwrap_or o Mark) (sym c.in-Some.is ∙ c.of_number.ensures)
