use Rattle.std.proofs.lemmas.List.Elements.{All-contains}
use Rattle.agg_core.specs.Names.{complete_steps, single_steps, written_over}
use Rattle.agg_core.proofs.Written.{IsDue, are_due, complete-small, complete-within}
use Rattle.agg_core.proofs.laws.written_laws.Goals as goal

pub returns : goal.returns
returns c = record {
  within = λ list name valid there.
      All-contains (IsDue list) (written_over (single_steps (complete_steps list))) name (are_due list (complete_steps list) (complete-small list valid) (complete-within list)) there;
}
