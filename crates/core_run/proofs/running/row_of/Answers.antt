use Rattle.std.proofs.Common.{◌∙◌}
use Rattle.core_run.proofs.NameSets.{set-of-form}
use Rattle.core_run.proofs.running.row_of.Goals as goal

pub returns : goal.returns
returns c = λ i. record {
  caller = c.args.row.caller;
  number = c.args.row.number;
  at = c.args.row.at;
  names = (c.in_ok-names.ensures ∙ set-of-form c.args.row.names c.requires) i;
}
