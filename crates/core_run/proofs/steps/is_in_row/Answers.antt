use Rattle.std.proofs.Common.{ap, ◌∙◌}
use Rattle.std.specs.Prelude.{nat_lt}
use Rattle.core_run.proofs.CountLaws.{counted-seen}
use Rattle.core_run.proofs.steps.is_in_row.Goals as goal

pub returns : goal.returns
returns c =
    ap (nat_lt 0) c.count_of.ensures ∙ counted-seen c.args.running.now.counts.entries c.args.running.now.rows.items c.args.name.now c.requires
