use Rattle.merge_ranges.proofs.Texts.{after-found, after-only}
use Rattle.merge_ranges.proofs.text.after.Goals as goal

pub returns-clause-found : goal.returns-clause-found
returns-clause-found c = after-found c.args.text.now c.args.first.now c.strip_prefix.result c.strip_prefix.ensures.cases

pub returns-clause-only : goal.returns-clause-only
returns-clause-only c = after-only c.args.text.now c.args.first.now c.strip_prefix.result c.strip_prefix.ensures.cases
