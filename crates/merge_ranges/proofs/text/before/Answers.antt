use Rattle.merge_ranges.proofs.Texts.{before-found, before-only}
use Rattle.merge_ranges.proofs.text.before.Goals as goal

pub returns-clause-found : goal.returns-clause-found
returns-clause-found c = before-found c.args.text.now c.args.last.now c.strip_suffix.result c.strip_suffix.ensures.cases

pub returns-clause-only : goal.returns-clause-only
returns-clause-only c = before-only c.args.text.now c.args.last.now c.strip_suffix.result c.strip_suffix.ensures.cases
