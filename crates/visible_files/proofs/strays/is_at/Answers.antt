use Rattle.std.proofs.Common.{sym, ◌∙◌}
use Rattle.visible_files.proofs.StrayNames.{stray-at, stray-past}
use Rattle.visible_files.proofs.strays.is_at.Goals as goal

pub returns-then-at-strays-clause-there : goal.returns-then-at-strays-clause-there
returns-then-at-strays-clause-there c = sym (stray-past c.args.strays.now c.args.name c.args.at c.requires.bound c.if-at-strays.true)

pub returns-clause-there : goal.returns-clause-there
returns-clause-there c = c.is_same_name.ensures.same ∙ sym (stray-at c.args.strays.now c.args.name c.args.at _ c.requires.order c.requires.bound c.if-at-strays.false)
