use Rattle.std.proofs.Common.{sym, ◌∙◌}
use Rattle.visible_files.proofs.StrayNames.{forgotten-none, forgotten, forgotten-order}
use Rattle.visible_files.proofs.strays.forget.Goals as goal

pub returns-then-not-is_at-clause-others : goal.returns-then-not-is_at-clause-others
returns-then-not-is_at-clause-others c = forgotten-none c.args.strays.now.items c.as_slice-2.result.now c.args.name c.as_slice-2.ensures.value (sym c.is_at.ensures.there ∙ c.if-not-is_at.true)

pub returns-clause-order : goal.returns-clause-order
returns-clause-order c = forgotten-order c.args.strays.now.items c.remove-name.new.self.items c.place_of_name-at.result c.requires c.remove-name.ensures.items

pub returns-clause-others : goal.returns-clause-others
returns-clause-others c =
    forgotten c.args.strays.now.items c.as_slice-2.result.now c.remove-name.new.self.items c.args.name c.place_of_name-at.result c.as_slice-2.ensures.value c.requires
    (c.is_at.ensures.here c.if-not-is_at.false) (λ d. c.is_at.ensures.same d c.if-not-is_at.false) c.remove-name.ensures.items
