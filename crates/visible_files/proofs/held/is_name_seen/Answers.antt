use Rattle.std.proofs.Common.{sym, ◌∙◌}
use Rattle.visible_files.proofs.Seen.{seen-no_kind, seen-past, seen-other, seen-here}
use Rattle.visible_files.proofs.held.is_name_seen.Goals as goal

pub returns-then-not-does_have : goal.returns-then-not-does_have
returns-then-not-does_have c = seen-no_kind c.args.held.now c.args.name (sym c.does_have.ensures ∙ c.if-not-does_have.true)

pub returns-then-at-held : goal.returns-then-at-held
returns-then-at-held c = seen-past c.args.held.now c.args.name c.place_of-at.result c.requires c.place_of-at.ensures c.if-at-held.true

pub returns-then-not-is_same : goal.returns-then-not-is_same
returns-then-not-is_same c = seen-other c.args.held.now c.args.name c.place_of-at.result c.requires c.place_of-at.ensures _ c.if-at-held.false (sym c.is_same.ensures.same ∙ c.if-not-is_same.true)

pub returns : goal.returns
returns c =
    c.is_group_seen.ensures ∙
    seen-here c.args.held.now c.args.name c.place_of-at.result c.requires c.place_of-at.ensures _ c.if-at-held.false (sym c.is_same.ensures.same ∙ c.if-not-is_same.false) (sym c.does_have.ensures ∙ c.if-not-does_have.false)
