use Rattle.std.proofs.Common.{sym, ◌∙◌, ap, cond}
use Rattle.std.specs.List.{insert}
use Rattle.visible_files.proofs.StrayNames.{noted-already, noted-new, noted-order}
use Rattle.visible_files.proofs.strays.note.Goals as goal

pub returns-then-is_at-clause-noted : goal.returns-then-is_at-clause-noted
returns-then-is_at-clause-noted c = noted-already c.args.strays.now.items c.as_slice-2.result.now c.args.name c.as_slice-2.ensures.value (sym c.is_at.ensures.there ∙ c.if-is_at.true)

pub returns-clause-order : goal.returns-clause-order
returns-clause-order c =
    let made = c.insert-full.ensures.items ∙ ap (λ t. cond t (insert c.args.strays.now.items c.place_of_name-at.result c.args.name) c.args.strays.now.items) (c.insert-full.ensures.succeeds c.requires.room) in
    noted-order c.args.strays.now.items c.as_slice-2.result.now c.insert-full.new.self.items c.args.name c.place_of_name-at.result c.as_slice-2.ensures.value c.requires.order
    (rw (c.as_slice-2.ensures.value, ← c.as_slice.ensures.value) c.place_of_name-at.ensures) (λ d. c.is_at.ensures.apart d c.if-is_at.false) made

pub returns-clause-noted : goal.returns-clause-noted
returns-clause-noted c =
    let made = c.insert-full.ensures.items ∙ ap (λ t. cond t (insert c.args.strays.now.items c.place_of_name-at.result c.args.name) c.args.strays.now.items) (c.insert-full.ensures.succeeds c.requires.room) in
    noted-new c.args.strays.now.items c.insert-full.new.self.items c.args.name c.place_of_name-at.result made
