use Rattle.std.proofs.Common.{length, ap, ◌∙◌, map, arith}
use Rattle.visible_files.specs.declared.held.HeldGroup.{HeldGroup}
use Rattle.visible_files.specs.Held.{raised, count_of, unpinned}
use Rattle.visible_files.proofs.Pins.{whole, count_of-raised, unpinned-raised}
use Rattle.visible_files.proofs.held.pin_held.Goals as goal

pub returns-clause-counts : goal.returns-clause-counts
returns-clause-counts c = λ n.
    let e = whole c.args.held.now.len c.pin_visible.new.held c.args.held.now.items (omega (arith, ap (length {A = HeldGroup}) c.as_mut_slice.ensures.value)) c.args.held.now.ok.0 in
    ap (λ l. count_of l n) (e ∙ c.pin_visible.ensures ∙ ap (map raised) c.as_mut_slice.ensures.value) ∙ count_of-raised 0 c.args.held.now.items n c.requires.order

pub returns-clause-others : goal.returns-clause-others
returns-clause-others c =
    let e = whole c.args.held.now.len c.pin_visible.new.held c.args.held.now.items (omega (arith, ap (length {A = HeldGroup}) c.as_mut_slice.ensures.value)) c.args.held.now.ok.0 in
    ap unpinned (e ∙ c.pin_visible.ensures ∙ ap (map raised) c.as_mut_slice.ensures.value) ∙ unpinned-raised c.args.held.now.items
