use Rattle.std.proofs.Common.{◌∙◌, ap, cond, subst, List, ◌<◌, length, get_or}
use Rattle.std.specs.List.{insert}
use Rattle.visible_files.specs.declared.held.HeldGroup.{HeldGroup}
use Rattle.visible_files.specs.Ids.{place, IsLowerBound}
use Rattle.visible_files.proofs.Switches.{adds-one, new_group}
use Rattle.visible_files.proofs.held.insert_visible.Goals as goal

pub returns-clause-added : goal.returns-clause-added
returns-clause-added c =
    let held = c.args.held.now.items in
    let at = c.place_for-at.result in
    let value = c.as_slice.ensures.value in
    adds-one held c.args.id at c.insert-full.new.self.items c.requires.order
    (subst (λ (l : List HeldGroup). IsLowerBound (λ (h : HeldGroup). place h.id) l (place c.args.id) at) value c.place_for-at.ensures.bound)
    (subst (λ (l : List HeldGroup). (d : HeldGroup) → at < length l → place c.args.id < place (get_or l at d).id) value c.place_for-at.ensures.apart)
    (c.insert-full.ensures.items ∙ ap (λ t. cond t (insert held at (new_group c.args.id)) held) (c.insert-full.ensures.succeeds c.requires.room))
