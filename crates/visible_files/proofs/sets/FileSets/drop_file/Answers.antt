use Rattle.std.proofs.Common.{◌≡◌, ◌∙◌, List, Some, ap, sym, subst}
use Rattle.std.specs.Arc.{arc_value}
use Rattle.visible_files.specs.declared.held.HeldGroup.{HeldGroup}
use Rattle.visible_files.specs.Held.{count_of, is_retired, IsHeld}
use Rattle.visible_files.specs.Sets.{SetsOf, first_to_drop}
use Rattle.visible_files.proofs.Drops.{dropped-held, dropped-counts, dropped-note}
use Rattle.visible_files.proofs.Notes.{dropped-noted}
use Rattle.visible_files.proofs.sets.FileSets.drop_file.Goals as goal

pub invariant_of-self : goal.invariant_of-self
invariant_of-self g c =
    let ids = (arc_value c.self.inside.current).ids in
    record {
      of_current = c.self.invariant.of_current;
      of_held = subst (λ (l : List HeldGroup). IsHeld ids l) (sym c.drop_first.ensures.items) (dropped-held ids c.self.inside.held.items c.self.invariant.of_held);
      of_strays = c.forget.ensures.order;
    }

pub returns-clause-retired : goal.returns-clause-retired
returns-clause-retired g c =
    let req = subst (λ (v : SetsOf g.row.G.Denot). first_to_drop v.current.ids v.held v.strays ≡ Some c.args.name) (sym c.self.view_is) c.requires in
    rw (← c.self.view_is) (λ n. ap (λ l. is_retired l n) c.drop_first.ensures.items ∙ dropped-note _ c.self.inside.held.items c.self.inside.strays.items c.args.name c.self.invariant.of_held req n)

pub returns-clause-counts : goal.returns-clause-counts
returns-clause-counts g c =
    rw (← c.self.view_is) (λ n. ap (λ l. count_of l n) c.drop_first.ensures.items ∙ dropped-counts n c.self.inside.held.items)

pub returns-clause-noted : goal.returns-clause-noted
returns-clause-noted g c =
    let req = subst (λ (v : SetsOf g.row.G.Denot). first_to_drop v.current.ids v.held v.strays ≡ Some c.args.name) (sym c.self.view_is) c.requires in
    rw (← c.self.view_is)
    (dropped-noted c.self.inside.held.items c.drop_first.new.held.items c.self.inside.strays.items c.forget.new.strays.items c.args.name
    (λ n. ap (λ l. is_retired l n) c.drop_first.ensures.items ∙ dropped-note _ c.self.inside.held.items c.self.inside.strays.items c.args.name c.self.invariant.of_held req n) c.forget.ensures.others)
