use Rattle.std.proofs.Common.{◌∙◌, List, map, ap, sym, subst}
use Rattle.merge_ranges.specs.declared.name.DiskName.{DiskName}
use Rattle.visible_files.specs.declared.held.HeldGroup.{HeldGroup}
use Rattle.visible_files.specs.Ids.{Ascends}
use Rattle.visible_files.specs.Held.{count_of, retired_names, IsHeld, visible_group}
use Rattle.visible_files.specs.Strays.{disk_places}
use Rattle.visible_files.specs.Sets.{SetOf, IsFileSet}
use Rattle.visible_files.proofs.Switches.{held-new, counts-new, names-new}
use Rattle.visible_files.proofs.sets.FileSets.new.Goals as goal

pub invariant_of-result : goal.invariant_of-result
invariant_of-result g c =
    let e = c.in_ok-current.ensures.ok in
    let set = c.in_ok-set.ensures.set in
    let held = c.in_ok-held.ensures ∙ ap (map visible_group) c.ids.ensures.value in
    record {
      of_current = subst (λ (s : SetOf g.row.G.Denot). IsFileSet g.G.Group.entity_of g.G.Group.range_of s.groups s.ids s.end) (sym e) set;
      of_held = subst (λ (s : SetOf g.row.G.Denot). IsHeld s.ids c.in_ok-held.held.items) (sym e) (subst (λ (l : List HeldGroup). IsHeld c.in_ok-set.set.ids l) (sym held) (held-new c.in_ok-set.set.ids c.in_ok-set.set.end set.set));
      of_strays = subst (λ (l : List DiskName). Ascends 0 (disk_places l)) (sym c.new-2.ensures.items) tt;
    }

pub returns-clause-counts : goal.returns-clause-counts
returns-clause-counts g c = λ n. ap (λ l. count_of l n) c.in_ok-held.ensures ∙ counts-new c.ids.result.now n

pub returns-clause-retired : goal.returns-clause-retired
returns-clause-retired g c = ap retired_names c.in_ok-held.ensures ∙ names-new c.ids.result.now
