use Rattle.std.proofs.Common.{◌≡◌, ◌∙◌, List, Option, Some, None, find, IfSome, IsTrue, ap, sym}
use Rattle.std.specs.Arc.{arc_value}
use Rattle.merge_ranges.specs.declared.name.DiskName.{DiskName}
use Rattle.visible_files.specs.declared.ids.GroupId.{GroupId}
use Rattle.visible_files.specs.declared.held.HeldGroup.{HeldGroup}
use Rattle.visible_files.specs.Held.{first_free, IsHeld}
use Rattle.visible_files.specs.Strays.{is_loose_among}
use Rattle.visible_files.specs.Sets.{or_stray, is_loose}
use Rattle.visible_files.proofs.Drops.{first-is, first-loose, stray-loose}
use Rattle.visible_files.proofs.Notes.{first-noted, first-none}
use Rattle.visible_files.proofs.sets.FileSets.retired.Goals as goal

if-loose : (ids : List GroupId) (held : List HeldGroup) (strays : List DiskName) → IsHeld ids held → (o : Option DiskName) → o ≡ find (λ d. is_loose_among held d) strays → IfSome o (λ d. IsTrue (is_loose ids held d))
if-loose ids held strays h None e = tt
if-loose ids held strays h (Some d) e = stray-loose ids held strays d h (sym e)

pub returns-in-Some-clause-first : goal.returns-in-Some-clause-first
returns-in-Some-clause-first g c =
    let held = c.self.inside.held.items in
    let strays = c.self.inside.strays.items in
    let e = sym (c.in-Some.ensures ∙ ap first_free c.deref.ensures.value) in
    rw (← c.self.view_is) (ap (λ o. or_stray o (find (λ d. is_loose_among held d) strays)) (sym e) ∙ first-is _ held strays c.self.invariant.of_held)

pub returns-in-Some-clause-unseen : goal.returns-in-Some-clause-unseen
returns-in-Some-clause-unseen g c =
    let e = sym (c.in-Some.ensures ∙ ap first_free c.deref.ensures.value) in
    rw (← c.self.view_is) (first-loose _ c.self.inside.held.items c.in-Some.name c.self.invariant.of_held e)

pub returns-in-None-clause-first : goal.returns-in-None-clause-first
returns-in-None-clause-first g c =
    let held = c.self.inside.held.items in
    let strays = c.self.inside.strays.items in
    let e = sym (c.in-None.ensures ∙ ap first_free c.deref.ensures.value) in
    rw (← c.self.view_is)
    (c.first_loose.ensures ∙ (λ i. find (λ d. is_loose_among (c.deref-in-None-2.ensures.value i) d) (c.deref-in-None.ensures.value i))
    ∙ ap (λ o. or_stray o (find (λ d. is_loose_among held d) strays)) (sym e) ∙ first-is _ held strays c.self.invariant.of_held)

pub returns-in-None-clause-unseen : goal.returns-in-None-clause-unseen
returns-in-None-clause-unseen g c =
    rw (← c.self.view_is)
    (if-loose _ c.self.inside.held.items c.self.inside.strays.items c.self.invariant.of_held c.first_loose.result
    (c.first_loose.ensures ∙ (λ i. find (λ d. is_loose_among (c.deref-in-None-2.ensures.value i) d) (c.deref-in-None.ensures.value i))))

pub returns-in-Some-clause-noted : goal.returns-in-Some-clause-noted
returns-in-Some-clause-noted g c =
    let ids = (arc_value c.self.inside.current).ids in
    let held = c.self.inside.held.items in
    let strays = c.self.inside.strays.items in
    let e = sym (c.in-Some.ensures ∙ ap first_free c.deref.ensures.value) in
    rw (← c.self.view_is)
    (first-noted ids held strays (or_stray (Some c.in-Some.name) (find (λ d. is_loose_among held d) strays))
    (ap (λ o. or_stray o (find (λ d. is_loose_among held d) strays)) (sym e) ∙ first-is ids held strays c.self.invariant.of_held))

pub returns-in-None-clause-noted : goal.returns-in-None-clause-noted
returns-in-None-clause-noted g c =
    let ids = (arc_value c.self.inside.current).ids in
    let held = c.self.inside.held.items in
    let strays = c.self.inside.strays.items in
    let e = sym (c.in-None.ensures ∙ ap first_free c.deref.ensures.value) in
    rw (← c.self.view_is)
    (first-noted ids held strays c.first_loose.result
    (c.first_loose.ensures ∙ (λ i. find (λ d. is_loose_among (c.deref-in-None-2.ensures.value i) d) (c.deref-in-None.ensures.value i))
    ∙ ap (λ o. or_stray o (find (λ d. is_loose_among held d) strays)) (sym e) ∙ first-is ids held strays c.self.invariant.of_held))

pub returns-in-None-clause-none : goal.returns-in-None-clause-none
returns-in-None-clause-none g c =
    let ids = (arc_value c.self.inside.current).ids in
    let held = c.self.inside.held.items in
    let strays = c.self.inside.strays.items in
    let e = sym (c.in-None.ensures ∙ ap first_free c.deref.ensures.value) in
    rw (← c.self.view_is)
    (first-none ids held strays c.first_loose.result
    (c.first_loose.ensures ∙ (λ i. find (λ d. is_loose_among (c.deref-in-None-2.ensures.value i) d) (c.deref-in-None.ensures.value i))
    ∙ ap (λ o. or_stray o (find (λ d. is_loose_among held d) strays)) (sym e) ∙ first-is ids held strays c.self.invariant.of_held))
