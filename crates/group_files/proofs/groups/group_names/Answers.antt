use Rattle.std.proofs.Common.{◌≡◌, ◌++◌, List, [], map, take, ap, sym, ◌∙◌, subst}
use Rattle.std.specs.Arc.{arc_value}
use Rattle.merge_ranges.specs.Name.{spelled}
use Rattle.group_files.specs.NewFiles.{NewFile, all_of, files_of, new_names}
use Rattle.group_files.proofs.FileWalks.{names_next, take_whole, all-map}
use Rattle.group_files.proofs.groups.group_names.Goals as goal

pub loop-at-init : goal.loop-at-init
loop-at-init c = c.new-names.ensures

pub loop-at-preserved : goal.loop-at-preserved
loop-at-preserved c =
    names_next (λ z. files_of (arc_value z)) c.args.groups.now c.loop-at.at c.index-groups-at.result [] c.loop-at.names c.add_names.new.names c.loop-at-test.true c.index-groups-at.is c.loop-at.invariant
    (c.in_ok-add_names.ensures ∙ ap (λ g. c.loop-at.names ++ map spelled (new_names (files_of g))) c.deref.ensures)

pub returns : goal.returns
returns c =
    let groups = c.args.groups.now in
    let P : List NewFile → Type 0 = λ l. c.loop-at.names ≡ map spelled (new_names l) in
    subst P (ap (all_of (λ z. files_of (arc_value z))) (take_whole groups c.loop-at.at c.loop-at-test.false) ∙ sym (all-map files_of (λ g. arc_value g) groups)) c.loop-at.invariant
