use Rattle.std.proofs.Common.{◌≡◌, take_all, map, sym, ◌∙◌, ap, subst, arith}
use Rattle.std.specs.Prelude.{All}
use Rattle.std.specs.Arc.{arc_value}
use Rattle.inverted_index.specs.EfFile.{TaggedLists, AreLists}
use Rattle.collate_step.specs.Groups.{GroupFiles}
use Rattle.merge_files.specs.MergedLists.{HasLists}
use Rattle.merge_files.proofs.FileInputs.{all-more}
use Rattle.merge_files.proofs.numbers.room_for.Goals as goal

pub loop-i-preserved : goal.loop-i-preserved
loop-i-preserved c =
    let file = c.ef.ensures ∙ ap (λ (g : GroupFiles). g.ef) c.deref.ensures in
    let here : HasLists (arc_value c.index-groups-i.result) = subst (λ (f : TaggedLists). AreLists f.tag f.lists) file c.words.ensures.lists in
    all-more (λ g. arc_value g) c.args.groups.now c.loop-i.i c.index-groups-i.result (omega arith) c.index-groups-i.is HasLists c.loop-i.invariant here

pub returns : goal.returns
returns c = subst (λ gs. All HasLists (map (λ g. arc_value g) gs)) (take_all c.loop-i.i c.args.groups.now (omega arith)) c.loop-i.invariant
