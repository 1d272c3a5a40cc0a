use Rattle.std.proofs.Common.{◌≡◌, [], ◌∷◌, ◌++◌, length, take, take_all, map, sym, ◌∙◌, ap, subst, arith}
use Rattle.std.specs.Prelude.{All}
use Rattle.std.specs.Arc.{arc_value}
use Rattle.std.proofs.lemmas.List.Elements.{All-push}
use Rattle.merge_files.specs.Walks.{HasFile, IsInput, file_pairs}
use Rattle.merge_files.proofs.FileInputs.{group-there, groups-more}
use Rattle.merge_files.proofs.walk.inputs_of.Goals as goal

pub input_of-requires-clause-there : goal.input_of-requires-clause-there
input_of-requires-clause-there c =
    subst (HasFile c.args.kind) (sym c.deref.ensures)
    (group-there (λ g. arc_value g) c.args.groups.now c.loop-i.i c.index-groups-i.result (omega arith) c.index-groups-i.is (HasFile c.args.kind) c.requires.there)

pub loop-i-preserved : goal.loop-i-preserved
loop-i-preserved c =
    let kind = c.args.kind in
    let more = groups-more (λ g. arc_value g) c.args.groups.now c.loop-i.i c.index-groups-i.result (omega arith) c.index-groups-i.is (file_pairs kind) in
    let pushed = c.in_ok-push.ensures.items in
    record {
      pairs = pushed ∙ (λ i. c.loop-i.invariant.pairs i ++ (c.input_of.ensures.pairs ∙ ap (file_pairs kind) c.deref.ensures) i ∷ []) ∙ sym more;
      inputs = subst (All (IsInput kind)) (sym pushed) (All-push (IsInput kind) c.loop-i.inputs.items c.input_of.result c.loop-i.invariant.inputs c.input_of.ensures.input);
    }

pub returns : goal.returns
returns c =
    record {
      pairs = c.loop-i.invariant.pairs ∙ ap (λ gs. map (file_pairs c.args.kind) (map (λ g. arc_value g) gs)) (take_all c.loop-i.i c.args.groups.now (omega arith));
      inputs = c.loop-i.invariant.inputs;
    }
