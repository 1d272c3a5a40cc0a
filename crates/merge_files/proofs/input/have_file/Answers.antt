use Rattle.std.proofs.Common.{◌≡◌, length, take, take_all, map, sym, ap, subst, arith}
use Rattle.std.specs.Prelude.{All}
use Rattle.std.specs.Arc.{arc_value}
use Rattle.collate_step.specs.Groups.{bytes_of}
use Rattle.merge_files.specs.Walks.{HasFile}
use Rattle.merge_files.proofs.FileInputs.{all-more, some-copied}
use Rattle.merge_files.proofs.input.have_file.Goals as goal

pub loop-i-preserved : goal.loop-i-preserved
loop-i-preserved c =
    let here = subst (HasFile c.args.kind) c.deref.ensures (some-copied c.bytes_of.result (bytes_of c.deref.result.now c.args.kind) c.bytes_of.ensures c.if-is_none.ensures) in
    all-more (λ g. arc_value g) c.args.groups.now c.loop-i.i c.index-groups-i.result (omega arith) c.index-groups-i.is (HasFile c.args.kind) c.loop-i.invariant here

pub returns : goal.returns
returns c =
    λ yes. subst (λ gs. All (HasFile c.args.kind) (map (λ g. arc_value g) gs)) (take_all c.loop-i.i c.args.groups.now (omega arith)) c.loop-i.invariant
