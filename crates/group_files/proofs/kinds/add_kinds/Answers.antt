use Rattle.std.proofs.Common.{◌≡◌, ◌++◌, List, [], map, take, ap, sym, subst, append-nil}
use Rattle.agg_model.specs.declared.entity.FileKind.{FileKind}
use Rattle.merge_ranges.specs.Name.{spelled}
use Rattle.group_files.specs.NewFiles.{all_of, file_of_kind, new_names}
use Rattle.group_files.proofs.FileWalks.{names_next, take_whole}
use Rattle.group_files.proofs.kinds.add_kinds.Goals as goal

pub loop-at-init : goal.loop-at-init
loop-at-init c = sym (append-nil c.args.names.now)

pub loop-at-preserved : goal.loop-at-preserved
loop-at-preserved c =
    names_next (file_of_kind c.args.group.now) c.args.kinds.now c.loop-at.at c.kind_at-kind.result c.args.names.now c.loop-at.names c.add_name.new.names c.loop-at-test.true c.kind_at-kind.ensures c.loop-at.invariant c.in_ok-add_name.ensures

pub returns : goal.returns
returns c =
    let P : List FileKind → Type 0 = λ ks. c.loop-at.names ≡ c.args.names.now ++ map spelled (new_names (all_of (file_of_kind c.args.group.now) ks)) in
    subst P (take_whole c.args.kinds.now c.loop-at.at c.loop-at-test.false) c.loop-at.invariant
