use Rattle.std.proofs.Common.{◌≡◌, ◌+◌, ◌++◌, List, take, drop, Option, Some, IfSome, arith, subst}
use Rattle.agg_outside.specs.Files.{Files}
use Rattle.agg_model.specs.declared.entity.FileKind.{FileKind}
use Rattle.group_files.specs.NewFiles.{all_of, file_of_kind, with_files}
use Rattle.group_files.proofs.FileWalks.{all-next, all-parts, joined, nothing_written, none_is, stopped_later, all_finished, take_whole}
use Rattle.group_files.proofs.RenameLaws.{quiet}
use Rattle.group_files.proofs.kinds.publish_kinds.Goals as goal

pub loop-at-init : goal.loop-at-init
loop-at-init g c = record {
  done = nothing_written (g.D.Disk.files c.args.disk.now);
  silent = none_is (g.D.Disk.files c.args.disk.now);
  faults = omega arith;
}

pub loop-at-preserved : goal.loop-at-preserved
loop-at-preserved g c =
    let kinds = c.args.kinds.now in
    let at = c.loop-at.at in
    let kind = c.kind_at-kind.result in
    let old = g.D.Disk.files c.args.disk.now in
    let mid = g.D.Disk.files c.loop-at.disk in
    let new = g.D.Disk.files c.publish_kind.new.disk in
    let before = c.loop-at.invariant in
    let told = c.in_ok-publish_kind.ensures in
    record {
      done = joined (all_of (file_of_kind c.args.group.now) (take at kinds)) (file_of_kind c.args.group.now kind) (all_of (file_of_kind c.args.group.now) (take (at + 1) kinds)) old mid new
          (all-next (file_of_kind c.args.group.now) kinds at kind c.loop-at-test.true c.kind_at-kind.ensures) before.done told.ok;
      silent = quiet old mid new before.silent told.silent;
      faults = let here = before.faults in let more = told.cause.no_fall in omega (arith, here, more);
    }

pub returns-in_err-publish_kind-clause-left : goal.returns-in_err-publish_kind-clause-left
returns-in_err-publish_kind-clause-left g c =
    let kinds = c.args.kinds.now in
    let at = c.loop-at.at in
    let kind = c.kind_at-kind.result in
    stopped_later (all_of (file_of_kind c.args.group.now) (take at kinds)) (file_of_kind c.args.group.now kind) (all_of (file_of_kind c.args.group.now) (drop (at + 1) kinds)) (all_of (file_of_kind c.args.group.now) kinds)
    (g.D.Disk.files c.args.disk.now) (g.D.Disk.files c.loop-at.disk) (g.D.Disk.files c.publish_kind.new.disk)
    (all-parts (file_of_kind c.args.group.now) kinds at kind c.loop-at-test.true c.kind_at-kind.ensures) c.loop-at.invariant.done c.in_err-publish_kind.ensures.left

pub returns-clause-ok : goal.returns-clause-ok
returns-clause-ok g c =
    let P : List FileKind → Type 0 = λ ks. IfSome (g.D.Disk.files c.args.disk.now) (λ f. g.D.Disk.files c.loop-at.disk ≡ Some (with_files (all_of (file_of_kind c.args.group.now) ks) f)) in
    subst P (take_whole c.args.kinds.now c.loop-at.at c.loop-at-test.false) c.loop-at.invariant.done

pub returns-clause-left : goal.returns-clause-left
returns-clause-left g c =
    let P : List FileKind → Type 0 = λ ks. IfSome (g.D.Disk.files c.args.disk.now) (λ f. g.D.Disk.files c.loop-at.disk ≡ Some (with_files (all_of (file_of_kind c.args.group.now) ks) f)) in
    all_finished (all_of (file_of_kind c.args.group.now) c.args.kinds.now) (g.D.Disk.files c.args.disk.now) (g.D.Disk.files c.loop-at.disk)
    (subst P (take_whole c.args.kinds.now c.loop-at.at c.loop-at-test.false) c.loop-at.invariant.done)
