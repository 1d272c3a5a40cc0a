use Rattle.std.proofs.Common.{◌≡◌, ◌+◌, ◌++◌, List, map, take, drop, Option, Some, IfSome, IsSomeAnd, arith, ap, sym, ◌∙◌, subst}
use Rattle.std.specs.Arc.{arc_value}
use Rattle.group_files.specs.NewFiles.{NewFile, all_of, files_of, files_of_groups, with_files, IsStopped}
use Rattle.group_files.proofs.FileWalks.{all-next, all-parts, all-map, joined, nothing_written, none_is, stopped_later, all_finished, take_whole}
use Rattle.group_files.proofs.RenameLaws.{quiet}
use Rattle.group_files.proofs.groups.publish_all.Goals as goal

pub loop-at-init : goal.loop-at-init
loop-at-init g c = record {
  done = nothing_written (g.D.Disk.files c.args.disk.now);
  silent = none_is (g.D.Disk.files c.args.disk.now);
  faults = omega arith;
}

pub loop-at-preserved : goal.loop-at-preserved
loop-at-preserved g c =
    let groups = c.args.groups.now in
    let at = c.loop-at.at in
    let group = c.index-groups-at.result in
    let old = g.D.Disk.files c.args.disk.now in
    let mid = g.D.Disk.files c.loop-at.disk in
    let new = g.D.Disk.files c.publish_group.new.disk in
    let before = c.loop-at.invariant in
    let told = c.in_ok-publish_group.ensures in
    let P : List NewFile → Type 0 = λ l. IfSome mid (λ f. new ≡ Some (with_files l f)) in
    record {
      done = joined (all_of (λ z. files_of (arc_value z)) (take at groups)) (files_of (arc_value group)) (all_of (λ z. files_of (arc_value z)) (take (at + 1) groups)) old mid new
          (all-next (λ z. files_of (arc_value z)) groups at group c.loop-at-test.true c.index-groups-at.is) before.done (subst P (ap files_of c.deref.ensures) told.ok);
      silent = quiet old mid new before.silent told.silent;
      faults = let here = before.faults in let more = told.cause.no_fall in omega (arith, here, more);
    }

pub returns-in_err-publish_group-clause-left : goal.returns-in_err-publish_group-clause-left
returns-in_err-publish_group-clause-left g c =
    let groups = c.args.groups.now in
    let at = c.loop-at.at in
    let group = c.index-groups-at.result in
    let mid = g.D.Disk.files c.loop-at.disk in
    let new = g.D.Disk.files c.publish_group.new.disk in
    let P : List NewFile → Type 0 = λ l. IfSome mid (λ f. IsSomeAnd new (IsStopped l f)) in
    stopped_later (all_of (λ z. files_of (arc_value z)) (take at groups)) (files_of (arc_value group)) (all_of (λ z. files_of (arc_value z)) (drop (at + 1) groups)) (files_of_groups (map (λ g. arc_value g) groups))
    (g.D.Disk.files c.args.disk.now) mid new
    (all-map files_of (λ g. arc_value g) groups ∙ all-parts (λ z. files_of (arc_value z)) groups at group c.loop-at-test.true c.index-groups-at.is)
    c.loop-at.invariant.done (subst P (ap files_of c.deref.ensures) c.in_err-publish_group.ensures.left)

pub returns-clause-ok : goal.returns-clause-ok
returns-clause-ok g c =
    let groups = c.args.groups.now in
    let P : List NewFile → Type 0 = λ l. IfSome (g.D.Disk.files c.args.disk.now) (λ f. g.D.Disk.files c.loop-at.disk ≡ Some (with_files l f)) in
    subst P (ap (all_of (λ z. files_of (arc_value z))) (take_whole groups c.loop-at.at c.loop-at-test.false) ∙ sym (all-map files_of (λ g. arc_value g) groups)) c.loop-at.invariant.done

pub returns-clause-left : goal.returns-clause-left
returns-clause-left g c =
    let groups = c.args.groups.now in
    let P : List NewFile → Type 0 = λ l. IfSome (g.D.Disk.files c.args.disk.now) (λ f. g.D.Disk.files c.loop-at.disk ≡ Some (with_files l f)) in
    all_finished (files_of_groups (map (λ g. arc_value g) groups)) (g.D.Disk.files c.args.disk.now) (g.D.Disk.files c.loop-at.disk)
    (subst P (ap (all_of (λ z. files_of (arc_value z))) (take_whole groups c.loop-at.at c.loop-at-test.false) ∙ sym (all-map files_of (λ g. arc_value g) groups)) c.loop-at.invariant.done)
