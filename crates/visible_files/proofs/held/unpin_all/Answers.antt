use Rattle.std.proofs.Common.{subst, drop, List, ◌+◌}
use Rattle.std.proofs.lemmas.List.{drop_more, drop_all}
use Rattle.visible_files.specs.declared.ids.GroupId.{GroupId}
use Rattle.visible_files.specs.Held.{Unpins}
use Rattle.visible_files.proofs.Pins.{unpins-start, unpins-order, unpins-pinned, unpins-step, unpins-end}
use Rattle.visible_files.proofs.held.unpin_all.Goals as goal

pub loop-id-init : goal.loop-id-init
loop-id-init c = unpins-start c.args.held.now c.args.ids.now c.requires.set c.requires.pinned

pub unpin_one-requires : goal.unpin_one-requires
unpin_one-requires c =
    let u = subst (λ (l : List GroupId). Unpins c.args.held.now c.loop-id.held c.args.ids.now l) (drop_more c.args.ids.now c.loop-id.id-index _ c.loop-id-test.true) c.loop-id.invariant in
    record {
      order = unpins-order c.args.held.now c.loop-id.held c.args.ids.now (drop (c.loop-id.id-index + 1) c.args.ids.now) _ u c.requires.order;
      pinned = unpins-pinned c.args.held.now c.loop-id.held c.args.ids.now (drop (c.loop-id.id-index + 1) c.args.ids.now) _ u;
    }

pub loop-id-preserved : goal.loop-id-preserved
loop-id-preserved c =
    let u = subst (λ (l : List GroupId). Unpins c.args.held.now c.loop-id.held c.args.ids.now l) (drop_more c.args.ids.now c.loop-id.id-index _ c.loop-id-test.true) c.loop-id.invariant in
    unpins-step c.args.held.now c.loop-id.held c.args.ids.now (drop (c.loop-id.id-index + 1) c.args.ids.now) _ u c.unpin_one.new.held c.unpin_one.ensures.counts c.unpin_one.ensures.others

pub returns : goal.returns
returns c =
    let u = subst (λ (l : List GroupId). Unpins c.args.held.now c.loop-id.held c.args.ids.now l) (drop_all c.loop-id.id-index c.args.ids.now c.loop-id-test.false) c.loop-id.invariant in
    let e = unpins-end c.args.held.now c.loop-id.held c.args.ids.now u in
    record { counts = e.counts; others = e.others }
