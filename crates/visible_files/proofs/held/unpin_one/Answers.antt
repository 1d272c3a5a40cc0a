use Rattle.std.proofs.Common.{refl}
use Rattle.visible_files.proofs.Pins.{lowers, lowered-counts, unpinned-set}
use Rattle.visible_files.proofs.held.unpin_one.Goals as goal

pub bounds-held-at : goal.bounds-held-at
bounds-held-at c = (lowers c.args.held.now c.args.id c.place_of-at.result c.requires.order c.place_of-at.ensures c.requires.pinned).within

pub bounds-held-at-2 : goal.bounds-held-at-2
bounds-held-at-2 c = (lowers c.args.held.now c.args.id c.place_of-at.result c.requires.order c.place_of-at.ensures c.requires.pinned).within

pub overflow_sub-held : goal.overflow_sub-held
overflow_sub-held c = (lowers c.args.held.now c.args.id c.place_of-at.result c.requires.order c.place_of-at.ensures c.requires.pinned).some _

pub returns-clause-counts : goal.returns-clause-counts
returns-clause-counts c =
    let l = lowers c.args.held.now c.args.id c.place_of-at.result c.requires.order c.place_of-at.ensures c.requires.pinned in
    lowered-counts c.args.held.now c.args.id c.place_of-at.result _ _ l refl refl

pub returns-clause-others : goal.returns-clause-others
returns-clause-others c =
    let l = lowers c.args.held.now c.args.id c.place_of-at.result c.requires.order c.place_of-at.ensures c.requires.pinned in
    unpinned-set c.args.held.now c.place_of-at.result _ _ l.within refl refl
