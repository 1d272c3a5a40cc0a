use Rattle.std.proofs.Common.{◌≡◌, ◌∙◌, ◌+◌, List, [], ℕ, length, map, drop, subst, arith}
use Rattle.std.proofs.lemmas.List.{drop_all}
use Rattle.recsplit_index.specs.declared.keys.HashedKey.{HashedKey}
use Rattle.recsplit_index.specs.Nodes.{is_leaf_seed, place_under}
use Rattle.recsplit_index.proofs.Leaves.{AreMarked, one_marked, all_marked, next_position, shifted}
use Rattle.recsplit_index.proofs.seeds.is_leaf_seed.Goals as goal

pub loop-key-preserved : goal.loop-key-preserved
loop-key-preserved c =
    let keys = c.args.keys.now in
    let f = place_under c.args.depth c.args.seed (length keys) in
    let i = c.loop-key.key-index in
    let x = c.shifted_position-place.result in
    let place = c.shifted_position-place.ensures.value ∙ shifted c.args.depth c.args.seed c.shift_of-shift.result (length keys) _ c.shift_of-shift.ensures in
    let next = next_position f keys i x (record { hash = 0; offset = 0 }) c.loop-key-test.true place in
    one_marked c.loop-key.taken c.loop-key.differ x (map f (drop (i + 1) keys)) (map f keys)
    (subst (λ (l : List ℕ). AreMarked c.loop-key.taken c.loop-key.differ l (map f keys)) next c.loop-key.invariant)
    (omega (arith, c.requires, c.loop-key-test.true, c.shifted_position-place.ensures.below))

pub returns : goal.returns
unfolding is_leaf_seed
returns c =
    let keys = c.args.keys.now in
    let f = place_under c.args.depth c.args.seed (length keys) in
    let none : drop c.loop-key.key-index keys ≡ [] = drop_all c.loop-key.key-index keys c.loop-key-test.false in
    all_marked c.loop-key.taken c.loop-key.differ (map f keys)
    (subst (λ (l : List HashedKey). AreMarked c.loop-key.taken c.loop-key.differ (map f l) (map f keys)) none c.loop-key.invariant)
