use Rattle.std.proofs.Common.{◌==◌, length}
use Rattle.std.specs.List.{filter}
use Rattle.recsplit_index.specs.Nodes.{place_under}
use Rattle.recsplit_index.proofs.Placements.{place_more, place_all}
use Rattle.recsplit_index.proofs.nodes.put_by_position.Goals as goal

pub loop-place-preserved : goal.loop-place-preserved
loop-place-preserved c =
    let keys = c.args.keys.now in
    place_more (λ p. filter (λ key. place_under c.args.depth c.args.seed (length keys) key == p) keys) c.args.offsets.now.items c.loop-place.offsets.items c.put_place.new.offsets.items c.loop-place.place c.loop-place.invariant c.in_ok-put_place.ensures

pub returns : goal.returns
returns c = place_all (place_under c.args.depth c.args.seed (length c.args.keys.now)) c.args.keys.now c.args.offsets.now.items c.loop-place.offsets.items c.loop-place.place c.loop-place-test.false c.loop-place.auto.place-end c.loop-place.invariant
