use Rattle.recsplit_index.proofs.PartLists.{nothing_put, put_more, all_put}
use Rattle.recsplit_index.proofs.parts.built_of.Goals as goal

pub loop-part-init : goal.loop-part-init
loop-part-init c = λ nodes same. nothing_put nodes c.in_ok-starts.starts.items c.new.result c.in_ok-with_capacity.field-0.items c.in_ok-starts.ensures.items c.new.ensures c.in_ok-with_capacity.ensures.items

pub loop-part-preserved : goal.loop-part-preserved
loop-part-preserved c = λ nodes same.
    put_more c.args.parts.now nodes c.part-item.result c.loop-part.part-index c.loop-part.starts.items c.put_start.new.starts.items c.loop-part.all.codes c.put_part.new.all.codes c.loop-part.all.offsets.items c.put_part.new.all.offsets.items same
    c.loop-part-test.true c.part-item.is (c.loop-part.invariant nodes same) c.in_ok-put_start.ensures c.in_ok-put_part.ensures.codes c.in_ok-put_part.ensures.offsets

pub returns : goal.returns
returns c = λ nodes same.
    all_put c.args.parts.now nodes c.loop-part.part-index c.loop-part.starts.items (record { starts = c.put_start-2.new.starts; parts = c.loop-part.all }) same c.loop-part-test.false (c.loop-part.invariant nodes same) c.in_ok-put_start-2.ensures
