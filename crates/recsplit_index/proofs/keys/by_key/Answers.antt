use Rattle.std.proofs.Common.{◌*◌, ◌∙◌}
use Rattle.std.specs.Prelude.{slice_index}
use Rattle.recsplit_index.proofs.KeyLists.{key_place, keyed_none, keyed_more, keyed_all}
use Rattle.recsplit_index.proofs.keys.by_key.Goals as goal

pub loop-offset-init : goal.loop-offset-init
loop-offset-init g c = c.new-tree.ensures.empty ∙ keyed_none c.args.words.now.words

pub put_key-requires : goal.put_key-requires
put_key-requires g c = (2 * c.loop-offset.offset-index, key_place c.args.words.now.words c.args.offsets.now c.loop-offset.offset-index c.requires c.loop-offset-test.true)

pub loop-offset-preserved : goal.loop-offset-preserved
loop-offset-preserved g c =
    let words = c.args.words.now.words in
    let i = c.loop-offset.offset-index in
    let place = key_place words c.args.offsets.now i c.requires c.loop-offset-test.true in
    keyed_more words c.loop-offset.tree.entries c.put_key.new.tree.entries (slice_index c.args.offsets.now i) i c.loop-offset.invariant place (c.in_ok-put_key.ensures (2 * i) place)

pub returns : goal.returns
returns g c = keyed_all c.args.words.now.words c.args.offsets.now c.loop-offset.tree.entries c.loop-offset.offset-index c.requires c.loop-offset-test.false c.loop-offset.auto.offset-index-end c.loop-offset.invariant
