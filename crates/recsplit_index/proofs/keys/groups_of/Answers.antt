use Rattle.std.proofs.Common.{◌*◌, take, arith}
use Rattle.recsplit_index.specs.Keys.{hashed_keys}
use Rattle.recsplit_index.specs.Index.{bucket_keys}
use Rattle.recsplit_index.proofs.KeyLists.{grouped_length, group_here, group_more, group_all}
use Rattle.recsplit_index.proofs.keys.groups_of.Goals as goal

pub put_in_group-requires : goal.put_in_group-requires
put_in_group-requires g c =
    let words = c.args.words.now.words in
    let at = group_here c.args.salt words c.args.buckets c.loop-next.groups.items c.loop-next.next c.loop-next.place c.in-Some.offset c.loop-next.invariant c.in-Some.is in
    omega (arith, at.within, c.requires.paired, c.requires.some, c.scale-bucket.ensures.below, grouped_length c.args.buckets c.loop-next.groups.items (bucket_keys c.args.buckets (take c.loop-next.place (hashed_keys c.args.salt words))) c.loop-next.invariant.grouped)

pub hash_at-hash-requires : goal.hash_at-hash-requires
hash_at-hash-requires g c = (2 * c.loop-next.place, group_here c.args.salt c.args.words.now.words c.args.buckets c.loop-next.groups.items c.loop-next.next c.loop-next.place c.in-Some.offset c.loop-next.invariant c.in-Some.is)

pub key_after-next-requires : goal.key_after-next-requires
key_after-next-requires g c = (2 * c.loop-next.place, group_here c.args.salt c.args.words.now.words c.args.buckets c.loop-next.groups.items c.loop-next.next c.loop-next.place c.in-Some.offset c.loop-next.invariant c.in-Some.is)

pub overflow_add-place : goal.overflow_add-place
overflow_add-place g c =
    let at = group_here c.args.salt c.args.words.now.words c.args.buckets c.loop-next.groups.items c.loop-next.next c.loop-next.place c.in-Some.offset c.loop-next.invariant c.in-Some.is in
    omega (arith, at.within, c.count-count.ensures.fits.count)

pub loop-next-preserved : goal.loop-next-preserved
loop-next-preserved g c =
    let words = c.args.words.now.words in
    let at = group_here c.args.salt words c.args.buckets c.loop-next.groups.items c.loop-next.next c.loop-next.place c.in-Some.offset c.loop-next.invariant c.in-Some.is in
    group_more c.args.salt words c.args.buckets c.loop-next.groups.items c.put_in_group.new.groups.items c.loop-next.next c.key_after-next.result c.loop-next.place c.in-Some.offset c.hash_at-hash.result c.scale-bucket.result c.requires.paired c.loop-next.invariant c.in-Some.is
    (omega (arith, at.within, c.requires.paired, c.requires.some, c.scale-bucket.ensures.below)) c.scale-bucket.ensures.value c.hash_at-hash.ensures c.key_after-next.ensures c.in_ok-put_in_group.ensures

pub returns : goal.returns
returns g c = group_all c.args.salt c.args.words.now.words c.args.buckets c.loop-next.groups.items c.loop-next.next c.loop-next.place c.requires.paired c.loop-next.invariant c.in_default.is
