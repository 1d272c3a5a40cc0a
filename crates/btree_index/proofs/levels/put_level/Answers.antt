use Rattle.std.proofs.Common.{length, arith}
use Rattle.btree_index.proofs.Spellings.{level_none, level_more, level_all, entry_of}
use Rattle.btree_index.proofs.levels.put_level.Goals as goal

pub loop-k-init : goal.loop-k-init
loop-k-init c = level_none c.args.out.now.items

pub overflow_mul-k : goal.overflow_mul-k
overflow_mul-k c = rw c.stride_of-stride.ensures.value (omega (arith, entry_of c.loop-k.k (length c.args.offsets.now) c.args.j (omega (arith, c.entries_of-entries.ensures))))

pub offset_bounds-offsets-k : goal.offset_bounds-offsets-k
offset_bounds-offsets-k c = rw c.stride_of-stride.ensures.value (omega (arith, entry_of c.loop-k.k (length c.args.offsets.now) c.args.j (omega (arith, c.entries_of-entries.ensures))))

pub bounds-offsets-k : goal.bounds-offsets-k
bounds-offsets-k c = rw c.stride_of-stride.ensures.value (entry_of c.loop-k.k (length c.args.offsets.now) c.args.j (omega (arith, c.entries_of-entries.ensures)))

pub loop-k-preserved : goal.loop-k-preserved
loop-k-preserved c =
    level_more c.args.offsets.now c.args.out.now.items c.loop-k.out.items c.put_u64.new.out.items c.args.j c.loop-k.k c.loop-k.invariant
    (rw (← c.stride_of-stride.ensures.value) c.in_ok-put_u64.ensures.ok)

pub returns : goal.returns
returns c = level_all c.args.offsets.now c.args.out.now.items c.loop-k.out.items c.args.j c.loop-k.k (omega (arith, c.entries_of-entries.ensures, c.loop-k.auto)) c.loop-k.invariant
