use Rattle.std.proofs.Common.{arith, ◌-◌}
use Rattle.btree_index.specs.Levels.{spelling}
use Rattle.btree_index.proofs.Spellings.{begun, below_more, below_all}
use Rattle.btree_index.proofs.levels.spell.Goals as goal

pub loop-level-init : goal.loop-level-init
loop-level-init c = record {
  few = c.levels_of-levels.ensures.few;
  spelled =
      begun c.args.offsets.now c.new-out.result.items c.put_u32.new.out.items c.put_u32-2.new.out.items c.put_u64.new.out.items c.levels_of-levels.result c.levels_of-levels.ensures.value c.new-out.ensures.items
      c.in_ok-put_u32.ensures.ok c.in_ok-put_u32-2.ensures.ok c.in_ok-put_u64.ensures.ok;
}

pub loop-level-preserved : goal.loop-level-preserved
loop-level-preserved c = record {
  few = omega (arith, c.loop-level.invariant.few);
  spelled =
      below_more c.args.offsets.now c.loop-level.out.items c.put_level.new.out.items (spelling c.args.offsets.now) c.loop-level.level (c.loop-level.level - 1) c.loop-level-test.true (omega arith)
      c.loop-level.invariant.spelled c.in_ok-put_level.ensures;
}

pub returns : goal.returns
returns c = below_all c.args.offsets.now c.loop-level.out.items (spelling c.args.offsets.now) c.loop-level.level (omega arith) c.loop-level.invariant.spelled
