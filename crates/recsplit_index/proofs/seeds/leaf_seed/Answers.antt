use Rattle.std.proofs.Common.{sym, ◌∙◌}
use Rattle.recsplit_index.specs.Nodes.{is_leaf_seed}
use Rattle.recsplit_index.proofs.FirstSeeds.{seed_more, seed_found, seed_none}
use Rattle.recsplit_index.proofs.seeds.leaf_seed.Goals as goal

pub returns-then-is_leaf_seed-clause-first : goal.returns-then-is_leaf_seed-clause-first
returns-then-is_leaf_seed-clause-first c = seed_found (is_leaf_seed c.args.depth c.args.keys.now) c.args.tries c.loop-seed.seed c.loop-seed-test.true (sym c.is_leaf_seed.ensures ∙ c.if-is_leaf_seed.true) c.loop-seed.invariant

pub loop-seed-preserved : goal.loop-seed-preserved
loop-seed-preserved c = seed_more (is_leaf_seed c.args.depth c.args.keys.now) c.args.tries c.loop-seed.seed c.loop-seed-test.true (sym c.is_leaf_seed.ensures ∙ c.if-is_leaf_seed.false) c.loop-seed.invariant

pub returns-clause-first : goal.returns-clause-first
returns-clause-first c = seed_none (is_leaf_seed c.args.depth c.args.keys.now) c.args.tries c.loop-seed.seed c.loop-seed-test.false c.loop-seed.invariant
