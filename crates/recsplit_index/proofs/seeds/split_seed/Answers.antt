use Rattle.std.proofs.Common.{sym, ◌∙◌}
use Rattle.recsplit_index.specs.Nodes.{is_split_seed}
use Rattle.recsplit_index.proofs.FirstSeeds.{seed_more, seed_found, seed_none}
use Rattle.recsplit_index.proofs.seeds.split_seed.Goals as goal

pub returns-then-is_split_seed-clause-first : goal.returns-then-is_split_seed-clause-first
returns-then-is_split_seed-clause-first c = seed_found (is_split_seed c.args.depth c.args.keys.now) c.args.tries c.loop-seed.seed c.loop-seed-test.true (sym c.is_split_seed.ensures ∙ c.if-is_split_seed.true) c.loop-seed.invariant

pub loop-seed-preserved : goal.loop-seed-preserved
loop-seed-preserved c = seed_more (is_split_seed c.args.depth c.args.keys.now) c.args.tries c.loop-seed.seed c.loop-seed-test.true (sym c.is_split_seed.ensures ∙ c.if-is_split_seed.false) c.loop-seed.invariant

pub returns-clause-first : goal.returns-clause-first
returns-clause-first c = seed_none (is_split_seed c.args.depth c.args.keys.now) c.args.tries c.loop-seed.seed c.loop-seed-test.false c.loop-seed.invariant
