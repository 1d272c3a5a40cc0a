use Rattle.std.proofs.Common.{◌≡◌, ◌-◌}
use Rattle.recsplit_index.specs.Nodes.{first_from, is_split_seed}
use Rattle.recsplit_index.proofs.seeds.split_seed.Given as goal

abbrev pub invariant-loop-seed : goal.invariant-loop-seed
invariant-loop-seed l = first_from (is_split_seed l.depth l.keys) (l.tries - l.seed) l.seed ≡ first_from (is_split_seed l.depth l.keys) l.tries 0
