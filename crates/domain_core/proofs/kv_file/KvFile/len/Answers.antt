use Rattle.std.proofs.Common.{length, ◌∙◌, ap, subst}
use Rattle.agg_model.specs.Pairs.{ArePairs}
use Rattle.domain_core.specs.KvFile.{TaggedPairs}
use Rattle.domain_core.proofs.Held.{held_count}
use Rattle.domain_core.proofs.kv_file.KvFile.len.Goals as goal

pub returns-clause-count : goal.returns-clause-count
returns-clause-count c =
    c.count.ensures ∙ held_count c.self.inside.words c.self.inside.index c.self.invariant ∙ ap (λ (f : TaggedPairs). length f.pairs) c.self.view_is

pub returns-clause-pairs : goal.returns-clause-pairs
returns-clause-pairs c = subst (λ (f : TaggedPairs). ArePairs f.pairs) c.self.view_is c.self.invariant.words.are
