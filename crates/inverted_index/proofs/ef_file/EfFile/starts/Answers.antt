use Rattle.std.proofs.Common.{ℕ, List, subst}
use Rattle.hashed_words.specs.Hashed.{ArePairs}
use Rattle.inverted_index.proofs.Views.{seen_words}
use Rattle.inverted_index.proofs.ef_file.EfFile.starts.Goals as goal

pub returns : goal.returns
returns c =
    subst (λ (ws : List (List ℕ)). ArePairs ws c.starts.result.now) (seen_words c.self.inside.held c.args.self.now c.self.invariant c.self.view_is) c.starts.ensures
