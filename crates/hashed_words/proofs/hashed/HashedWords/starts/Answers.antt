use Rattle.std.proofs.Common.{ℕ, List, sym, subst}
use Rattle.word_file.specs.Spelling.{TaggedWords}
use Rattle.hashed_words.specs.Hashed.{ArePairs}
use Rattle.hashed_words.proofs.hashed.HashedWords.starts.Goals as goal

pub returns : goal.returns
returns c =
    subst (λ (l : List ℕ). ArePairs c.args.self.now.words l) (sym c.as_slice.ensures.value)
    (subst (λ (f : TaggedWords). ArePairs f.words c.self.inside.starts.items) c.self.view_is c.self.invariant.pairs)
