use Rattle.std.specs.Prelude.{IfSome}
use Rattle.word_file.specs.Spelling.{StartsAt}
use Rattle.recsplit_index.proofs.keys.sizes_of.Given as goal

-- the offset, where there is one, is that of a word
abbrev pub invariant-loop-passed : goal.invariant-loop-passed
invariant-loop-passed g l = IfSome l.next (λ at. StartsAt l.words.words at)
