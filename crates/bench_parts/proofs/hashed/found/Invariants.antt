use Rattle.std.specs.Prelude.{IfSome}
use Rattle.word_file.specs.Spelling.{StartsAt}
use Rattle.bench_parts.proofs.hashed.found.Given as goal

-- the offset, where there is one, is that of a word
abbrev pub invariant-loop-i : goal.invariant-loop-i
invariant-loop-i g l = IfSome l.at (λ at. StartsAt l.words.words at)
