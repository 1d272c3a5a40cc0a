use Rattle.std.specs.Prelude.{IfSome}
use Rattle.word_file.specs.Spelling.{StartsAt}
use Rattle.bench_parts.proofs.words.walked.Given as goal

-- the offset, where there is one, is that of a word
abbrev pub invariant-loop : goal.invariant-loop
invariant-loop g l = IfSome l.at (λ at. StartsAt l.file.words at)
