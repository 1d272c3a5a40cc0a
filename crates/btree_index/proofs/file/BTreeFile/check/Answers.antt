use Rattle.std.proofs.Common.{sym, ◌∙◌, ap, List, ℕ}
use Rattle.word_file.specs.Difference.{first_difference}
use Rattle.word_file.proofs.Differences.{first_difference-same, same_from_none}
use Rattle.word_file.specs.Paired.{key_offsets}
use Rattle.btree_index.specs.Levels.{spelling}
use Rattle.btree_index.proofs.file.BTreeFile.check.Goals as goal

pub accessor_of-requires : goal.accessor_of-requires
accessor_of-requires c = sym c.as_slice.ensures ∙ same_from_none c.as_slice.result.now (spelling (key_offsets c.args.words.now.words)) (sym c.difference.ensures ∙ c.in-None.is)

pub returns-in-None-clause-found : goal.returns-in-None-clause-found
returns-in-None-clause-found c = sym c.as_slice.ensures ∙ same_from_none c.as_slice.result.now (spelling (key_offsets c.args.words.now.words)) (sym c.difference.ensures ∙ c.in-None.is)

pub returns-in-Some-clause-only : goal.returns-in-Some-clause-only
returns-in-Some-clause-only c = λ same.
    let text = spelling (key_offsets c.args.words.now.words) in
    let none = sym c.in-Some.is ∙ c.difference.ensures ∙ ap (λ (b : List ℕ). first_difference b text) (c.as_slice.ensures ∙ same) ∙ first_difference-same text in
    absurd cc
