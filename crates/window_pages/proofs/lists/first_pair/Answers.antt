use Rattle.std.proofs.Common.{ap, subst, ◌∙◌}
use Rattle.word_file.specs.Spelling.{TaggedWords, IsPlace, offset_of}
use Rattle.window_pages.proofs.KeyWalks.{start-first, no-lists, some_then, none_then}
use Rattle.window_pages.proofs.lists.first_pair.Goals as goal

pub returns-clause-start : goal.returns-clause-start
returns-clause-start c = λ k.
    some_then c.first.result _ _ (λ at p. start-first c.args.ef.now.lists k at (subst (λ ws. IsPlace ws at 0) (ap (λ (f : TaggedWords). f.words) c.words.ensures.words) p)) c.first.ensures.place

pub returns-clause-none : goal.returns-clause-none
returns-clause-none c =
    none_then c.first.result _ (λ none. no-lists c.args.ef.now.lists (none ∙ c.first.ensures.value ∙ ap (λ (f : TaggedWords). offset_of f.words 0) c.words.ensures.words))
