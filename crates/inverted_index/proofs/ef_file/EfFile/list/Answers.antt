use Rattle.std.proofs.Common.{◌≡◌, ℕ, ◌<◌, ◌^◌, List, length, sym, ap, ◌∙◌, subst}
use Rattle.hashed_words.specs.Hashed.{form_of}
use Rattle.inverted_index.specs.EfFile.{TaggedLists, numbers_of}
use Rattle.inverted_index.proofs.Views.{seen_words}
use Rattle.inverted_index.proofs.ef_file.EfFile.list.Goals as goal

pub returns-clause-numbers : goal.returns-clause-numbers
returns-clause-numbers g c =
    c.list_in.ensures.numbers ∙ ap (λ (f : TaggedLists). numbers_of f.lists c.args.key.now) c.self.view_is

pub returns-clause-split_steps : goal.returns-clause-split_steps
returns-clause-split_steps g c = λ split.
    c.list_in.ensures.split_steps (subst (λ (ws : List (List ℕ)). form_of ws ≡ 1) (sym (seen_words c.self.inside.held c.args.self.now c.self.invariant c.self.view_is)) split)

pub returns-clause-plain_steps : goal.returns-clause-plain_steps
returns-clause-plain_steps g c = λ digits few.
    c.list_in.ensures.plain_steps digits (subst (λ (n : ℕ). n < 2 ^ digits) (ap (λ (f : TaggedLists). length f.lists) (sym c.self.view_is)) few)
