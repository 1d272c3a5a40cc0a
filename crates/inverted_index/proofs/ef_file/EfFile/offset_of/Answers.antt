use Rattle.std.proofs.Common.{◌≡◌, ℕ, ◌+◌, ◌≤◌, ◌<◌, ◌^◌, List, length, sym, ap, ◌∙◌, subst}
use Rattle.std.specs.Prelude.{IfSome, IfNone}
use Rattle.recsplit_index.specs.Keys.{IsKeyAt, IsNoKey}
use Rattle.hashed_words.specs.Hashed.{form_of}
use Rattle.inverted_index.proofs.Views.{seen_words, seen_counted}
use Rattle.inverted_index.proofs.ef_file.EfFile.offset_of.Goals as goal

pub returns-clause-found : goal.returns-clause-found
returns-clause-found g c =
    subst (λ (ws : List (List ℕ)). IfSome c.find.result (λ at. IsKeyAt ws c.args.key.now at)) (seen_words c.self.inside.held c.args.self.now c.self.invariant c.self.view_is) c.find.ensures.found

pub returns-clause-none : goal.returns-clause-none
returns-clause-none g c =
    subst (λ (ws : List (List ℕ)). IfNone c.find.result (IsNoKey ws c.args.key.now)) (seen_words c.self.inside.held c.args.self.now c.self.invariant c.self.view_is) c.find.ensures.none

pub returns-clause-split_steps : goal.returns-clause-split_steps
returns-clause-split_steps g c = λ split.
    c.find.ensures.split_steps (subst (λ (ws : List (List ℕ)). form_of ws ≡ 1) (sym (seen_words c.self.inside.held c.args.self.now c.self.invariant c.self.view_is)) split)

pub returns-clause-plain_steps : goal.returns-clause-plain_steps
returns-clause-plain_steps g c = λ digits few.
    c.find.ensures.plain_steps digits (subst (λ (n : ℕ). n < 2 ^ digits) (sym (seen_counted c.self.inside.held c.args.self.now c.self.invariant c.self.view_is)) few)
