use Rattle.std.proofs.Common.{◌≡◌, ℕ, ◌+◌, ◌-◌, List, ◌∷◌, length, take, drop, ap, sym, ◌∙◌, arith}
use Rattle.std.proofs.lemmas.Grind.{common_steps}
use Rattle.line_words.specs.Words.{words_of, words_left}
use Rattle.line_words.proofs.Cuts.{slice_split-whole, slice_split-first}
use Rattle.line_words.proofs.words.Words.next.Goals as goal

pub returns-in-Some : goal.returns-in-Some
unfolding words_of
returns-in-Some c =
    let line = c.in_ok-left.left.now in
    let k = c.in-Some.space in
    let rest : take (length line - (k + 1)) (drop (k + 1) line) ≡ drop (k + 1) line = grind (arith, common_steps) in
    sym c.self.view_is ∙ ap words_left c.in_ok-left.was ∙ slice_split-first 32 line k c.in-Some.ensures ∙ ap (λ (text : List ℕ). take k line ∷ words_of text) (sym rest)

pub returns-in-None : goal.returns-in-None
unfolding words_of
returns-in-None c = sym c.self.view_is ∙ ap words_left c.in_ok-left.was ∙ slice_split-whole 32 c.in_ok-left.left.now c.in-None.ensures
