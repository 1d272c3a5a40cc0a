-- What is left of a text, once the line that was cut off is let go.
use Rattle.std.specs.Prelude.{◌≡◌, ⊤, ℕ, List}
use Rattle.std.specs.Borrow.{Fml, MutBor, follows_so}
use mathlib.Core.Option.{none}
use Rattle.line_words.specs.LineCut.{Uncut}
use Rattle.line_words.specs.contracts.line_cut.LineCut.{the_row}

-- these bytes are left, at the same limit
abbrev pub EndsWith : MutBor Uncut → List ℕ → Fml
EndsWith cut left = follows_so the_row the_row cut.ghost_name none (λ _ _. ⊤) (λ last. last ≡ record cut.now { left = left })
