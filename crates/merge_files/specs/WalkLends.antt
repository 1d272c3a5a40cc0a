-- What is left of a walk, once the item that it gave is let go.
use Rattle.std.specs.Prelude.{◌≡◌, ⊤, List, []}
use Rattle.std.specs.Borrow.{Fml, MutBor, follows_so}
use mathlib.Core.Option.{none}
use mir.Syntax.{named}
use Rattle.merge_files.specs.Walks.{Item}
use Rattle.merge_files.specs.contracts.walk.MergeWalk.{the_row}

abbrev pub EndsWith : MutBor (List Item) → List Item → Fml
EndsWith walk left =
    follows_so (the_row (record { mir = named 1; lft = [] })) (the_row (record { mir = named 1; lft = [] }))
    walk.ghost_name none (λ _ _. ⊤) (λ last. last ≡ left)
