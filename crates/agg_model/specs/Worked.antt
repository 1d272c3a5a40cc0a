-- A list of changes to try definitions on: aa is put at 0 and 5 and deleted at 7, bb is put at 6.
use Rattle.std.specs.Prelude.{ℕ, List, [], ◌∷◌}
use Rattle.agg_model.specs.declared.entity.Entity.TheVariants.{Accounts}
use Rattle.agg_model.specs.declared.change.Act.{Act}
use Rattle.agg_model.specs.declared.change.Act.TheVariants.{Put, Del}
use Rattle.agg_model.specs.declared.change.Change.{Change}

abbrev pub account_change : ℕ → ℕ → Act → Change
account_change tx key act = record { tx = tx; entity = Accounts; key = key ∷ []; act = act }

abbrev pub worked : List Change
worked =
    account_change 0 170 (Put (1 ∷ [])) ∷ account_change 5 170 (Put (2 ∷ [])) ∷ account_change 6 187 (Put (3 ∷ [])) ∷ account_change 7 170 Del ∷ []
