use Rattle.std.proofs.Common.{Option, sym, subst}
use Rattle.std.specs.BTreeSet.{BTreeSet}
use Rattle.hot_keeper.specs.declared.notes.Note.{Note}
use Rattle.hot_keeper.specs.Notes.{AreNoted}
use Rattle.hot_keeper.proofs.NoteLaws.{noted_rest}
use Rattle.hot_keeper.proofs.notes.drop_below.Goals as goal

pub returns-in-Ok-split_off : goal.returns-in-Ok-split_off
returns-in-Ok-split_off c = λ rows noted high.
    let F : Option (BTreeSet Note) → Type 0 = λ o. AreNoted o rows in
    noted_rest c.in-Some.kept c.in-Ok-split_off.rest c.args.tx c.in-Ok.first c.in-Ok.ensures c.in-Ok-split_off.ensures.from rows (subst F (sym c.in-Some.ensures.value) noted) high
