use Rattle.std.proofs.Common.{Option, sym, subst}
use Rattle.std.specs.BTreeSet.{BTreeSet}
use Rattle.hot_keeper.specs.declared.notes.Note.{Note}
use Rattle.hot_keeper.specs.Notes.{AreNoted}
use Rattle.hot_keeper.proofs.NoteLaws.{noted_more, noted_batch}
use Rattle.hot_keeper.proofs.notes.note_batch.Goals as goal

pub returns-in-Ok-clause-after : goal.returns-in-Ok-clause-after
returns-in-Ok-clause-after c = λ h noted.
    let F : Option (BTreeSet Note) → Type 0 = λ o. AreNoted o h.rows in
    noted_batch c.add_batch.new.notes c.args.epoch c.args.batch.now h c.in-Ok.ensures.have
    (noted_more c.in-Some.kept c.add_batch.new.notes c.in-Ok.ensures.keep h.rows (subst F (sym c.in-Some.ensures.value) noted))
