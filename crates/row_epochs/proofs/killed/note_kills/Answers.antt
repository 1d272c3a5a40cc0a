use Rattle.std.proofs.Common.{sym}
use Rattle.row_epochs.proofs.KillLaws.{noted_kills}
use Rattle.row_epochs.proofs.killed.note_kills.Goals as goal

pub returns-in-Ok : goal.returns-in-Ok
returns-in-Ok c = λ h floor up alive all. noted_kills c.put_all.new.kills c.args.kills.now c.in-Some.kept c.args.epoch floor c.args.ids.now h (sym c.in-Some.ensures.value) c.in-Ok.ensures c.requires up alive all
