use Rattle.std.proofs.Common.{sym}
use Rattle.row_epochs.proofs.KillLaws.{noted_later}
use Rattle.row_epochs.proofs.killed.forget_dead.Goals as goal

pub returns : goal.returns
returns c = λ rows all. noted_later c.keep_later.new.kills c.args.kills.now c.in-Some.kept c.args.oldest rows (sym c.in-Some.ensures.value) c.keep_later.ensures all
