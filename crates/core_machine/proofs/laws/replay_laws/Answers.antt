use Rattle.core_machine.proofs.Kept.{replay-append, possible-append, possible-front}
use Rattle.core_machine.proofs.Opened.{possible-back, all-opened}
use Rattle.core_machine.proofs.FirstImpossible.{first-once, first-not-all}
use Rattle.core_machine.proofs.laws.replay_laws.Goals as goal

pub returns : goal.returns
returns c = record { append = replay-append; front = possible-front; back = possible-back; joined = possible-append; once = first-once; not_all = first-not-all; opened = all-opened }
