use Rattle.core_machine.proofs.Histories.{legal-possible, legal-front, legal-joined, bytes-last}
use Rattle.core_machine.proofs.SeenFiles.{seen-last}
use Rattle.core_machine.proofs.Opened.{row-last}
use Rattle.core_machine.proofs.laws.history_laws.Goals as goal

pub returns : goal.returns
returns c = record { possible = legal-possible; front = legal-front; joined = legal-joined; last = bytes-last; seen = seen-last; rows = row-last }
