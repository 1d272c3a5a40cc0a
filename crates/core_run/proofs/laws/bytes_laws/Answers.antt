use Rattle.agg_core.specs.Bytes.{file_bytes}
use Rattle.agg_core.proofs.Stays.{file_bytes-later}
use Rattle.core_machine.specs.Histories.{entries_of}
use Rattle.core_machine.proofs.Histories.{legal-possible}
use Rattle.core_machine.proofs.Opened.{row-last}
use Rattle.core_run.proofs.laws.bytes_laws.Goals as goal

pub returns : goal.returns
returns c = record {
  lasting = file_bytes-later;
  rows = λ solo start history row name sound legal was named there.
      row-last file_bytes file_bytes-later start.machine (entries_of history) row name sound (legal-possible file_bytes solo start.machine history legal) was named there;
}
