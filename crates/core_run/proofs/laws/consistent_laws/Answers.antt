use Rattle.core_machine.specs.Sound.{list_of}
use Rattle.core_run.proofs.StandsFor.{stands-empty, stands-later}
use Rattle.core_run.proofs.laws.consistent_laws.Goals as goal

pub returns : goal.returns
returns c = record {
  empty = λ files size none. stands-empty files none size;
  ingest = λ files held now m batch was may openable rows content.
      stands-later files held now (list_of m) batch was may.next may.no_repeats openable rows content;
}
