use Rattle.core_machine.proofs.KeptSimple.{kept-ingest, kept-open, kept-close, kept-stray, kept-sweep}
use Rattle.core_machine.proofs.Kept.{kept-collation, kept-merge, kept-all}
use Rattle.core_machine.proofs.laws.sound_laws.Goals as goal

pub returns : goal.returns
returns c = record {
  ingest = kept-ingest;
  opening = kept-open;
  close = kept-close;
  collation = kept-collation;
  merge = kept-merge;
  stray = kept-stray;
  sweep = kept-sweep;
  all = kept-all;
}
