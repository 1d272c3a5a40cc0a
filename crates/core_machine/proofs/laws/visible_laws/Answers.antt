use Rattle.core_machine.proofs.Visible.{end-is}
use Rattle.core_machine.proofs.Ends.{end-at, cut-is, merge-union, union-merge}
use Rattle.core_machine.proofs.laws.visible_laws.Goals as goal

pub returns : goal.returns
returns c = record {
  last = λ m sound. end-at m.visible sound.groups;
  no_other = λ m sound step at. end-is m.visible sound.groups step at;
  cut = λ m sound e. cut-is m.visible sound.groups e;
  union = λ m added replaced sound may. merge-union m.visible sound.groups added replaced may;
  merge = λ m e r added replaced sound u al are out. union-merge m.visible sound.groups e r added replaced u al are out;
}
