use Rattle.std.proofs.Common.{◌≡◌, drop, find}
use Rattle.visible_files.specs.Strays.{is_loose_among}
use Rattle.visible_files.proofs.strays.first_loose.Given as goal

abbrev pub invariant-loop-name : goal.invariant-loop-name
invariant-loop-name l = find (λ d. is_loose_among l.held d) (drop l.name-index l.strays) ≡ find (λ d. is_loose_among l.held d) l.strays
