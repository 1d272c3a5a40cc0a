use Rattle.std.proofs.Common.{◌≡◌, drop, map}
use Rattle.std.specs.Arc.{arc_value}
use Rattle.window_reads.specs.Folds.{first_word}
use Rattle.window_reads.proofs.looks.first_word.Given as goal

abbrev pub invariant-loop-group : goal.invariant-loop-group
invariant-loop-group g l =
    first_word l.size l.entity l.key l.n (map (λ g. arc_value g) (drop l.group-index l.files))
    ≡ first_word l.size l.entity l.key l.n (map (λ g. arc_value g) l.files)
