use Rattle.std.proofs.Common.{◌≡◌, ◌++◌, drop}
use Rattle.std.specs.Option.{option_copied}
use Rattle.content_laws.specs.Steps.{befores_behind}
use Rattle.collate_step.proofs.befores.befores_after.Given as goal

abbrev pub invariant-loop-change : goal.invariant-loop-change
invariant-loop-change g l =
    l.befores ++ befores_behind (g.E.Earlier.found l.earlier) (option_copied l.last) (drop l.change-index l.changes)
    ≡ befores_behind (g.E.Earlier.found l.earlier) (option_copied l.last-2) l.changes
