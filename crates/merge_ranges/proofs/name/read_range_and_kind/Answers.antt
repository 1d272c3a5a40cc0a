use Rattle.std.specs.Prelude.{decimal}
use Rattle.std.proofs.Common.{◌++◌, ◌∷◌, ◌<◌, sym, arith}
use Rattle.merge_ranges.specs.Kind.{ending}
use Rattle.merge_ranges.proofs.NameLaws.{decimal-without}
use Rattle.merge_ranges.proofs.name.read_range_and_kind.Goals as goal

dash_low : 45 < 48
dash_low = omega arith

dot_low : 46 < 48
dot_low = omega arith

pub returns-in_default-clause-only : goal.returns-in_default-clause-only
returns-in_default-clause-only c = λ r k from to same.
    absurd (c.in_default.ensures.only (decimal r.from) (decimal r.to ++ 46 ∷ ending k) (decimal-without r.from 45 from dash_low) (sym same))

pub returns-in_default-cut_at-clause-only : goal.returns-in_default-cut_at-clause-only
returns-in_default-cut_at-clause-only c = λ r k from to same.
    let first = c.in-Some.ensures.only (decimal r.from) (decimal r.to ++ 46 ∷ ending k) (decimal-without r.from 45 from dash_low) (sym same) in
    absurd (c.in_default-cut_at.ensures.only (decimal r.to) (ending k) (decimal-without r.to 46 to dot_low) first.1)

pub returns-clause-only : goal.returns-clause-only
returns-clause-only c = λ r k from to same.
    let first = c.in-Some.ensures.only (decimal r.from) (decimal r.to ++ 46 ∷ ending k) (decimal-without r.from 45 from dash_low) (sym same) in
    let second = c.in-Some-cut_at.ensures.only (decimal r.to) (ending k) (decimal-without r.to 46 to dot_low) first.1 in
    c.parts_of.ensures.only r k from to (sym first.0) (sym second.0) (sym second.1)
