use Rattle.std.proofs.Common.{ap, ◌∙◌, sym, subst, subst₂, Some}
use mathlib.Core.Option.{some-injective}
use Rattle.turn_cell.specs.Steps.{KnowsAll}
use Rattle.turn_cell.proofs.Keeps.{ends}
use Rattle.turn_cell.proofs.Histories.{some_same}
use Rattle.turn_cell.proofs.cell.TurnCell.close.Goals as goal

pub unreachable-requires : goal.unreachable-requires
unreachable-requires g c =
    let own = c.requires.rest in
    let view = ap (λ m. m.0) c.take_seat-seat.ensures.seat.2 in
    let is = ap (λ v. v.knowledge) view in
    let end = ends _ _ _ _ _ _ _ _ c.close_with-closed.ensures.values.2 (ap (λ v. v.place.stage) view ∙ own.idle) (ap (λ v. v.knowledge.live) view ∙ own.alive) (ap (λ m. m.number) is ∙ c.requires.last.0) (ap (λ m. m.out) is ∙ c.requires.last.1) in
    let same = some-injective _ _ (sym c.take-slot.ensures.value ∙ end.1) in
    absurd (cc (c.in-None.is, same))

pub returns-clause-state : goal.returns-clause-state
returns-clause-state g c =
    let own = c.requires.rest in
    let view = ap (λ m. m.0) c.take_seat-seat.ensures.seat.2 in
    let is = ap (λ v. v.knowledge) view in
    let end = ends _ _ _ _ _ _ _ _ c.close_with-closed.ensures.values.2 (ap (λ v. v.place.stage) view ∙ own.idle) (ap (λ v. v.knowledge.live) view ∙ own.alive) (ap (λ m. m.number) is ∙ c.requires.last.0) (ap (λ m. m.out) is ∙ c.requires.last.1) in
    let same = some-injective _ _ (sym c.take-slot.ensures.value ∙ end.1) in
    let x = some_same _ _ (sym same ∙ c.in-Some.is) in
    subst₂ (λ a m. g.S.Kept.stands a m.seen) x is end.2

pub returns-clause-start : goal.returns-clause-start
returns-clause-start g c =
    let own = c.requires.rest in
    let view = ap (λ m. m.0) c.take_seat-seat.ensures.seat.2 in
    let is = ap (λ v. v.knowledge) view in
    let end = ends _ _ _ _ _ _ _ _ c.close_with-closed.ensures.values.2 (ap (λ v. v.place.stage) view ∙ own.idle) (ap (λ v. v.knowledge.live) view ∙ own.alive) (ap (λ m. m.number) is ∙ c.requires.last.0) (ap (λ m. m.out) is ∙ c.requires.last.1) in
    let same = some-injective _ _ (sym c.take-slot.ensures.value ∙ end.1) in
    let x = some_same _ _ (sym same ∙ c.in-Some.is) in
    sym (ap (λ a. Some (g.S.Kept.start a)) x) ∙ (end.3 ∙ ap (λ m. m.start) is)

pub returns-clause-history : goal.returns-clause-history
returns-clause-history g c =
    let own = c.requires.rest in
    let view = ap (λ m. m.0) c.take_seat-seat.ensures.seat.2 in
    let is = ap (λ v. v.knowledge) view in
    let end = ends _ _ _ _ _ _ _ _ c.close_with-closed.ensures.values.2 (ap (λ v. v.place.stage) view ∙ own.idle) (ap (λ v. v.knowledge.live) view ∙ own.alive) (ap (λ m. m.number) is ∙ c.requires.last.0) (ap (λ m. m.out) is ∙ c.requires.last.1) in
    subst (KnowsAll g.S.Record.Recorded.caller) is end.4
