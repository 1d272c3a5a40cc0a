use Rattle.std.proofs.Common.{rules, ap, ◌∙◌, sym, ◌∷◌, Some, ◌%◌, ◌^◌}
use Rattle.atomic_table.specs.Table.{rest}
use Rattle.turn_cell.proofs.Keeps.{draws, looks}
use Rattle.turn_cell.proofs.cell.TurnCell.take.Goals as goal

pub fetch_add-ticket-requires : goal.fetch_add-ticket-requires
fetch_add-ticket-requires g c =
    let view = ap (λ m. m.0) c.take_seat-seat.ensures.seat.2 in (
      search rules,
      search rules,
      draws _ _ _ _ _ _ _ (ap (λ v. v.place.stage) view ∙ c.requires.idle) (ap (λ v. v.knowledge.live) view ∙ c.requires.alive),
    )

pub load-now-requires : goal.load-now-requires
load-now-requires g c =
    let view = ap (λ m. m.0) c.take_seat-seat.ensures.seat.2 in
    let same = c.loop.invariant.2 in
    let drawn = c.fetch_add-ticket.ensures.2 in (
      search rules,
      search rules,
      looks _ _ _ _ _ _ _ (ap (λ m. m.0.place.stage) same ∙ drawn.1) (ap (λ m. m.0.knowledge.live) same ∙ (ap (λ k. k.live) drawn.0 ∙ (ap (λ v. v.knowledge.live) view ∙ c.requires.alive))),
    )

pub exchange-requires : goal.exchange-requires
exchange-requires g c =
    let hit = c.if-now-ticket.true ∙ (c.fetch_add-ticket.ensures.2.2 ∙ sym (ap (λ m. m.0.place.ticket % 2 ^ 64) c.loop.invariant.2)) in
    let took = (c.load-now.ensures.2.0 hit).3 in
    (search rules, (Some took.0, took.1 ∙ (λ i. (0, Some took.0) ∷ sym (ap rest took.1) i)))
