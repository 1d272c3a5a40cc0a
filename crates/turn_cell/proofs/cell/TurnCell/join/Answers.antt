use Rattle.std.proofs.Common.{rules, ap, ◌∙◌}
use Rattle.turn_cell.proofs.Keeps.{takes_in, learns}
use Rattle.turn_cell.proofs.cell.TurnCell.join.Goals as goal

pub join_seat-requires : goal.join_seat-requires
join_seat-requires g c =
    let own = c.requires.rest.0 in
    let theirs = c.requires.rest.1 in
    let view = ap (λ m. m.0) c.take_seat-seat.ensures.seat.2 in
    let other = ap (λ m. m.0) c.take_seat-other.ensures.seat.2 in
    let is = ap (λ v. v.knowledge) view in (
      search rules,
      search rules,
      search rules,
      search rules,
      takes_in _ _ _ _ _ _ _ _ (ap (λ v. v.knowledge.live) view ∙ own.alive) (ap (λ m. m.number) is ∙ c.requires.zero) (ap (λ v. v.knowledge.live) other ∙ theirs.alive) (ap (λ v. v.place.stage) other ∙ theirs.idle),
    )

pub load-requires : goal.load-requires
load-requires g c =
    let own = c.requires.rest.0 in
    let view = ap (λ m. m.0) c.take_seat-seat.ensures.seat.2 in (
      search rules,
      search rules,
      learns _ _ _ _ _ _ _ (ap (λ m. m.0.knowledge.live) c.join_seat.ensures.2 ∙ (ap (λ v. v.knowledge.live) view ∙ own.alive)),
    )
