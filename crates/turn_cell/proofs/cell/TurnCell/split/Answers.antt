use Rattle.std.proofs.Common.{rules, ap, ◌∙◌, sym, subst, ◌<◌, ℕ}
use Rattle.turn_cell.proofs.Keeps.{counts, divides}
use Rattle.turn_cell.proofs.cell.TurnCell.split.Goals as goal

pub fetch_add-number-requires : goal.fetch_add-number-requires
fetch_add-number-requires g c =
    let own = c.requires.rest in
    let view = ap (λ m. m.0) c.take_seat-seat.ensures.seat.2 in
    let is = ap (λ v. v.knowledge) view in (
      search rules,
      search rules,
      counts _ _ _ _ _ _ _ (ap (λ v. v.knowledge.live) view ∙ own.alive) (ap (λ m. m.number) is ∙ c.requires.zero) (ap (λ v. v.knowledge.splitting) view ∙ own.calm)
          (subst (λ (n : ℕ). n < 65536) (sym (ap (λ m. m.made) is)) c.requires.room),
    )

pub split_seat-other-requires : goal.split_seat-other-requires
split_seat-other-requires g c =
    let own = c.requires.rest in
    let view = ap (λ m. m.0) c.take_seat-seat.ensures.seat.2 in
    let is = ap (λ v. v.knowledge) view in
    let now = c.fetch_add-number.ensures.2.0 in (
      search rules,
      search rules,
      divides _ _ _ _ _ _ (ap (λ v. v.knowledge.live) now ∙ (ap (λ v. v.knowledge.live) view ∙ own.alive)) (ap (λ v. v.knowledge.number) now ∙ (ap (λ m. m.number) is ∙ c.requires.zero))
          (ap (λ v. v.knowledge.splitting) now),
    )
