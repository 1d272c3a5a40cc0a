use Rattle.std.proofs.Common.{rules, ap, ◌∙◌, sym, subst, ◌++◌, ◌∷◌, [], Some}
use Rattle.atomic_table.specs.Table.{rest}
use Rattle.turn_cell.proofs.Keeps.{serves}
use Rattle.turn_cell.proofs.cell.TurnCell.give_back.Goals as goal

pub fetch_add-served-requires : goal.fetch_add-served-requires
fetch_add-served-requires g c =
    let now = c.exchange.ensures.3 in
    let own = c.requires.own in
    let same = ap (λ m. m.0.knowledge) now in
    let x = c.args.turn.state in (
      search rules,
      search rules,
      serves _ _ _ _ _ _ _ x g.J.Naming.added (ap (λ m. m.0.place.stage) now ∙ own.has_turn) (ap (λ m. m.live) same ∙ own.alive)
          (ap (λ m. m.1) now ∙ ap (λ l. (0, Some x) ∷ rest l) own.holds)
          (subst (λ z. g.S.Kept.stands x (z ++ g.J.Naming.added ∷ [])) (sym (ap (λ m. m.0.place.found) now)) c.requires.state)
          (c.requires.start ∙ sym (ap (λ m. m.start) same))
          (c.requires.record ∙ sym (ap (λ m. m.number) same)),
    )
