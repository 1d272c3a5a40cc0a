use Rattle.std.proofs.Common.{◌≡◌, ℕ, List, take, refl, sym, ap, ◌∙◌, arith, Some}
use Rattle.agg_outside.specs.declared.rows.RowId.{RowId}
use Rattle.agg_outside.specs.declared.rows.Row.{Row}
use Rattle.agg_outside.specs.Rows.{Held, rows_from}
use Rattle.row_epochs.specs.Kills.{kills_in, noted}
use Rattle.row_epochs.proofs.Answering.{tell, fall}
use Rattle.row_epochs.proofs.RowWalks.{last_piece, more_pieces}
use Rattle.row_epochs.proofs.KillLaws.{noted_first, noted-append}
use Rattle.row_epochs.proofs.killed.kills_of_all.Goals as goal

pub loop-piece-init : goal.loop-piece-init
loop-piece-init g c = record {
  held = refl;
  faults = omega arith;
  left = λ h told. noted_first c.new-kills.result.entries c.in_ok-place.place h.rows c.new-kills.ensures.empty c.in_ok-place.ensures (c.requires h told);
}

pub returns-in_default-clause-kills : goal.returns-in_default-clause-kills
returns-in_default-clause-kills g c =
    let at = c.loop-piece in
    tell (g.K.Keeper.held c.args.keeper.now) (λ (h : Held). c.note_piece.new.kills.entries ≡ kills_in h.rows) (λ h told.
    let piece = fall (g.K.Keeper.held at.keeper) (λ (x : Held). c.in_ok-piece.piece ≡ take 256 (rows_from at.place x.rows)) c.in_ok-piece.ensures.rows h (at.invariant.held ∙ told) in
    let whole = last_piece 256 at.place h.rows c.in_ok-piece.piece piece (omega arith) (sym c.in_ok-next.ensures ∙ c.in_default.is) in
    c.in_ok-note_piece.ensures ∙ ap (λ (l : List Row). noted at.kills.entries l) (sym whole) ∙ at.invariant.left h told)

pub loop-piece-preserved : goal.loop-piece-preserved
loop-piece-preserved g c =
    let at = c.loop-piece in
    record {
      held = c.in_ok-piece.ensures.held ∙ at.invariant.held;
      faults = omega (arith, at.invariant.faults, c.in_ok-piece.ensures.cause.no_fall);
      left = λ h told.
          let piece = fall (g.K.Keeper.held at.keeper) (λ (x : Held). c.in_ok-piece.piece ≡ take 256 (rows_from at.place x.rows)) c.in_ok-piece.ensures.rows h (at.invariant.held ∙ told) in
          let more = more_pieces 256 at.place h.rows c.in_ok-piece.piece c.in-Some.next piece (c.requires h told) (sym c.in_ok-next.ensures ∙ c.in-Some.is) in
          ap (λ (l : List (RowId × ℕ)). noted l (rows_from c.in-Some.next h.rows)) c.in_ok-note_piece.ensures
          ∙ sym (noted-append at.kills.entries c.in_ok-piece.piece (rows_from c.in-Some.next h.rows))
          ∙ ap (λ (l : List Row). noted at.kills.entries l) (sym more)
          ∙ at.invariant.left h told;
    }
