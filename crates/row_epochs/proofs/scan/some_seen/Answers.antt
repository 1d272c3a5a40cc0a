use Rattle.std.proofs.Common.{◌≡◌, ◌≤◌, ◌++◌, List, length, take, refl, sym, ap, subst, ◌∙◌, arith}
use Rattle.agg_outside.specs.declared.rows.Row.{Row}
use Rattle.agg_outside.specs.Rows.{Held, rows_from}
use Rattle.row_epochs.specs.Seen.{seen}
use Rattle.row_epochs.proofs.Answering.{fall}
use Rattle.row_epochs.proofs.RowWalks.{more_pieces}
use Rattle.row_epochs.proofs.PieceWalks.{taken_on, length-taken}
use Rattle.row_epochs.proofs.scan.some_seen.Goals as goal

pub loop-piece-preserved : goal.loop-piece-preserved
loop-piece-preserved g c =
    let at = c.loop-piece in
    record {
      held = c.in_ok-piece.ensures.held ∙ at.invariant.held;
      faults = omega (arith, at.invariant.faults, c.in_ok-piece.ensures.cause.no_fall);
      short =
          let S : List Row → Type 0 = λ l. length l ≤ c.args.limit in
          subst S (sym c.in_ok-keep_piece.ensures.kept) (length-taken c.args.limit (at.found ++ seen c.args.epoch c.in_ok-piece.piece));
      some = λ h. let some = at.invariant.some h in omega (arith, c.min-size-in-loop-piece.ensures, some);
      small = omega (arith, c.min-size-in-loop-piece.ensures);
      left = λ h told.
          let piece = fall (g.K.Keeper.held at.keeper) (λ (x : Held). c.in_ok-piece.piece ≡ take at.size (rows_from at.place x.rows)) c.in_ok-piece.ensures.rows h (at.invariant.held ∙ told) in
          let more = more_pieces at.size at.place h.rows c.in_ok-piece.piece c.in-Some.next piece (c.requires h told) (sym c.in_ok-next.ensures ∙ c.in-Some.is) in
          taken_on c.args.limit c.args.epoch at.found c.keep_piece.new.found c.in_ok-piece.piece (rows_from c.in-Some.next h.rows) (rows_from at.place h.rows) c.in_ok-keep_piece.ensures.kept more
          ∙ at.invariant.left h told;
    }
