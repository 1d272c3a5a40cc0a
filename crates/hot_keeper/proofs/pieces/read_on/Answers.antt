use Rattle.std.proofs.Common.{◌≡◌, length, take, Option, None, refl, sym, ap, subst, ◌∙◌, arith}
use Rattle.agg_outside.specs.declared.rows.RowId.{RowId}
use Rattle.agg_outside.specs.Rows.{Held, rows_from}
use Rattle.row_epochs.specs.Seen.{seen}
use Rattle.row_epochs.specs.Versions.{Versions, AreVersions}
use Rattle.row_epochs.proofs.Answering.{tell, fall}
use Rattle.hot_keeper.specs.Pruning.{low_rows}
use Rattle.hot_keeper.specs.ReadAhead.{IsAhead}
use Rattle.hot_keeper.proofs.PieceLaws.{walk}
use Rattle.hot_keeper.proofs.AheadLaws.{ahead_on}
use Rattle.hot_keeper.proofs.pieces.read_on.Goals as goal

pub loop-piece-init : goal.loop-piece-init
loop-piece-init g c = record {
  told = refl;
  epoch = refl;
  faults = omega arith;
  left = λ h told. fall c.args.rows.now.told (λ (x : Held). IsAhead c.args.ahead.ids.items c.args.ahead.place (low_rows c.args.ahead.tx x.rows)) c.requires.ahead h told;
}

pub loop-piece-preserved : goal.loop-piece-preserved
loop-piece-preserved g c =
    let at = c.loop-piece in
    record {
      told = ap (λ (v : Versions). v.told) c.in_ok-piece.ensures.same ∙ at.invariant.told;
      epoch = ap (λ (v : Versions). v.epoch) c.in_ok-piece.ensures.same ∙ at.invariant.epoch;
      faults = omega (arith, at.invariant.faults, c.in_ok-piece.ensures.cause.no_fall);
      left = λ h told.
          let are = fall c.args.rows.now.told (AreVersions c.args.rows.now.epoch) c.requires.versions h told in
          let F : Option RowId → Type 0 = λ p. IsAhead at.ids.items p (low_rows c.args.ahead.tx h.rows) in
          ahead_on c.args.ahead.tx c.epoch-present.result c.args.rows.now.epoch h c.in-Some.from c.in_ok-piece.piece c.in_ok-next.next at.ids.items c.note_below.new.ids.items c.epoch-present.ensures.epoch are
          (walk c.epoch-present.result c.args.rows.now.epoch h c.in-Some.from c.in_ok-piece.piece c.in_ok-next.next are (fall at.rows.told (λ (x : Held). c.in_ok-piece.piece ≡ take 256 (seen c.epoch-present.result (rows_from c.in-Some.from x.rows))) c.in_ok-piece.ensures.rows h (at.invariant.told ∙ told)) c.in_ok-next.ensures)
          c.in_ok-note_below.ensures (subst F c.in-Some.is (at.invariant.left h told));
    }
