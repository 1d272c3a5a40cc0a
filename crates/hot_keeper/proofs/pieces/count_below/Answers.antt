use Rattle.std.proofs.Common.{◌≡◌, length, take, refl, ap, ◌∙◌, arith}
use Rattle.agg_outside.specs.Rows.{Held, rows_from}
use Rattle.row_epochs.specs.Seen.{seen}
use Rattle.row_epochs.specs.Versions.{Versions, AreVersions}
use Rattle.row_epochs.proofs.Answering.{tell, fall}
use Rattle.hot_keeper.specs.Pruning.{low_rows}
use Rattle.hot_keeper.proofs.PieceLaws.{walk, counted_first, counted_all, counted_on}
use Rattle.hot_keeper.proofs.pieces.count_below.Goals as goal

pub loop-piece-init : goal.loop-piece-init
loop-piece-init g c = record {
  told = refl;
  epoch = refl;
  faults = omega arith;
  left = λ h told. counted_first c.args.tx c.epoch-present.result h.rows c.in_ok-place.place c.in_ok-place.ensures;
}

pub returns-in_default-clause-count : goal.returns-in_default-clause-count
returns-in_default-clause-count g c =
    let at = c.loop-piece in
    tell c.args.rows.now.told (λ (h : Held). c.in_ok-sum.sum ≡ length (low_rows c.args.tx h.rows)) (λ h told.
    counted_all c.args.tx c.epoch-present.result c.args.rows.now.epoch h at.place c.in_ok-piece.piece c.in_ok-next.next at.count c.in_ok-sum.sum c.count_in-more.result c.epoch-present.ensures.epoch (fall c.args.rows.now.told (AreVersions c.args.rows.now.epoch) c.requires h told) (walk c.epoch-present.result c.args.rows.now.epoch h at.place c.in_ok-piece.piece c.in_ok-next.next (fall c.args.rows.now.told (AreVersions c.args.rows.now.epoch) c.requires h told) (fall at.rows.told (λ (x : Held). c.in_ok-piece.piece ≡ take 256 (seen c.epoch-present.result (rows_from at.place x.rows))) c.in_ok-piece.ensures.rows h (at.invariant.told ∙ told)) c.in_ok-next.ensures) c.in_ok-sum.ensures c.count_in-more.ensures c.in_default.is (at.invariant.left h told))

pub loop-piece-preserved : goal.loop-piece-preserved
loop-piece-preserved g c =
    let at = c.loop-piece in
    record {
      told = ap (λ (v : Versions). v.told) c.in_ok-piece.ensures.same ∙ at.invariant.told;
      epoch = ap (λ (v : Versions). v.epoch) c.in_ok-piece.ensures.same ∙ at.invariant.epoch;
      faults = omega (arith, at.invariant.faults, c.in_ok-piece.ensures.cause.no_fall);
      left = λ h told. counted_on c.args.tx c.epoch-present.result h at.place c.in-Some.next c.in_ok-piece.piece c.in_ok-next.next at.count c.in_ok-sum.sum c.count_in-more.result (walk c.epoch-present.result c.args.rows.now.epoch h at.place c.in_ok-piece.piece c.in_ok-next.next (fall c.args.rows.now.told (AreVersions c.args.rows.now.epoch) c.requires h told) (fall at.rows.told (λ (x : Held). c.in_ok-piece.piece ≡ take 256 (seen c.epoch-present.result (rows_from at.place x.rows))) c.in_ok-piece.ensures.rows h (at.invariant.told ∙ told)) c.in_ok-next.ensures) c.in_ok-sum.ensures c.count_in-more.ensures c.in-Some.is (at.invariant.left h told);
    }
