use Rattle.std.proofs.Common.{◌≡◌, List, All, take, refl, sym, ap, subst, ◌∙◌, arith}
use Rattle.agg_outside.specs.declared.rows.Row.{Row}
use Rattle.agg_outside.specs.Rows.{Held, rows_from}
use Rattle.row_epochs.specs.Seen.{seen}
use Rattle.row_epochs.specs.Places.{ids_of}
use Rattle.row_epochs.specs.Versions.{Versions, AreVersions}
use Rattle.row_epochs.proofs.Answering.{tell, fall}
use Rattle.hot_keeper.specs.Notes.{HasNote}
use Rattle.hot_keeper.proofs.PieceLaws.{walk}
use Rattle.hot_keeper.proofs.StepLaws.{notes_first, notes_on, notes_all}
use Rattle.hot_keeper.proofs.steps.notes_of.Goals as goal

pub loop-piece-init : goal.loop-piece-init
loop-piece-init g c = record {
  told = refl;
  epoch = refl;
  faults = omega arith;
  left = λ h told last more all. notes_first last c.epoch-present.result h.rows c.in_ok-place.place c.in_ok-place.ensures all;
}

pub returns-in_default-clause-noted : goal.returns-in_default-clause-noted
returns-in_default-clause-noted g c =
    let at = c.loop-piece in
    tell c.args.rows.now.told _ (λ h told.
    let are = fall c.args.rows.now.told (AreVersions c.args.rows.now.epoch) c.requires h told in
    let w = walk c.epoch-present.result c.args.rows.now.epoch h at.place c.in_ok-piece.piece c.in_ok-next.next are (fall at.rows.told (λ (x : Held). c.in_ok-piece.piece ≡ take 256 (seen c.epoch-present.result (rows_from at.place x.rows))) c.in_ok-piece.ensures.rows h (at.invariant.told ∙ told)) c.in_ok-next.ensures in
    let F : List Row → Type 0 = λ l. All (HasNote c.note_piece.new.notes) (ids_of l) in
    notes_all c.note_piece.new.notes c.epoch-present.result c.args.rows.now.epoch h c.epoch-present.ensures.epoch are
    (at.invariant.left h told c.note_piece.new.notes c.in_ok-note_piece.ensures.keep (subst F (sym (w.ends c.in_default.is)) c.in_ok-note_piece.ensures.have)))

pub loop-piece-preserved : goal.loop-piece-preserved
loop-piece-preserved g c =
    let at = c.loop-piece in
    record {
      told = ap (λ (v : Versions). v.told) c.in_ok-piece.ensures.same ∙ at.invariant.told;
      epoch = ap (λ (v : Versions). v.epoch) c.in_ok-piece.ensures.same ∙ at.invariant.epoch;
      faults = omega (arith, at.invariant.faults, c.in_ok-piece.ensures.cause.no_fall);
      left = λ h told last more rest.
          let are = fall c.args.rows.now.told (AreVersions c.args.rows.now.epoch) c.requires h told in
          let w = walk c.epoch-present.result c.args.rows.now.epoch h at.place c.in_ok-piece.piece c.in_ok-next.next are (fall at.rows.told (λ (x : Held). c.in_ok-piece.piece ≡ take 256 (seen c.epoch-present.result (rows_from at.place x.rows))) c.in_ok-piece.ensures.rows h (at.invariant.told ∙ told)) c.in_ok-next.ensures in
          at.invariant.left h told last (λ other has. more other (c.in_ok-note_piece.ensures.keep other has))
          (notes_on last c.epoch-present.result h.rows at.place c.in-Some.next c.in_ok-piece.piece c.in_ok-next.next w c.in-Some.is (λ i d below. more _ (c.in_ok-note_piece.ensures.have i d below)) rest);
    }
