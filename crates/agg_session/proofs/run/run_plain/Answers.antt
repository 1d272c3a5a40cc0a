use Rattle.std.proofs.Common.{rules, ◌≡◌, ◌⊎◌, inl, inr, None, Some, refl, ap, subst, sym, ◌∙◌}
use Rattle.line_words.specs.LineCut.{Uncut, next_cut}
use Rattle.row_epochs.specs.Versions.{Versions}
use Rattle.state_store.specs.declared.store.NotMade.{NotMade}
use Rattle.agg_session.specs.declared.ends.LinkEnd.TheVariants as ends
use Rattle.agg_session.specs.Top.{empty_list, IsBetween, IsCutShort, EndsWhole, EndsBetween, EndsWithin}
use Rattle.agg_session.proofs.TakingLaws.{takes_at_most, takes_fewer}
use Rattle.agg_session.proofs.TopLaws.{nothing_cut, at_end, between, no_row, no_rows, no_files, first_answered, first_served, ends_unread, ends_whole, ends_between, ends_within, ends_settling, parted, outside_through, is_done, never_done, less_most}
use Rattle.agg_session.proofs.run.run_plain.Goals as goal

pub serve-end-requires-clause-none : goal.serve-end-requires-clause-none
serve-end-requires-clause-none g c κs lives =
    subst (λ (u : Uncut). (next_cut u).0 ≡ None) (sym c.new-2.ensures) (nothing_cut c.args.limits.now.line)

pub returns-clause-done : goal.returns-clause-done
returns-clause-done g c = λ done h holds.
    let settled = c.settle_at_end-end.ensures.settled (at_end c.settle_at_end-end.result (sym c.status_of.ensures ∙ done)) in
    parted g.D.Disk c.settle_at_end-end.new.store _ _ (λ hs fs. EndsWhole c.args.limits.now (empty_list c.args.size) (g.I.Source.left c.args.source.now) (g.I.Source.left c.serve-end.new.source) (g.O.Sink.bytes c.args.sink.now) (g.O.Sink.bytes c.serve-end.new.sink) hs fs)
    c.into_parts-disk.ensures.disk c.into_parts-disk.ensures.told
    (ends_whole g.D.Disk c.args.limits.now _ c.serve-end.new.served c.args.size (g.O.Sink.bytes c.args.sink.now) (g.O.Sink.bytes c.serve-end.new.sink) (g.I.Source.left c.args.source.now) (g.I.Source.left c.serve-end.new.source)
    c.settle_at_end-end.new.store (record { keeps = c.store_laws.ensures.keeps; names = c.store_laws.ensures.names_kept }) settled.1
    (first_answered g.D.Disk c.args.limits.now _ c.args.size (g.O.Sink.bytes c.args.sink.now) refl c.new-2.ensures c.new-3.ensures
    (c.in-Ok.ensures.holds c.requires.size_from_one c.requires.size_within (no_row (g.K.Keeper.held c.args.keeper) h holds c.requires.no_rows) (no_files (g.D.Disk.files c.args.disk) c.requires.no_files)))
    (c.serve-end.ensures.all settled.0))

pub returns-clause-between : goal.returns-clause-between
returns-clause-between g c = λ is h holds.
    let end : (c.serve-end.result ≡ ends.Source) ⊎ (c.serve-end.result ≡ ends.Long) = elim (between c.args.limits.now.bytes (g.I.Source.left c.args.source.now) (g.I.Source.left c.serve-end.new.source) c.settle_at_end-end.result (subst (λ s. IsBetween c.args.limits.now.bytes (g.I.Source.left c.args.source.now) (g.I.Source.left c.serve-end.new.source) s) c.status_of.ensures is)) [
      | inl source ↦ inl (c.settle_at_end-end.ensures.source source)
      | inr long ↦ inr (c.settle_at_end-end.ensures.long long)
    ] in
    parted g.D.Disk c.settle_at_end-end.new.store _ _ (λ hs fs. EndsBetween c.args.limits.now (empty_list c.args.size) (g.I.Source.left c.args.source.now) (g.I.Source.left c.serve-end.new.source) (g.O.Sink.bytes c.args.sink.now) (g.O.Sink.bytes c.serve-end.new.sink) hs fs)
    c.into_parts-disk.ensures.disk c.into_parts-disk.ensures.told
    (ends_between g.D.Disk c.args.limits.now _ c.serve-end.new.served c.args.size (g.O.Sink.bytes c.args.sink.now) (g.O.Sink.bytes c.serve-end.new.sink) (g.I.Source.left c.args.source.now) (g.I.Source.left c.serve-end.new.source)
    c.settle_at_end-end.new.store (record { keeps = c.store_laws.ensures.keeps; names = c.store_laws.ensures.names_kept }) (c.settle_at_end-end.ensures.other (never_done c.serve-end.result end)).1
    (first_answered g.D.Disk c.args.limits.now _ c.args.size (g.O.Sink.bytes c.args.sink.now) refl c.new-2.ensures c.new-3.ensures
    (c.in-Ok.ensures.holds c.requires.size_from_one c.requires.size_within (no_row (g.K.Keeper.held c.args.keeper) h holds c.requires.no_rows) (no_files (g.D.Disk.files c.args.disk) c.requires.no_files)))
    (c.serve-end.ensures.ended end))

pub returns-clause-within : goal.returns-clause-within
returns-clause-within g c = λ is h holds.
    let first = (first_answered g.D.Disk c.args.limits.now _ c.args.size (g.O.Sink.bytes c.args.sink.now) refl c.new-2.ensures c.new-3.ensures
    (c.in-Ok.ensures.holds c.requires.size_from_one c.requires.size_within (no_row (g.K.Keeper.held c.args.keeper) h holds c.requires.no_rows) (no_files (g.D.Disk.files c.args.disk) c.requires.no_files))) in
    parted g.D.Disk c.settle_at_end-end.new.store _ _ (λ hs fs. EndsWithin c.args.limits.now (empty_list c.args.size) (g.I.Source.left c.args.source.now) (g.I.Source.left c.serve-end.new.source) (g.O.Sink.bytes c.args.sink.now) (g.O.Sink.bytes c.serve-end.new.sink) hs fs)
    c.into_parts-disk.ensures.disk c.into_parts-disk.ensures.told
    (elim (is_done c.serve-end.result) [
      | inl done ↦
          ends_settling g.D.Disk c.args.limits.now _ c.serve-end.new.served c.args.size (g.O.Sink.bytes c.args.sink.now) (g.O.Sink.bytes c.serve-end.new.sink) (g.I.Source.left c.args.source.now) (g.I.Source.left c.serve-end.new.source)
          c.settle_at_end-end.new.store (record { keeps = c.store_laws.ensures.keeps; names = c.store_laws.ensures.names_kept }) (c.settle_at_end-end.ensures.cut done) c.settle_at_end-end.ensures.goes.end first (c.serve-end.ensures.all done)
      | inr other ↦
          ends_within g.D.Disk c.args.limits.now _ c.serve-end.new.served c.args.size (g.O.Sink.bytes c.args.sink.now) (g.O.Sink.bytes c.serve-end.new.sink) (g.I.Source.left c.args.source.now) (g.I.Source.left c.serve-end.new.source)
          c.settle_at_end-end.new.store (record { keeps = c.store_laws.ensures.keeps; names = c.store_laws.ensures.names_kept }) (c.settle_at_end-end.ensures.other other).1 first (c.serve-end.ensures.part other)
    ])

pub returns-clause-read_whole : goal.returns-clause-read_whole
returns-clause-read_whole g c = λ done.
    (c.serve-end.ensures.all (c.settle_at_end-end.ensures.settled (at_end c.settle_at_end-end.result (sym c.status_of.ensures ∙ done))).0).all

pub returns-clause-read_fewer : goal.returns-clause-read_fewer
returns-clause-read_fewer g c = λ done.
    let s = c.serve-end.ensures.all (c.settle_at_end-end.ensures.settled (at_end c.settle_at_end-end.result (sym c.status_of.ensures ∙ done))).0 in
    takes_fewer (g.I.Source.left c.args.source.now) (g.I.Source.left c.serve-end.new.source) s.text c.args.limits.now.bytes s.is_taken s.within

pub returns-clause-read_at_most : goal.returns-clause-read_at_most
returns-clause-read_at_most g c =
    elim (is_done c.serve-end.result) [
      | inl done ↦
          let s = c.serve-end.ensures.all done in
          takes_at_most (g.I.Source.left c.args.source.now) (g.I.Source.left c.serve-end.new.source) s.text c.args.limits.now.bytes s.is_taken (less_most s.within)
      | inr other ↦
          let s = c.serve-end.ensures.part other in
          takes_at_most (g.I.Source.left c.args.source.now) (g.I.Source.left c.serve-end.new.source) s.text c.args.limits.now.bytes s.is_taken s.within
    ]

pub returns-clause-outside : goal.returns-clause-outside
returns-clause-outside g c =
    outside_through g.D.Disk c.in-Ok.store c.serve-end.new.served.session.store c.settle_at_end-end.new.store c.args.disk _
    c.in-Ok.ensures.disk c.into_parts-disk.ensures.disk c.serve-end.ensures.blamed.goes c.settle_at_end-end.ensures.goes

pub serve-end-requires-clause-sound : goal.serve-end-requires-clause-sound
serve-end-requires-clause-sound g c κs lives =
    first_served c.args.limits.now _ refl c.new-2.ensures c.new-3.ensures (c.in-Ok.ensures.sound c.args.limits.now.content c.requires.size_from_one c.requires.size_within)
    (ap (λ (v : Versions). v.epoch) c.in-Ok.ensures.hot)

pub settle_at_end-end-requires-clause-sound : goal.settle_at_end-end-requires-clause-sound
settle_at_end-end-requires-clause-sound g c κs lives = λ done.
    let s = c.serve-end.ensures.sound done in (c.args.limits.now.content, s.store, c.requires.limit)

pub settle_at_end-end-requires-clause-pins : goal.settle_at_end-end-requires-clause-pins
settle_at_end-end-requires-clause-pins g c κs lives = λ done. (c.serve-end.ensures.sound done).pins

pub returns-in-Err-clause-within : goal.returns-in-Err-clause-within
returns-in-Err-clause-within g c = λ is h holds.
    subst (λ (n : NotMade _ _). EndsWithin c.args.limits.now (empty_list c.args.size) (g.I.Source.left c.args.source.now) (g.I.Source.left c.args.source.now) (g.O.Sink.bytes c.args.sink.now) (g.O.Sink.bytes c.args.sink.now) (g.K.Keeper.held n.keeper) (g.D.Disk.files n.disk))
    (sym c.in-Err.ensures.err)
    (ends_unread c.args.limits.now c.args.size (g.I.Source.left c.args.source.now) (g.O.Sink.bytes c.args.sink.now) (g.K.Keeper.held c.args.keeper) (g.D.Disk.files c.args.disk) (holds ∙ ap Some (c.requires.no_rows h holds)) c.requires.no_files)
