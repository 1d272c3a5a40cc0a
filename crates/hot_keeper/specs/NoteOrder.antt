-- Laws of the order of notes.
use Rattle.std.proofs.Common.{Some, refl}
use Rattle.std.specs.Ordering.{eq_by_cmp}
use Rattle.std.specs.Cmp.{IsTotalOrder, IsEquivalence, IsPartialOrder, eq_by_cmp_equiv, po, on_total, then_total, nat_cmp_total}
use Rattle.agg_outside.specs.RowOrder.{id_cmp_total}
use Rattle.hot_keeper.specs.declared.notes.Note.{Note}
use Rattle.hot_keeper.specs.Notes.{note_cmp}

pub note_cmp_total : IsTotalOrder note_cmp
unfolding note_cmp
note_cmp_total = then_total (on_total (λ (n : Note). n.id.tx) nat_cmp_total) (on_total (λ (n : Note). n.id) id_cmp_total)

pub note_eq_equiv : IsEquivalence (eq_by_cmp note_cmp)
note_eq_equiv = eq_by_cmp_equiv note_cmp_total

pub note_partial_order : IsPartialOrder (eq_by_cmp note_cmp) (λ a b. Some (note_cmp a b))
note_partial_order = po note_cmp_total (λ a b. refl)
