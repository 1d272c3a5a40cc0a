-- The order of key words.
use Rattle.std.proofs.Common.{◌≡◌, ℕ, List, [], ◌∷◌, refl, sym, ◌∙◌, ap, subst}
use Rattle.std.specs.Ordering.{nat_cmp, ordering_reverse}
use Rattle.std.specs.Cmp.{IsTotalOrder, then_total, on_total, nat_cmp_total, tied_itself}
use Rattle.std.specs.Cmp.Lexicographic.{slice_cmp, nat_list_cmp_total}
use Rattle.std.specs.FinMap.{nat_cmp-IsAntisymmetric, slice_cmp-IsAntisymmetric}
use Rattle.std.specs.declared.cmp.Ordering.{Ordering}
use Rattle.std.specs.declared.cmp.Ordering.TheVariants.{Less, Equal, Greater}
use Rattle.agg_model.specs.declared.entity.FileKind.{FileKind}
use Rattle.agg_model.specs.declared.entity.FileKind.TheVariants.{Kv, Bt, Kvi, V, Vi, Ef, Efi}
use Rattle.history_core.specs.Befores.{order_of}
use Rattle.merge_files.specs.Walks.{key_part, number_part, word_order, IsAhead, AreBehind}

pub word-total : (kind : FileKind) → IsTotalOrder (word_order kind)
unfolding word_order order_of
word-total kind = then_total (on_total (key_part kind) nat_list_cmp_total) (on_total (number_part kind) nat_cmp_total)

module _ (kind : FileKind) where
  pub ahead-trans : (w v u : List ℕ) → IsAhead kind w v → IsAhead kind v u → IsAhead kind w u
  ahead-trans w v u first second = (word-total kind).trans w v u first second

  pub order-itself : (w : List ℕ) → word_order kind w w ≡ Equal
  order-itself w = tied_itself (word-total kind) w

  pub ahead-turned : (w v : List ℕ) → word_order kind w v ≡ Greater → IsAhead kind v w
  ahead-turned w v is = (word-total kind).antisymm v w ∙ ap ordering_reverse is

  pub behind-greater : (w v : List ℕ) → IsAhead kind w v → word_order kind v w ≡ Greater
  behind-greater w v is = (word-total kind).antisymm v w ∙ ap ordering_reverse is

  pub ahead-other : (w v : List ℕ) → IsAhead kind w v → w ≡ v → ⊥
  ahead-other w v is same =
      let itself : word_order kind w w ≡ Less = ap (word_order kind w) same ∙ is in
      let equal = order-itself w in
      cc

  pub behind-ahead : (w v : List ℕ) (us : List (List ℕ)) → IsAhead kind w v → AreBehind kind v us → AreBehind kind w us
  behind-ahead w v [] is behind = tt
  behind-ahead w v (u ∷ us) is behind = (ahead-trans w v u is behind.0, behind-ahead w v us is behind.1)
