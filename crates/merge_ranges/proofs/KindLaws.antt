-- No two kinds have one number or one ending.
use Rattle.std.specs.Prelude.{◌≡◌, ℕ, ◌<◌, ◌==◌, nat_eq, List, refl}
use Rattle.std.proofs.Common.{arith, sym, ◌∙◌, ap, cond}
use Rattle.std.specs.Cmp.Lexicographic.{pointwise}
use Rattle.agg_model.specs.declared.entity.FileKind.{FileKind}
use Rattle.agg_model.specs.declared.entity.FileKind.TheVariants.{Kv, Bt, Kvi, V, Vi, Ef, Efi}
use Rattle.merge_ranges.specs.Kind.{kind_number, ending}

kind_at : ℕ → FileKind
kind_at n = cond (n == 0) Kv (cond (n == 1) Bt (cond (n == 2) Kvi (cond (n == 3) V (cond (n == 4) Vi (cond (n == 5) Ef Efi)))))

kind_at-kind_number : (k : FileKind) → kind_at (kind_number k) ≡ k
unfolding kind_at kind_number
kind_at-kind_number Kv = refl
kind_at-kind_number Bt = refl
kind_at-kind_number Kvi = refl
kind_at-kind_number V = refl
kind_at-kind_number Vi = refl
kind_at-kind_number Ef = refl
kind_at-kind_number Efi = refl

pub kind_number-injective : (k l : FileKind) → kind_number k ≡ kind_number l → k ≡ l
kind_number-injective k l same = sym (kind_at-kind_number k) ∙ ap kind_at same ∙ kind_at-kind_number l

pub kind_number-below : (k : FileKind) → kind_number k < 7
unfolding kind_number
kind_number-below Kv = omega arith
kind_number-below Bt = omega arith
kind_number-below Kvi = omega arith
kind_number-below V = omega arith
kind_number-below Vi = omega arith
kind_number-below Ef = omega arith
kind_number-below Efi = omega arith

kind_ending_in : List ℕ → FileKind
kind_ending_in text =
    cond (pointwise nat_eq text (ending Kv)) Kv
    (cond (pointwise nat_eq text (ending Bt)) Bt
    (cond (pointwise nat_eq text (ending Kvi)) Kvi
    (cond (pointwise nat_eq text (ending V)) V
    (cond (pointwise nat_eq text (ending Vi)) Vi (cond (pointwise nat_eq text (ending Ef)) Ef Efi)))))

kind_ending_in-ending : (k : FileKind) → kind_ending_in (ending k) ≡ k
unfolding kind_ending_in ending
kind_ending_in-ending Kv = refl
kind_ending_in-ending Bt = refl
kind_ending_in-ending Kvi = refl
kind_ending_in-ending V = refl
kind_ending_in-ending Vi = refl
kind_ending_in-ending Ef = refl
kind_ending_in-ending Efi = refl

pub ending-injective : (k l : FileKind) → ending k ≡ ending l → k ≡ l
ending-injective k l same = sym (kind_ending_in-ending k) ∙ ap kind_ending_in same ∙ kind_ending_in-ending l
