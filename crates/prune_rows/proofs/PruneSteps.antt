-- A prune is a kill and then a removal.
use Rattle.std.proofs.Common.{◌≡◌, ◌⊎◌, inl, inr, ℕ, ◌≤◌, List, Option, Some, None, IfSome, IsSomeAnd, Result, Ok, Err, OnErr, refl, sym, ap, subst, ◌∙◌}
use Rattle.agg_outside.specs.declared.rows.Row.{Row}
use Rattle.agg_outside.specs.Rows.{Held}
use Rattle.row_epochs.specs.Seen.{SameUpTo, SameFrom}
use Rattle.row_epochs.proofs.Answering.{tell, fall}
use Rattle.prune_rows.specs.Prunes.{SameBetween}

-- what is held after both
pub after_both : (first middle last : Option Held) (f g : Held → Held) → IfSome first (λ h. middle ≡ Some (f h)) → IfSome middle (λ k. last ≡ Some (g k)) → IfSome first (λ h. last ≡ Some (g (f h)))
after_both first middle last f g one other =
    tell first (λ h. last ≡ Some (g (f h))) (λ h told. fall middle (λ k. last ≡ Some (g k)) other (f h) (fall first (λ x. middle ≡ Some (f x)) one h told))

-- and what the views are shown
pub views_after : (first middle last : Option Held) (oldest epoch : ℕ) → IfSome first (λ h. IsSomeAnd middle (λ k. SameUpTo epoch h.rows k.rows)) → IfSome middle (λ h. IsSomeAnd last (λ k. SameFrom oldest h.rows k.rows))
    → IfSome first (λ h. IsSomeAnd last (λ k. SameBetween oldest epoch h.rows k.rows))
views_after None middle last oldest epoch one other = tt
views_after (Some h) None last oldest epoch one other = absurd one
views_after (Some h) (Some k) None oldest epoch one other = absurd other
views_after (Some h) (Some k) (Some l) oldest epoch one other = λ v low high. other v low ∙ one v high

-- nothing was done
pub views_same : (first last : Option Held) (oldest epoch : ℕ) → last ≡ first → IfSome first (λ h. IsSomeAnd last (λ k. SameBetween oldest epoch h.rows k.rows))
views_same first last oldest epoch same =
    tell first (λ h. IsSomeAnd last (λ k. SameBetween oldest epoch h.rows k.rows)) (λ h told.
    let F : Option Held → Type 0 = λ o. IsSomeAnd o (λ k. SameBetween oldest epoch h.rows k.rows) in
    subst F (sym (same ∙ told)) (λ v low high. refl))

-- the kill alone was done
pub views_killed : (first middle last : Option Held) (oldest epoch : ℕ) → last ≡ middle → IfSome first (λ h. IsSomeAnd middle (λ k. SameUpTo epoch h.rows k.rows)) → IfSome first (λ h. IsSomeAnd last (λ k. SameBetween oldest epoch h.rows k.rows))
views_killed first middle last oldest epoch same one =
    let F : Option Held → Type 0 = λ o. IfSome first (λ h. IsSomeAnd o (λ k. SameBetween oldest epoch h.rows k.rows)) in
    subst F (sym same) (by first middle one)
  where
    by : (first middle : Option Held) → IfSome first (λ h. IsSomeAnd middle (λ k. SameUpTo epoch h.rows k.rows)) → IfSome first (λ h. IsSomeAnd middle (λ k. SameBetween oldest epoch h.rows k.rows))
    by None middle one = tt
    by (Some h) None one = absurd one
    by (Some h) (Some k) one = λ v low high. one v high

on_err : {T E : Type 0} (result : Result T E) (P : Type 0) → P → OnErr result P
on_err (Ok value) P is = tt
on_err (Err error) P is = is

-- the rows are as they were
pub left_same : {T E : Type 0} (first last : Option Held) (f : Held → Held) (result : Result T E) → last ≡ first → IfSome first (λ h. OnErr result ((last ≡ Some h) ⊎ (last ≡ Some (f h))))
left_same first last f result same =
    tell first (λ h. OnErr result ((last ≡ Some h) ⊎ (last ≡ Some (f h)))) (λ h told. on_err result ((last ≡ Some h) ⊎ (last ≡ Some (f h))) (inl (same ∙ told)))

-- or as the kill left them
pub left_killed : {T E : Type 0} (first middle last : Option Held) (f : Held → Held) (result : Result T E) → last ≡ middle → IfSome first (λ h. middle ≡ Some (f h)) → IfSome first (λ h. OnErr result ((last ≡ Some h) ⊎ (last ≡ Some (f h))))
left_killed first middle last f result same one =
    tell first (λ h. OnErr result ((last ≡ Some h) ⊎ (last ≡ Some (f h)))) (λ h told.
    on_err result ((last ≡ Some h) ⊎ (last ≡ Some (f h))) (inr (same ∙ fall first (λ x. middle ≡ Some (f x)) one h told)))
