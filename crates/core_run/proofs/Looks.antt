-- Looks through the lengths of groups, and through parts.
use Rattle.std.proofs.Common.{◌≡◌, Bool, true, false, cond, ◌||◌, ◌&&◌, not, ℕ, zero, suc, ◌+◌, ◌-◌, ◌<◌, ◌≤◌, List, [], ◌∷◌, ◌++◌, length, get_or, drop, refl, sym, ◌∙◌, ap, subst, arith, add-one, drop-cons, append_assoc}
use Rattle.std.specs.Prelude.{Option, Some, None, is_some, find, nat_lt}
use Rattle.std.specs.Cmp.{first_so}
use Rattle.agg_model.specs.declared.entity.Entity.{Entity}
use Rattle.agg_model.specs.declared.entity.Range.{Range}
use Rattle.agg_model.specs.declared.entity.FileKind.TheVariants.{Ef}
use Rattle.merge_ranges.specs.declared.name.FileName.{FileName}
use Rattle.merge_ranges.specs.Cut.{sizes, is_aligned, end_from}
use Rattle.merge_ranges.specs.Name.{is_name, has_kind, spelled}
use Rattle.merge_ranges.proofs.CutLaws.{aligned_from}
use Rattle.core_machine.specs.Texts.{SameNames}
use Rattle.core_machine.specs.Publishing.{range_at, has_group, size_from, after_size, parts_from, parts_of}
use Rattle.core_machine.proofs.Cuts.{end_from-append}
use Rattle.core_machine.proofs.GroupTexts.{named}

drop-here : (items : List ℕ) (i d : ℕ) → i < length items → drop i items ≡ get_or items i d ∷ drop (i + 1) items
drop-here items i d h = rw add-one (drop-cons items i d h)

module _ (p : ℕ → Bool) (items : List ℕ) (i d : ℕ) (h : i < length items) where
  pub find-past : p (get_or items i d) ≡ false → find p (drop i items) ≡ find p (drop (i + 1) items)
  find-past other = ap (find p) (drop-here items i d h) ∙ ap (λ b. cond b (Some (get_or items i d)) (find p (drop (i + 1) items))) other

  pub find-here : p (get_or items i d) ≡ true → find p (drop i items) ≡ Some (get_or items i d)
  find-here here = ap (find p) (drop-here items i d h) ∙ ap (λ b. cond b (Some (get_or items i d)) (find p (drop (i + 1) items))) here

-- ---- the end

pub end-begins : (a b : Bool) (o : Option ℕ) (n : ℕ) → Some n ≡ o → false ≡ ((a || b) && not (is_some o))
end-begins a b o n e = subst (λ x. false ≡ ((a || b) && not (is_some x))) e (sym (and-false (a || b)))
  where
    and-false : (x : Bool) → (x && false) ≡ false
    and-false true = refl
    and-false false = refl

and-true : (a : Bool) → a ≡ (a && true)
and-true true = refl
and-true false = refl

pub end-none : (a b : Bool) (o : Option ℕ) → None ≡ o → (a || b) ≡ ((a || b) && not (is_some o))
end-none a b o e = subst (λ x. (a || b) ≡ ((a || b) && not (is_some x))) e (and-true (a || b))

pub name-within : (n : FileName) → is_name n ≡ true → n.range.to ≤ 4096
unfolding is_name
name-within n h = (aligned_from n.range (first_so (is_aligned n.range) (has_kind n.entity n.kind) h)).within

-- ---- parts

module _ (xs ys : List (List ℕ)) (same : SameNames xs ys) (e : Entity) where
  group-same : (r : Range) → has_group xs e r ≡ has_group ys e r
  unfolding has_group
  group-same r i = is_aligned r && same (spelled (named e r Ef)) i

  size-same : (from : ℕ) → size_from xs e from ≡ size_from ys e from
  unfolding size_from
  size-same from i = find (λ size. group-same (range_at from size) i) sizes

  after-same : (o : Option ℕ) (from : ℕ) (f g : ℕ → List Range) → ((n : ℕ) → f n ≡ g n) → after_size o from f ≡ after_size o from g
  after-same None from f g h = refl
  after-same (Some size) from f g h = ap (λ l. range_at from size ∷ l) (h (from + size))

  parts-same-from : (most from to : ℕ) → parts_from most xs e from to ≡ parts_from most ys e from to
  parts-same-from zero from to = refl
  parts-same-from (suc most) from to =
      ap (λ l. cond (nat_lt from to) l [])
      (ap (λ o. after_size o from (λ next. parts_from most xs e next to)) (size-same from)
      ∙ after-same (size_from ys e from) from (λ next. parts_from most xs e next to) (λ next. parts_from most ys e next to) (λ next. parts-same-from most next to))

  pub parts-same : (r : Range) → parts_of xs e r ≡ parts_of ys e r
  unfolding parts_of
  parts-same r = parts-same-from (r.to - r.from) r.from r.to

module _ (names : List (List ℕ)) (e : Entity) (from to : ℕ) where
  parts-step-suc : (most size : ℕ) → nat_lt from to ≡ true → Some size ≡ size_from names e from → parts_from (suc most) names e from to ≡ range_at from size ∷ parts_from most names e (from + size) to
  parts-step-suc most size below is =
      ap (λ b. cond b (after_size (size_from names e from) from (λ next. parts_from most names e next to)) []) below
      ∙ ap (λ o. after_size o from (λ next. parts_from most names e next to)) (sym is)

  parts-none-suc : (most : ℕ) → None ≡ size_from names e from → parts_from (suc most) names e from to ≡ []
  parts-none-suc most is = ap (λ o. cond (nat_lt from to) (after_size o from (λ next. parts_from most names e next to)) []) (sym is) ∙ both-empty (nat_lt from to)
    where
      both-empty : (b : Bool) → ◌≡◌ {A = List Range} (cond b [] []) []
      both-empty true = refl
      both-empty false = refl

  one-less : (most : ℕ) → 0 < most → most ≡ suc (most - 1)
  one-less most h = omega (arith, h)

  -- one more part
  pub parts-step : (parts : List Range) (most size : ℕ) → 0 < most → nat_lt from to ≡ true → Some size ≡ size_from names e from
      → (parts ++ range_at from size ∷ []) ++ parts_from (most - 1) names e (from + size) to ≡ parts ++ parts_from most names e from to
  parts-step parts most size some below is =
      append_assoc parts (range_at from size ∷ []) (parts_from (most - 1) names e (from + size) to)
      ∙ ap (λ l. parts ++ l) (sym (ap (λ n. parts_from n names e from to) (one-less most some) ∙ parts-step-suc (most - 1) size below is))

  -- no more parts
  pub parts-none : (most : ℕ) → 0 < most → None ≡ size_from names e from → parts_from most names e from to ≡ []
  parts-none most some is = ap (λ n. parts_from n names e from to) (one-less most some) ∙ parts-none-suc (most - 1) is

  pub parts-over : (most : ℕ) → nat_lt from to ≡ false → parts_from most names e from to ≡ []
  parts-over zero over = refl
  parts-over (suc most) over = ap (λ b. cond b (after_size (size_from names e from) from (λ next. parts_from most names e next to)) []) over

pub end-push : (a : ℕ) (parts : List Range) (r : Range) → end_from a (parts ++ r ∷ []) ≡ r.to
end-push a parts r = end_from-append a parts (r ∷ [])
