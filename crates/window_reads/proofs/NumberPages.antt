-- As many numbers as there is room for, list by list.
use Rattle.std.proofs.Common.{◌≡◌, ℕ, zero, suc, ◌+◌, ◌-◌, ◌≤◌, ◌<◌, List, [], ◌∷◌, ◌++◌, length, get_or, take, drop, map, reverse, refl, sym, ap, subst, ◌∙◌, arith, append-nil, append_assoc}
use Rattle.std.specs.Prelude.{Option, Some, slice_get}
use Rattle.std.specs.Option.{option_map}
use Rattle.std.proofs.lemmas.List.{drop_all, take_more, map-append, reverse-append}
use Rattle.agg_model.specs.Listed.{limited}
use Rattle.agg_model.specs.declared.entity.Entity.{Entity}
use Rattle.collate_step.specs.Groups.{GroupFiles}
use Rattle.window_reads.specs.Folds.{numbers_in_group, numbers_in_groups}
use Rattle.window_reads.proofs.NumberWalks.{take-again, length-take-le}

-- ---- list by list

module _ (room : ℕ) where
  -- what is found here is added, and what is found behind it is left
  pub walk-more : (out new here rest more goal : List ℕ) → new ≡ take room (out ++ here) → rest ≡ here ++ more → take room (out ++ rest) ≡ goal
      → (length new ≤ room) × (take room (new ++ more) ≡ goal)
  walk-more out new here rest more goal is split same = (
    subst (λ l. length l ≤ room) (sym is) (length-take-le room (out ++ here)),
    ap (λ l. take room (l ++ more)) is
        ∙ take-again room (out ++ here) more
        ∙ ap (take room) (append_assoc out here more)
        ∙ ap (λ l. take room (out ++ l)) (sym split)
        ∙ same,
  )

-- ---- a page of one more than fit

abbrev pub page_at : ℕ → List ℕ → List ℕ × Option ℕ
page_at limit xs = limited {A = ℕ} {B = ℕ} (λ t. t) limit xs

takes : (n : ℕ) (xs : List ℕ) → take n (take (suc n) xs) ≡ take n xs
takes zero xs = refl
takes (suc n) [] = refl
takes (suc n) (x ∷ xs) = ap (λ l. x ∷ l) (takes n xs)

nexts : (n : ℕ) (xs : List ℕ) → slice_get (drop n (take (suc n) xs)) 0 ≡ slice_get (drop n xs) 0
nexts zero [] = refl
nexts zero (x ∷ xs) = refl
nexts (suc n) [] = refl
nexts (suc n) (x ∷ xs) = nexts n xs

pub page-same : (limit : ℕ) (xs : List ℕ) → page_at limit (take (limit + 1) xs) ≡ page_at limit xs
page-same limit xs =
    let one : limit + 1 ≡ suc limit = omega arith in
    ap (λ n. page_at limit (take n xs)) one
    ∙ (λ i. (takes limit xs i, option_map (λ t. t) (nexts limit xs i)))

get-dropped : (n : ℕ) (xs : List ℕ) → slice_get (drop n xs) 0 ≡ slice_get xs n
get-dropped zero [] = refl
get-dropped zero (x ∷ xs) = refl
get-dropped (suc n) [] = refl
get-dropped (suc n) (x ∷ xs) = get-dropped n xs

pub page-more : (limit : ℕ) (xs rest : List ℕ) (more : ℕ) → length xs ≤ limit + 1 → slice_get xs limit ≡ Some more → rest ≡ take limit xs ++ drop (suc limit) xs
    → (rest, Some more) ≡ page_at limit xs
page-more limit xs rest more short item others =
    let items : rest ≡ take limit xs = others ∙ ap (λ l. take limit xs ++ l) (drop_all (suc limit) xs (omega (arith, short))) ∙ append-nil (take limit xs) in
    let next : Some more ≡ option_map (λ t. t) (slice_get (drop limit xs) 0) = ap (option_map (λ t. t)) (sym item ∙ sym (get-dropped limit xs)) in
    λ i. (items i, next i)

-- ---- group by group

module _ (e : Entity) (k : List ℕ) (a b : ℕ) where
  abbrev found : List GroupFiles → List ℕ
  found gs = numbers_in_groups e k a b gs

  found-append : (gs hs : List GroupFiles) → found (gs ++ hs) ≡ found gs ++ found hs
  found-append [] hs = refl
  found-append (g ∷ gs) hs =
      ap (λ l. numbers_in_group e k a b g ++ l) (found-append gs hs) ∙ sym (append_assoc (numbers_in_group e k a b g) (found gs) (found hs))

  module _ {Z : Type 0} (value : Z → GroupFiles) (groups : List Z) where
    pub found-last : (left : ℕ) (z : Z) → 0 < left → left ≤ length groups → z ≡ get_or groups (left - 1) z
        → reverse (found (map value (take left groups))) ≡ reverse (numbers_in_group e k a b (value z)) ++ reverse (found (map value (take (left - 1) groups)))
    found-last left z some within is =
        let one_more : left ≡ left - 1 + 1 = omega arith in
        let last_of : take left groups ≡ take (left - 1) groups ++ z ∷ [] =
        ap (λ n. take n groups) one_more ∙ take_more groups (left - 1) z (omega arith) ∙ ap (λ f. take (left - 1) groups ++ f ∷ []) (sym is) in
        let here = numbers_in_group e k a b (value z) in
        ap (λ zs. reverse (found (map value zs))) last_of
        ∙ ap (λ gs. reverse (found gs)) (map-append value (take (left - 1) groups) (z ∷ []))
        ∙ ap reverse (found-append (map value (take (left - 1) groups)) (value z ∷ []))
        ∙ ap (λ l. reverse (found (map value (take (left - 1) groups)) ++ l)) (append-nil here)
        ∙ reverse-append (found (map value (take (left - 1) groups))) here
