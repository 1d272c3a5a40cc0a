-- Where in the changes kept so far the one of a place stands.
use Rattle.std.proofs.Common.{◌≡◌, ℕ, suc, ◌+◌, ◌<◌, ◌≤◌, Bool, true, false, cond, List, [], ◌∷◌, ◌++◌, Option, Some, None, length, set, get_or, refl, sym, ◌∙◌, ap, subst, arith}
use Rattle.std.proofs.Common.{drop, drop-cons, add-one, append_assoc, length-append}
use Rattle.std.specs.BTreeMap.{BTreeMap, get, is_at}
use Rattle.std.proofs.lemmas.List.{length-set, length-drop}
use Rattle.std.proofs.lemmas.Grind.{get_or_default_zero}
use Rattle.std.proofs.Math.Seq.{get_or-append_seam}
use Rattle.std.proofs.Math.ListN.{get_or-append}
use Rattle.std.specs.Prelude.{MatchOption}
use Rattle.std.specs.Option.{option_or, option_map, unwrap_or}
use Rattle.agg_model.specs.declared.change.Change.{Change}
use Rattle.agg_model.specs.Place.{Place, place_of, is_same_place}
use Rattle.agg_model.specs.Spot.{spot_cmp, place_of_spot}
use Rattle.agg_model.specs.declared.merge.Spot.{Spot}
use Rattle.agg_model.proofs.Checks.{drop_here}
use Rattle.agg_model.proofs.PlaceOrder.{is_same_place-true, is_same_place-back}
use Rattle.agg_model.specs.Merged.{put_over, index_of, place_among, places_from}

some_is : (a b : ℕ) → ◌≡◌ {A = Option ℕ} (Some a) (Some b) → a ≡ b
some_is a b e = cc

-- a place after the first one is that of the rest
record IsNext (o : Option ℕ) (i : ℕ) : Type 0 where
  before : ℕ
  found : o ≡ Some before
  next : suc before ≡ i

next_found : (o : Option ℕ) (i : ℕ) → option_map suc o ≡ Some i → IsNext o i
next_found None i e = absurd (no_place i e)
  where
    no_place : (i : ℕ) → ◌≡◌ {A = Option ℕ} None (Some i) → ⊥
    no_place i e = cc
next_found (Some j) i e = record { before = j; found = refl; next = some_is (suc j) i e }

put_over-found-by : (c d : Change) (ds : List Change) (t : Bool) (i : ℕ) → ((j : ℕ) → index_of (place_of c) ds ≡ Some j → put_over c ds ≡ set ds j c)
    → cond t (Some 0) (option_map suc (index_of (place_of c) ds)) ≡ Some i → cond t (c ∷ ds) (d ∷ put_over c ds) ≡ set (d ∷ ds) i c
put_over-found-by c d ds true i rest e = subst (λ n. c ∷ ds ≡ set (d ∷ ds) n c) (some_is 0 i e) refl
put_over-found-by c d ds false i rest e =
    let n = next_found (index_of (place_of c) ds) i e in
    subst (λ m. d ∷ put_over c ds ≡ set (d ∷ ds) m c) n.next (ap (λ l. d ∷ l) (rest n.before n.found))

-- the change takes the place that was found
pub put_over-found : (c : Change) (ds : List Change) (i : ℕ) → index_of (place_of c) ds ≡ Some i → put_over c ds ≡ set ds i c
put_over-found c [] i e = cc
put_over-found c (d ∷ ds) i e =
    put_over-found-by c d ds (is_same_place (place_of c) (place_of d)) i (put_over-found c ds) e

index_below-by : (ds : List Change) (o : Option ℕ) (t : Bool) (i : ℕ) → ((j : ℕ) → o ≡ Some j → j < length ds) → cond t (Some 0) (option_map suc o) ≡ Some i → i < suc (length ds)
index_below-by ds o true i rest e = let z : 0 ≡ i = some_is 0 i e in omega arith
index_below-by ds o false i rest e =
    let n = next_found o i e in
    omega (arith, rest n.before n.found, n.next)

pub index_below : (p : Place) (ds : List Change) (i : ℕ) → index_of p ds ≡ Some i → i < length ds
index_below p [] i e = cc
index_below p (d ∷ ds) i e = index_below-by ds (index_of p ds) (is_same_place p (place_of d)) i (index_below p ds) e

no_later : (o : Option ℕ) (t : Bool) → cond t (Some 0) (option_map suc o) ≡ None → (t ≡ false) × (o ≡ None)
no_later None true e = cc
no_later (Some j) true e = cc
no_later None false e = (refl, refl)
no_later (Some j) false e = cc

-- a change of a new place goes to the end
pub put_over-new : (c : Change) (ds : List Change) → index_of (place_of c) ds ≡ None → put_over c ds ≡ ds ++ c ∷ []
put_over-new c [] e = refl
put_over-new c (d ∷ ds) e =
    let none = no_later (index_of (place_of c) ds) (is_same_place (place_of c) (place_of d)) e in
    ap (λ t. cond t (c ∷ ds) (d ∷ put_over c ds)) none.0 ∙ ap (λ l. d ∷ l) (put_over-new c ds none.1)

index_of-found-by : (q : Place) (c d : Change) (ds : List Change) (t : Bool) (i : ℕ) → is_same_place (place_of c) (place_of d) ≡ t
    → ((j : ℕ) → index_of (place_of c) ds ≡ Some j → index_of q (put_over c ds) ≡ index_of q ds)
    → cond t (Some 0) (option_map suc (index_of (place_of c) ds)) ≡ Some i → index_of q (cond t (c ∷ ds) (d ∷ put_over c ds)) ≡ index_of q (d ∷ ds)
index_of-found-by q c d ds true i same rest e =
    ap (λ p. cond (is_same_place q p) (Some 0) (option_map suc (index_of q ds))) (is_same_place-true _ _ same)
index_of-found-by q c d ds false i same rest e =
    let n = next_found (index_of (place_of c) ds) i e in
    ap (λ o. cond (is_same_place q (place_of d)) (Some 0) (option_map suc o)) (rest n.before n.found)

-- no place moves where a change takes that of another
pub index_of-found : (q : Place) (c : Change) (ds : List Change) (i : ℕ) → index_of (place_of c) ds ≡ Some i → index_of q (put_over c ds) ≡ index_of q ds
index_of-found q c [] i e = cc
index_of-found q c (d ∷ ds) i e =
    index_of-found-by q c d ds (is_same_place (place_of c) (place_of d)) i refl (index_of-found q c ds) e

index_of-push-by : (o : Option ℕ) (t u : Bool) (n : ℕ) → cond t (Some 0) (option_map suc (option_or o (cond u (Some n) None))) ≡ option_or (cond t (Some 0) (option_map suc o)) (cond u (Some (suc n)) None)
index_of-push-by o true u n = refl
index_of-push-by None false true n = refl
index_of-push-by None false false n = refl
index_of-push-by (Some j) false u n = refl

index_of-push : (q : Place) (c : Change) (ds : List Change) → index_of q (ds ++ c ∷ []) ≡ option_or (index_of q ds) (cond (is_same_place q (place_of c)) (Some (length ds)) None)
index_of-push q c [] = refl
index_of-push q c (d ∷ ds) =
    ap (λ o. cond (is_same_place q (place_of d)) (Some 0) (option_map suc o)) (index_of-push q c ds)
    ∙ index_of-push-by (index_of q ds) (is_same_place q (place_of d)) (is_same_place q (place_of c)) (length ds)

index_of-new-by : (q : Place) (c : Change) (ds : List Change) (t : Bool) → is_same_place (place_of c) q ≡ t → index_of (place_of c) ds ≡ None
    → option_or (index_of q ds) (cond t (Some (length ds)) None) ≡ cond t (Some (length ds)) (index_of q ds)
index_of-new-by q c ds true same none =
    ap (λ o. option_or o (Some (length ds))) (subst (λ p. index_of p ds ≡ None) (is_same_place-true _ _ same) none)
index_of-new-by q c ds false same none = or_none (index_of q ds)
  where
    or_none : (o : Option ℕ) → option_or o None ≡ o
    or_none None = refl
    or_none (Some j) = refl

-- the place of a new change is the end, and all others stay
pub index_of-new : (q : Place) (c : Change) (ds : List Change) → index_of (place_of c) ds ≡ None → index_of q (ds ++ c ∷ []) ≡ cond (is_same_place (place_of c) q) (Some (length ds)) (index_of q ds)
index_of-new q c ds none =
    index_of-push q c ds
    ∙ ap (λ t. option_or (index_of q ds) (cond t (Some (length ds)) None)) (is_same_place-back q (place_of c))
    ∙ index_of-new-by q c ds (is_same_place (place_of c) q) refl none

-- ---- where changes go

index_of-put_over-by : (q : Place) (c : Change) (kept : List Change) (o : Option ℕ) (t : Bool) → index_of (place_of c) kept ≡ o → is_same_place (place_of c) q ≡ t
    → index_of q (put_over c kept) ≡ cond t (Some (unwrap_or o (length kept))) (index_of q kept)
index_of-put_over-by q c kept None t at same =
    ap (index_of q) (put_over-new c kept at) ∙ index_of-new q c kept at
    ∙ ap (λ u. cond u (Some (length kept)) (index_of q kept)) same
index_of-put_over-by q c kept (Some p) true at same =
    index_of-found q c kept p at ∙ ap (λ r. index_of r kept) (sym (is_same_place-true _ _ same)) ∙ at
index_of-put_over-by q c kept (Some p) false at same = index_of-found q c kept p at

-- which change has a place, after one more went to its own
pub index_of-put_over : (q : Place) (c : Change) (kept : List Change) → index_of q (put_over c kept) ≡ cond (is_same_place (place_of c) q) (Some (place_among c kept)) (index_of q kept)
index_of-put_over q c kept = index_of-put_over-by q c kept (index_of (place_of c) kept) (is_same_place (place_of c) q) refl refl

put_over-below-by : (c : Change) (kept : List Change) (o : Option ℕ) → index_of (place_of c) kept ≡ o → unwrap_or o (length kept) < length kept → put_over c kept ≡ set kept (unwrap_or o (length kept)) c
put_over-below-by c kept None at below = absurd (omega (arith, below))
put_over-below-by c kept (Some p) at below = put_over-found c kept p at

-- a change that goes to a place within stands there
pub put_over-below : (c : Change) (kept : List Change) → place_among c kept < length kept → put_over c kept ≡ set kept (place_among c kept) c
put_over-below c kept = put_over-below-by c kept (index_of (place_of c) kept) refl

put_over-behind-by : (c : Change) (kept : List Change) (o : Option ℕ) → index_of (place_of c) kept ≡ o → length kept ≤ unwrap_or o (length kept) → put_over c kept ≡ kept ++ c ∷ []
put_over-behind-by c kept None at behind = put_over-new c kept at
put_over-behind-by c kept (Some p) at behind = absurd (omega (arith, behind, index_below (place_of c) kept p at))

pub put_over-behind : (c : Change) (kept : List Change) → length kept ≤ place_among c kept → put_over c kept ≡ kept ++ c ∷ []
put_over-behind c kept = put_over-behind-by c kept (index_of (place_of c) kept) refl

-- ---- of each place the last change

-- what is known of a place: none of the changes so far has it, or the last one that has it goes there
abbrev pub Goes : Option ℕ → List ℕ → Option ℕ → Type 0
Goes last places at = MatchOption last (at ≡ None) (λ j. (j < length places) × (at ≡ Some (get_or places j 0)))

pub goes-next : (last : Option ℕ) (places : List ℕ) (at : Option ℕ) (t : Bool) (p i : ℕ) → i ≡ length places → Goes last places at → Goes (cond t (Some i) last) (places ++ p ∷ []) (cond t (Some p) at)
goes-next last places at true p i is h =
    let long = length-append places (p ∷ []) in
    (omega (arith, long), ap Some (sym (ap (λ n. get_or (places ++ p ∷ []) n 0) is ∙ get_or-append_seam places p [] 0)))
goes-next None places at false p i is h = h
goes-next (Some j) places at false p i is h =
    let long = length-append places (p ∷ []) in
    (omega (arith, long, h.0), h.1 ∙ ap Some (sym (get_or-append places (p ∷ []) 0 j h.0)))

pub length-put_over-old : (c : Change) (kept : List Change) (p : ℕ) → index_of (place_of c) kept ≡ Some p → length (put_over c kept) ≡ length kept
length-put_over-old c kept p at = ap length (put_over-found c kept p at) ∙ length-set kept p c

pub length-put_over-new : (c : Change) (kept : List Change) → index_of (place_of c) kept ≡ None → length (put_over c kept) ≡ length kept + 1
length-put_over-new c kept at = ap length (put_over-new c kept at) ∙ length-append kept (c ∷ [])

module _ (seen : BTreeMap Spot ℕ) (spot : Spot) (kept : List Change) (places : List ℕ) (o : Option ℕ) (is : o ≡ get spot_cmp seen spot) (goes : Goes (get spot_cmp seen spot) places (index_of (place_of_spot spot) kept)) where
  known : (last : Option ℕ) → o ≡ last → Goes last places (index_of (place_of_spot spot) kept)
  known last some = subst (λ o. Goes o places (index_of (place_of_spot spot) kept)) (sym is ∙ some) goes

  -- the change goes where the last one of its place went
  pub known-old : (before p : ℕ) → o ≡ Some before → p ≡ get_or places before p → (p ≡ place_among spot.change.now kept) × (length (put_over spot.change.now kept) ≡ length kept)
  known-old before p some read =
      let h = known (Some before) some in
      let at = read ∙ get_or_default_zero places before p h.0 in (
        at ∙ sym (ap (λ o. unwrap_or o (length kept)) h.1),
        length-put_over-old spot.change.now kept (get_or places before 0) h.1,
      )

  -- or behind all of them
  pub known-new : (count : ℕ) → o ≡ None → length kept ≡ count → (count ≡ place_among spot.change.now kept) × (length (put_over spot.change.now kept) ≡ length kept + 1)
  known-new count none long =
      let h = known None none in
      (sym long ∙ sym (ap (λ o. unwrap_or o (length kept)) h), length-put_over-new spot.change.now kept h)

-- one more change is placed
pub places_from-step : (placed : List ℕ) (kept : List Change) (c : Change) (cs : List Change) → (placed ++ place_among c kept ∷ []) ++ places_from (put_over c kept) cs ≡ placed ++ places_from kept (c ∷ cs)
places_from-step placed kept c cs = append_assoc placed (place_among c kept ∷ []) (places_from (put_over c kept) cs)

module _ (places : List ℕ) (kept : List Change) (items : List Change) (i p : ℕ) (c : Change) (h : i < length items) (is : c ≡ get_or items i c) (goes : p ≡ place_among c kept) where
  -- what is still to be placed, after the change
  pub left-next : (whole : List ℕ) → places ++ places_from kept (drop i items) ≡ whole → (places ++ p ∷ []) ++ places_from (put_over c kept) (drop (i + 1) items) ≡ whole
  left-next whole left =
      ap (λ n. (places ++ n ∷ []) ++ places_from (put_over c kept) (drop (i + 1) items)) goes
      ∙ places_from-step places kept c (drop (i + 1) items)
      ∙ ap (λ cs. places ++ places_from kept cs) (sym (drop_here items i c h is))
      ∙ left

-- what is known of each place, after the change of a spot
pub goes-after : (seen after : BTreeMap Spot ℕ) (spot : Spot) (kept : List Change) (places : List ℕ) (i p : ℕ)
    → ((s : Spot) → get spot_cmp after s ≡ cond (is_at (spot_cmp spot) s) (Some i) (get spot_cmp seen s))
    → ((s : Spot) → Goes (get spot_cmp seen s) places (index_of (place_of_spot s) kept)) → i ≡ length places → p ≡ place_among spot.change.now kept
    → (s : Spot) → Goes (get spot_cmp after s) (places ++ p ∷ []) (index_of (place_of_spot s) (put_over spot.change.now kept))
unfolding spot_cmp is_same_place
goes-after seen after spot kept places i p updates goes long at s =
    let c = spot.change.now in
    let t = is_same_place (place_of_spot spot) (place_of_spot s) in
    let next = goes-next (get spot_cmp seen s) places (index_of (place_of_spot s) kept) t p i long (goes s) in
    subst (λ o. Goes o (places ++ p ∷ []) (index_of (place_of_spot s) (put_over c kept))) (sym (updates s))
    (subst (λ o. Goes (cond t (Some i) (get spot_cmp seen s)) (places ++ p ∷ []) o)
    (ap (λ n. cond t (Some n) (index_of (place_of_spot s) kept)) at ∙ sym (index_of-put_over (place_of_spot s) c kept)) next)

-- ---- the changes at their places

pub record IsFirst (p : ℕ) (tail places : List ℕ) (at : ℕ) : Type 0 where
  pub within : at < length places
  pub here : get_or places at 0 ≡ p
  pub rest : drop (at + 1) places ≡ tail

pub first_of_rest : (p : ℕ) (tail places : List ℕ) (at : ℕ) → p ∷ tail ≡ drop at places → IsFirst p tail places at
first_of_rest p tail places at e =
    let long : length (drop at places) ≡ length (p ∷ tail) = ap length (sym e) in
    let within : at < length places = omega (arith, length-drop at places, long) in
    let both : get_or places at 0 ∷ drop (suc at) places ≡ p ∷ tail = sym (drop-cons places at 0 within) ∙ sym e in
    record {
      within = within;
      here = ap (λ l. get_or l 0 0) both;
      rest = ap (λ n. drop n places) (add-one at) ∙ ap (drop 1) both;
    }

pub set-placed : (kept : List Change) (c : Change) (n : ℕ) → n ≡ place_among c kept → n < length kept → put_over c kept ≡ set kept n c
set-placed kept c n is h =
    put_over-below c kept (subst (λ m. m < length kept) is h) ∙ ap (λ m. set kept m c) (sym is)

pub push-placed : (kept : List Change) (c : Change) (n : ℕ) → n ≡ place_among c kept → length kept ≤ n → put_over c kept ≡ kept ++ c ∷ []
push-placed kept c n is h = put_over-behind c kept (subst (λ m. length kept ≤ m) is h)
