-- A batch whose numbers climb has no repeats.
use Rattle.std.specs.Prelude.{◌≡◌, ℕ, ◌<◌, ◌≤◌, Bool, true, false, cond, List, [], ◌∷◌, ◌++◌, nat_lt, All, refl}
use Rattle.std.proofs.Common.{sym, ◌∙◌, ap, arith, append_assoc, ltb-true}
use Rattle.std.proofs.lemmas.List.Elements.{All-head, All-tail, All-append, All-cons, All-nil}
use Rattle.std.specs.Cmp.{first_so, second_so}
use Rattle.agg_model.specs.declared.change.Change.{Change}
use Rattle.agg_model.specs.Place.{place_of, is_same_place}
use Rattle.agg_model.specs.Merged.{put_over, merged_from, merged, climbs_above, climbs}
use Rattle.agg_model.proofs.MergedLaws.{same_number}

put_over-above-by : (c d : Change) (ds : List Change) (t : Bool) → is_same_place (place_of c) (place_of d) ≡ t → d.tx < c.tx → put_over c ds ≡ ds ++ c ∷ [] → cond t (c ∷ ds) (d ∷ put_over c ds) ≡ d ∷ ds ++ c ∷ []
put_over-above-by c d ds true same low rest = let number : c.tx ≡ d.tx = same_number c d same in absurd (omega arith)
put_over-above-by c d ds false same low rest = ap (λ l. d ∷ l) rest

-- a change above all numbers goes to the end
put_over-above : (c : Change) (ds : List Change) → All (λ d. d.tx < c.tx) ds → put_over c ds ≡ ds ++ c ∷ []
put_over-above c [] low = refl
put_over-above c (d ∷ ds) low =
    put_over-above-by c d ds (is_same_place (place_of c) (place_of d)) refl (All-head (λ x. x.tx < c.tx) d ds low)
    (put_over-above c ds (All-tail (λ x. x.tx < c.tx) d ds low))

le_lt : {a b c : ℕ} → a ≤ b → b < c → a < c
le_lt h g = omega arith

lt_le : {a b : ℕ} → a < b → a ≤ b
lt_le h = omega arith

le_itself : (a : ℕ) → a ≤ a
le_itself a = omega arith

merged_from-climbs : (last : ℕ) (acc cs : List Change) → All (λ d. d.tx ≤ last) acc → climbs_above last cs ≡ true → merged_from acc cs ≡ acc ++ cs
merged_from-climbs last acc [] low up = sym (nothing acc)
  where
    nothing : (acc : List Change) → acc ++ [] ≡ acc
    nothing [] = refl
    nothing (d ∷ ds) = ap (λ l. d ∷ l) (nothing ds)
merged_from-climbs last acc (c ∷ cs) low up =
    let above : last < c.tx = ltb-true last c.tx (first_so (nat_lt last c.tx) (climbs_above c.tx cs) up) in
    let end = put_over-above c acc (λ k z below. le_lt (low k z below) above) in
    let P = λ (d : Change). d.tx ≤ c.tx in
    let all : All P (acc ++ c ∷ []) =
    All-append P acc (c ∷ []) (λ k z below. lt_le (le_lt (low k z below) above)) (All-cons P c [] (le_itself c.tx) (All-nil P)) in
    ap (λ l. merged_from l cs) end
    ∙ merged_from-climbs c.tx (acc ++ c ∷ []) cs all (second_so (nat_lt last c.tx) (climbs_above c.tx cs) up)
    ∙ append_assoc acc (c ∷ []) cs

pub merged-climbs : (cs : List Change) → climbs cs ≡ true → merged cs ≡ cs
unfolding merged
merged-climbs [] up = refl
merged-climbs (c ∷ cs) up =
    let P = λ (d : Change). d.tx ≤ c.tx in
    merged_from-climbs c.tx (c ∷ []) cs (All-cons P c [] (le_itself c.tx) (All-nil P)) up
