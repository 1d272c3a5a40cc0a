-- Texts taken apart at their beginning, at their end, and at a byte.
use Rattle.std.specs.Prelude.{MatchOption, IfSome, IsSomeAnd, All}
use Rattle.std.specs.Borrow.{Bor}
use Rattle.std.proofs.Common.{◌≡◌, ◌≢◌, ℕ, ◌+◌, ◌-◌, ◌<◌, ◌≤◌, Bool, true, false, nat_eq, nat_lt, List, ◌∷◌, ◌++◌, Option, Some, None, length, get_or, take, drop, refl, sym, ◌∙◌, ap, arith, length-append, length-drop, ltb-true, ltb-false}
use Rattle.std.proofs.lemmas.Bool.{false≢true}
use Rattle.std.proofs.lemmas.List.{take-append-drop, take_all}
use Rattle.std.proofs.Math.Seq.{take-append_seam, drop-append_seam, drop-append-add, get_or-append_seam}
use Rattle.std.proofs.Math.ListN.{get_or-append}
use Rattle.std.specs.Cmp.Lexicographic.{pointwise, bytes_decides}

abbrev IsAfter : List ℕ → List ℕ → Option (Bor (List ℕ)) → Type 0
IsAfter text first o =
    MatchOption o (pointwise nat_eq (take (length first) text) first ≡ false) (λ x.
    (pointwise nat_eq (take (length first) text) first ≡ true) × (x.now ≡ drop (length first) text) × (length x.now + length first ≡ length text))

pub after-found : (text first : List ℕ) (o : Option (Bor (List ℕ))) → IsAfter text first o → IfSome o (λ rest. text ≡ first ++ rest.now)
after-found text first None h = tt
after-found text first (Some x) h =
    sym (take-append-drop (length first) text) ∙ (λ i. (bytes_decides (take (length first) text) first).0 h.0 i ++ sym h.1 i)

pub after-only : (text first : List ℕ) (o : Option (Bor (List ℕ))) → IsAfter text first o → (rest : List ℕ) → text ≡ first ++ rest → IsSomeAnd o (λ r. r.now ≡ rest)
after-only text first None h rest same =
    absurd (false≢true (sym h ∙ (bytes_decides (take (length first) text) first).1 (ap (take (length first)) same ∙ take-append_seam first rest)))
after-only text first (Some x) h rest same = h.1 ∙ ap (drop (length first)) same ∙ drop-append_seam first rest

abbrev IsBefore : List ℕ → List ℕ → Option (Bor (List ℕ)) → Type 0
IsBefore text last o =
    MatchOption o (pointwise nat_eq (drop (length text - length last) text) last ≡ false) (λ x.
    (pointwise nat_eq (drop (length text - length last) text) last ≡ true) × (x.now ≡ take (length text - length last) text) × (length x.now + length last ≡ length text))

pub before-found : (text last : List ℕ) (o : Option (Bor (List ℕ))) → IsBefore text last o → IfSome o (λ front. text ≡ front.now ++ last)
before-found text last None h = tt
before-found text last (Some x) h =
    let at = length text - length last in
    sym (take-append-drop at text) ∙ (λ i. sym h.1 i ++ (bytes_decides (drop at text) last).0 h.0 i)

front_length : (text front last : List ℕ) → text ≡ front ++ last → length text - length last ≡ length front
front_length text front last same = let long : length text ≡ length front + length last = ap length same ∙ length-append front last in omega arith

pub before-only : (text last : List ℕ) (o : Option (Bor (List ℕ))) → IsBefore text last o → (front : List ℕ) → text ≡ front ++ last → IsSomeAnd o (λ r. r.now ≡ front)
before-only text last None h front same =
    let tail : drop (length text - length last) text ≡ last =
    (λ i. drop (front_length text front last same i) (same i)) ∙ drop-append_seam front last in
    absurd (false≢true (sym h ∙ (bytes_decides (drop (length text - length last) text) last).1 tail))
before-only text last (Some x) h front same =
    h.1 ∙ (λ i. take (front_length text front last same i) (same i)) ∙ take-append_seam front last

module _ (text front back : List ℕ) (mark : ℕ) (without : All (λ b. b ≢ mark) front) (same : text ≡ front ++ mark ∷ back) where
  pub mark_there : get_or text (length front) 0 ≡ mark
  mark_there = ap (λ l. get_or l (length front) 0) same ∙ get_or-append_seam front mark back 0

  pub mark_inside : length front < length text
  mark_inside = let long : length text ≡ length front + length (mark ∷ back) = ap length same ∙ length-append front (mark ∷ back) in omega arith

  not_before : (i : ℕ) → get_or text i 0 ≡ mark → i < length front → ⊥
  not_before i is h = without i 0 h (sym (ap (λ l. get_or l i 0) same ∙ get_or-append front (mark ∷ back) 0 i h) ∙ is)

  pub mark_first : (i : ℕ) → get_or text i 0 ≡ mark → ((k : ℕ) → k < i → get_or text k 0 ≢ mark) → i ≡ length front
  mark_first i is none = by (nat_lt i (length front)) (nat_lt (length front) i) refl refl
    where
      by : (s t : Bool) → nat_lt i (length front) ≡ s → nat_lt (length front) i ≡ t → i ≡ length front
      by true t low high = absurd (not_before i is (ltb-true i (length front) low))
      by false true low high = absurd (none (length front) (ltb-true (length front) i high) mark_there)
      by false false low high =
          let up : length front ≤ i = ltb-false i (length front) low in
          let down : i ≤ length front = ltb-false (length front) i high in
          omega arith

  front_is : (i : ℕ) → i ≡ length front → take i text ≡ front
  front_is i at = (λ j. take (at j) (same j)) ∙ take-append_seam front (mark ∷ back)

  back_is : (i : ℕ) → i ≡ length front → drop (i + 1) text ≡ back
  back_is i at = (λ j. drop (at j + 1) (same j)) ∙ drop-append-add front (mark ∷ back) 1

  rest_is : (i : ℕ) → take (length text - (i + 1)) (drop (i + 1) text) ≡ drop (i + 1) text
  rest_is i = take_all (length text - (i + 1)) (drop (i + 1) text) (omega (arith, length-drop (i + 1) text))

  -- the first mark stands between the two parts
  pub parts_are : (i : ℕ) → get_or text i 0 ≡ mark → ((k : ℕ) → k < i → get_or text k 0 ≢ mark) → (take i text ≡ front) × (take (length text - (i + 1)) (drop (i + 1) text) ≡ back)
  parts_are i is none =
      let at = mark_first i is none in
      (front_is i at, rest_is i ∙ back_is i at)

-- a text is cut at its first mark in one way
pub one_cut : (mark : ℕ) (front back other last : List ℕ) → All (λ b. b ≢ mark) front → All (λ b. b ≢ mark) other → front ++ mark ∷ back ≡ other ++ mark ∷ last → (front ≡ other) × (back ≡ last)
one_cut mark front back other last without_front without_other same =
    let text = front ++ mark ∷ back in
    let there = mark_there text other last mark without_other same in
    let none = λ (k : ℕ) (h : k < length other) (is : get_or text k 0 ≡ mark).
    without_other k 0 h (sym (ap (λ l. get_or l k 0) same ∙ get_or-append other (mark ∷ last) 0 k h) ∙ is) in
    let one = parts_are text front back mark without_front refl (length other) there none in
    let two = parts_are text other last mark without_other same (length other) there none in
    (sym one.0 ∙ two.0, sym one.1 ∙ two.1)
