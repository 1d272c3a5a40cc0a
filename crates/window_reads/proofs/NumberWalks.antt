-- Numbers that don't fall, and those of them in a window.
use Rattle.std.proofs.Common.{◌≡◌, ℕ, zero, suc, ◌+◌, ◌≤◌, ◌<◌, ◌&&◌, Bool, true, false, cond, List, [], ◌∷◌, ◌++◌, length, take, drop, reverse, refl, sym, ap, subst, ◌∙◌, arith, le-leb, lt-ltb, le-ltb, append-nil, append_assoc}
use Rattle.std.specs.Prelude.{All, nat_le, nat_lt, slice_index}
use Rattle.std.specs.List.{filter}
use Rattle.std.specs.List.Sorted.{IsNonDecreasing}
use Rattle.std.proofs.lemmas.Bool.{lt-leb}
use Rattle.std.proofs.lemmas.List.{take-append-le, get_or-drop, get_or-take, get_or_default, length-drop, length-take, length-append, take-append-drop, reverse-append}
use Rattle.std.proofs.lemmas.List.Sorted.{IsNonDecreasingBy-drop, IsNonDecreasingBy-take}
use Rattle.std.proofs.lemmas.List.Elements.{All-nil, All-cons, All-append, All-head, All-tail, filter-append}
use Rattle.window_laws.specs.Parts.{is_between}

-- ---- as many as there is room for

pub take-short : {A : Type 0} (n : ℕ) (xs : List A) → length xs ≤ n → take n xs ≡ xs
take-short zero [] h = refl
take-short zero (x ∷ xs) h = absurd (omega arith)
take-short (suc n) [] h = refl
take-short (suc n) (x ∷ xs) h = ap (λ l. x ∷ l) (take-short n xs (omega arith))

pub take-again : {A : Type 0} (n : ℕ) (xs ys : List A) → take n (take n xs ++ ys) ≡ take n (xs ++ ys)
take-again zero xs ys = refl
take-again (suc n) [] ys = refl
take-again (suc n) (x ∷ xs) ys = ap (λ l. x ∷ l) (take-again n xs ys)

-- where there is no more room, no more is taken
pub take-full : {A : Type 0} (n : ℕ) (xs ys : List A) → length xs ≤ n → n ≤ length xs → take n (xs ++ ys) ≡ xs
take-full n xs ys short long = take-append-le n xs ys long ∙ take-short n xs short

pub length-take-le : {A : Type 0} (n : ℕ) (xs : List A) → length (take n xs) ≤ n
length-take-le zero xs = omega arith
length-take-le (suc n) [] = omega arith
length-take-le (suc n) (x ∷ xs) = let rest = length-take-le n xs in omega arith

-- ---- those in a window

module _ (a b : ℕ) where
  abbrev within : ℕ → Bool
  within x = is_between a b x

  low : (x : ℕ) → x < a → within x ≡ false
  low x h = ap (λ t. t && nat_lt x b) (lt-leb a x h)

  and_false : (t : Bool) → (t && false) ≡ false
  and_false true = refl
  and_false false = refl

  high : (x : ℕ) → b ≤ x → within x ≡ false
  high x h = ap (λ t. nat_le a x && t) (le-ltb x b h) ∙ and_false (nat_le a x)

  inside : (x : ℕ) → a ≤ x → x < b → within x ≡ true
  inside x h g = (λ i. le-leb a x h i && lt-ltb x b g i)

  none-of : (xs : List ℕ) → All (λ x. within x ≡ false) xs → filter within xs ≡ []
  none-of [] all = refl
  none-of (x ∷ xs) all =
      (λ i. cond (All-head (λ x. within x ≡ false) x xs all i) (x ∷ filter within xs) (filter within xs))
      ∙ none-of xs (All-tail (λ x. within x ≡ false) x xs all)

  pub none-low : (xs : List ℕ) → All (λ x. x < a) xs → filter within xs ≡ []
  none-low xs all = none-of xs (λ i z below. low _ (all i z below))

  pub none-high : (xs : List ℕ) → All (λ x. b ≤ x) xs → filter within xs ≡ []
  none-high xs all = none-of xs (λ i z below. high _ (all i z below))

  -- what stands before a place below the window is none of it
  pub from-place : (place : ℕ) (xs : List ℕ) → ((k : ℕ) → k < place → k < length xs → slice_index xs k < a) → filter within xs ≡ filter within (drop place xs)
  from-place zero xs h = refl
  from-place (suc place) [] h = refl
  from-place (suc place) (x ∷ xs) h =
      (λ i. cond (low x (h zero (omega arith) (omega arith)) i) (x ∷ filter within xs) (filter within xs))
      ∙ from-place place xs (λ k below here. h (suc k) (omega arith) (omega arith))

-- ---- lists that don't fall, and that don't rise

abbrev pub Rises : List ℕ → Type 0
Rises [] = Unit {0}
Rises (x ∷ xs) = All (λ y. x ≤ y) xs × Rises xs

abbrev pub Falls : List ℕ → Type 0
Falls [] = Unit {0}
Falls (x ∷ xs) = All (λ y. y ≤ x) xs × Falls xs

pub rises-of : (xs : List ℕ) → IsNonDecreasing xs → Rises xs
rises-of [] up = tt
rises-of (x ∷ xs) up =
    (λ i z below. up zero (suc i) z (omega arith) (omega (arith, below)), rises-of xs (IsNonDecreasingBy-drop (λ x. x) 1 (x ∷ xs) up))

falls-push : (xs : List ℕ) (y : ℕ) → Falls xs → All (λ x. y ≤ x) xs → Falls (xs ++ y ∷ [])
falls-push [] y down all = (All-nil (λ x. x ≤ y), tt)
falls-push (x ∷ xs) y down all =
    let here = All-head (λ x. y ≤ x) x xs all in
    (All-append (λ z. z ≤ x) xs (y ∷ []) down.0 (All-cons (λ z. z ≤ x) y [] here (All-nil (λ z. z ≤ x))), falls-push xs y down.1 (All-tail (λ x. y ≤ x) x xs all))

pub reverse-more : {A : Type 0} (x : A) (xs : List A) → reverse (x ∷ xs) ≡ reverse xs ++ x ∷ []
reverse-more x xs = reverse-append (x ∷ []) xs

all-reverse : (P : ℕ → Type 0) (xs : List ℕ) → All P xs → All P (reverse xs)
all-reverse P [] all = All-nil P
all-reverse P (x ∷ xs) all =
    subst (All P) (sym (reverse-more x xs))
    (All-append P (reverse xs) (x ∷ []) (all-reverse P xs (All-tail P x xs all)) (All-cons P x [] (All-head P x xs all) (All-nil P)))

falls-of : (xs : List ℕ) → Rises xs → Falls (reverse xs)
falls-of [] up = tt
falls-of (x ∷ xs) up =
    subst Falls (sym (reverse-more x xs)) (falls-push (reverse xs) x (falls-of xs up.1) (all-reverse (λ y. x ≤ y) xs up.0))

filter-reverse : (p : ℕ → Bool) (xs : List ℕ) → filter p (reverse xs) ≡ reverse (filter p xs)
filter-reverse p [] = refl
filter-reverse p (x ∷ xs) =
    ap (filter p) (reverse-more x xs)
    ∙ filter-append p (reverse xs) (x ∷ [])
    ∙ ap (λ l. l ++ cond (p x) (x ∷ []) []) (filter-reverse p xs)
    ∙ by (p x)
  where
    by : (t : Bool) → reverse (filter p xs) ++ cond t (x ∷ []) [] ≡ reverse (cond t (x ∷ filter p xs) (filter p xs))
    by true = sym (reverse-more x (filter p xs))
    by false = append-nil (reverse (filter p xs))

module _ (a b room : ℕ) (goal : List ℕ) where
  abbrev inside_of : ℕ → Bool
  inside_of x = is_between a b x

  pub record IsUp (out rest : List ℕ) : Type 0 where
    pub short : length out ≤ room
    pub same : take room (out ++ filter inside_of rest) ≡ goal
    pub from : All (λ x. a ≤ x) rest
    pub rises : Rises rest

  pub up-high : (out rest : List ℕ) (x : ℕ) (xs : List ℕ) → rest ≡ x ∷ xs → IsUp out rest → b ≤ x → out ≡ goal
  up-high out rest x xs is up high =
      let rises = subst Rises is up.rises in
      let none : filter inside_of rest ≡ [] = ap (filter inside_of) is ∙ none-high a b (x ∷ xs) (All-cons (λ y. b ≤ y) x xs high (λ i z below. chain high (rises.0 i z below))) in
      sym (take-short room out up.short) ∙ ap (take room) (sym (append-nil out)) ∙ ap (λ l. take room (out ++ l)) (sym none) ∙ up.same
    where
      chain : {x y z : ℕ} → x ≤ y → y ≤ z → x ≤ z
      chain h g = omega arith

  pub up-full : (out rest : List ℕ) → IsUp out rest → room ≤ length out → out ≡ goal
  up-full out rest up full = sym (take-full room out (filter inside_of rest) up.short full) ∙ up.same

  pub up-done : (out rest : List ℕ) → rest ≡ [] → IsUp out rest → out ≡ goal
  up-done out rest is up =
      sym (take-short room out up.short) ∙ ap (take room) (sym (append-nil out)) ∙ ap (λ l. take room (out ++ filter inside_of l)) (sym is) ∙ up.same

  pub up-push : (out rest : List ℕ) (x : ℕ) (xs new : List ℕ) → rest ≡ x ∷ xs → new ≡ out ++ x ∷ [] → IsUp out rest → x < b → length out < room → IsUp new xs
  up-push out rest x xs new is added up low more =
      let from = subst (All (λ y. a ≤ y)) is up.from in
      let here = inside a b x (All-head (λ y. a ≤ y) x xs from) low in
      record {
        short = omega (arith, more, ap length added, length-append out (x ∷ []));
        same =
            ap (λ l. take room (l ++ filter inside_of xs)) added
            ∙ ap (take room) (append_assoc out (x ∷ []) (filter inside_of xs))
            ∙ ap (λ t. take room (out ++ cond t (x ∷ filter inside_of xs) (filter inside_of xs))) (sym here)
            ∙ ap (λ l. take room (out ++ filter inside_of l)) (sym is)
            ∙ up.same;
        from = All-tail (λ y. a ≤ y) x xs from;
        rises = (subst Rises is up.rises).1;
      }

  pub record IsDown (out rest : List ℕ) : Type 0 where
    pub short : length out ≤ room
    pub same : take room (out ++ filter inside_of rest) ≡ goal
    pub under : All (λ x. x < b) rest
    pub falls : Falls rest

  pub down-low : (out rest : List ℕ) (x : ℕ) (xs : List ℕ) → rest ≡ x ∷ xs → IsDown out rest → x < a → out ≡ goal
  down-low out rest x xs is down low =
      let falls = subst Falls is down.falls in
      let none : filter inside_of rest ≡ [] = ap (filter inside_of) is ∙ none-low a b (x ∷ xs) (All-cons (λ y. y < a) x xs low (λ i z below. chain (falls.0 i z below) low)) in
      sym (take-short room out down.short) ∙ ap (take room) (sym (append-nil out)) ∙ ap (λ l. take room (out ++ l)) (sym none) ∙ down.same
    where
      chain : {x y z : ℕ} → x ≤ y → y < z → x < z
      chain h g = omega arith

  pub down-full : (out rest : List ℕ) → IsDown out rest → room ≤ length out → out ≡ goal
  down-full out rest down full = sym (take-full room out (filter inside_of rest) down.short full) ∙ down.same

  pub down-done : (out rest : List ℕ) → rest ≡ [] → IsDown out rest → out ≡ goal
  down-done out rest is down =
      sym (take-short room out down.short) ∙ ap (take room) (sym (append-nil out)) ∙ ap (λ l. take room (out ++ filter inside_of l)) (sym is) ∙ down.same

  pub down-push : (out rest : List ℕ) (x : ℕ) (xs new : List ℕ) → rest ≡ x ∷ xs → new ≡ out ++ x ∷ [] → IsDown out rest → a ≤ x → length out < room → IsDown new xs
  down-push out rest x xs new is added down high more =
      let under = subst (All (λ y. y < b)) is down.under in
      let here = inside a b x high (All-head (λ y. y < b) x xs under) in
      record {
        short = omega (arith, more, ap length added, length-append out (x ∷ []));
        same =
            ap (λ l. take room (l ++ filter inside_of xs)) added
            ∙ ap (take room) (append_assoc out (x ∷ []) (filter inside_of xs))
            ∙ ap (λ t. take room (out ++ cond t (x ∷ filter inside_of xs) (filter inside_of xs))) (sym here)
            ∙ ap (λ l. take room (out ++ filter inside_of l)) (sym is)
            ∙ down.same;
        under = All-tail (λ y. y < b) x xs under;
        falls = (subst Falls is down.falls).1;
      }

-- ---- where the walks begin

pub up-init : (a b room place : ℕ) (out all : List ℕ) → length out ≤ room → IsNonDecreasing all → place < length all → a ≤ slice_index all place
    → ((k : ℕ) → k < place → slice_index all k < a) → IsUp a b room (take room (out ++ filter (is_between a b) all)) out (drop place all)
up-init a b room place out all short rises here from before = record {
  short = short;
  same = ap (λ xs. take room (out ++ xs)) (sym (from-place a b place all (λ k below _. before k below)));
  from = λ i z below.
      let at = get_or-drop place all i z in
      let inside = place-below place i all below in
      let later = rises place (place + i) z (omega arith) inside in
      let same = get_or_default all place z 0 here in
      omega (arith, at, later, same, from);
  rises = rises-of (drop place all) (IsNonDecreasingBy-drop (λ x. x) place all rises);
}
  where
    place-below : (place i : ℕ) (xs : List ℕ) → i < length (drop place xs) → place + i < length xs
    place-below place i xs h = omega (arith, h, length-drop place xs)

pub up-none : (a b room : ℕ) (out all : List ℕ) → length out ≤ room → ((k : ℕ) → k < length all → slice_index all k < a) → out ≡ take room (out ++ filter (is_between a b) all)
up-none a b room out all short below =
    sym (ap (λ l. take room (out ++ l)) (none-low a b all (λ i z h. subst (λ x. x < a) (get_or_default all i 0 z h) (below i h))) ∙ ap (take room) (append-nil out) ∙ take-short room out short)

pub down-init : (a b room end : ℕ) (out all : List ℕ) → length out ≤ room → IsNonDecreasing all → ((k : ℕ) → k < end → k < length all → slice_index all k < b)
    → ((k : ℕ) → end ≤ k → k < length all → b ≤ slice_index all k) → IsDown a b room (take room (out ++ reverse (filter (is_between a b) all))) out (reverse (take end all))
down-init a b room end out all short rises below behind =
    let p = is_between a b in
    let none : filter p (drop end all) ≡ [] = none-high a b (drop end all) (λ i z h. let inside = place-below end i all h in subst (λ x. b ≤ x) (get_or_default all (end + i) 0 z inside ∙ sym (get_or-drop end all i z)) (behind (end + i) (omega arith) inside)) in
    let front : filter p all ≡ filter p (take end all) =
    ap (filter p) (sym (take-append-drop end all)) ∙ filter-append p (take end all) (drop end all) ∙ ap (λ l. filter p (take end all) ++ l) none ∙ append-nil (filter p (take end all)) in
    record {
      short = short;
      same = ap (λ l. take room (out ++ l)) (filter-reverse p (take end all) ∙ ap reverse (sym front));
      under = all-reverse (λ x. x < b) (take end all) (λ i z h. let at = take-below end i all h in subst (λ x. x < b) (get_or_default all i 0 z at.1 ∙ sym (get_or-take end all i z at.0)) (below i at.0 at.1));
      falls = falls-of (take end all) (rises-of (take end all) (IsNonDecreasingBy-take (λ x. x) end all rises));
    }
  where
    place-below : (place i : ℕ) (xs : List ℕ) → i < length (drop place xs) → place + i < length xs
    place-below place i xs h = omega (arith, h, length-drop place xs)

    take-below : (end i : ℕ) (xs : List ℕ) → i < length (take end xs) → (i < end) × (i < length xs)
    take-below end i xs h = (omega (arith, h, length-take end xs), omega (arith, h, length-take end xs))
