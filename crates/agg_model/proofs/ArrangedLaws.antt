-- Laws of the sorted changes: appending, order, permutation, and the look-up.
use Rattle.std.specs.Prelude.{◌≡◌, ◌≢◌, ℕ, ◌≤◌, Bool, true, false, IsTrue, List, [], ◌∷◌, ◌++◌, ◌&&◌, cond, length, nat_lt, All, Option, Some, None, IfSome, refl}
use Rattle.std.proofs.Common.{sym, ◌∙◌, ap, arith, append-nil, get_or, le-ltb}
use Rattle.std.specs.Option.{option_or, option_and_then}
use Rattle.std.specs.List.Sorted.{IsPermutation}
use Rattle.std.proofs.lemmas.List.Elements.{All-cons, All-head, All-tail, All-nil}
use Rattle.std.proofs.lemmas.List.Sorted.{IsPermutation-refl, IsPermutation-cons, IsPermutation-middle, IsPermutation-trans, IsPermutation-sym, IsPermutation-append_left, All-permutation, length_permutation}
use Rattle.agg_model.specs.declared.entity.Entity.{Entity}
use Rattle.agg_model.specs.declared.change.Change.{Change}
use Rattle.agg_model.specs.Place.{Place, place, place_of, is_before, is_of}
use Rattle.agg_model.proofs.PlaceOrder.{is_before-back, is_before-else, is_before-chain, not_before-chain, is_before-place, place_of-is_of, is_before-other}
use Rattle.agg_model.specs.ChangeList.{last_where, last_change, value_at, value_of, is_of_before}
use Rattle.agg_model.specs.Batch.{AscendFrom, HasNoRepeats}
use Rattle.agg_model.specs.Arranged.{put_in, arranged_from, arranged, Ascend, last_before, value_for}

-- ---- appending

pub arranged_from-append : (acc cs ds : List Change) → arranged_from acc (cs ++ ds) ≡ arranged_from (arranged_from acc cs) ds
arranged_from-append acc [] ds = refl
arranged_from-append acc (c ∷ cs) ds = arranged_from-append (put_in c acc) cs ds

pub arranged-append : (cs ds : List Change) → arranged (cs ++ ds) ≡ arranged_from (arranged cs) ds
unfolding arranged
arranged-append cs ds = arranged_from-append [] cs ds

-- ---- permutation

put_in-IsPermutation-by : (c d : Change) (ds : List Change) (t : Bool) → IsPermutation (c ∷ ds) (put_in c ds) → IsPermutation (c ∷ d ∷ ds) (cond t (c ∷ d ∷ ds) (d ∷ put_in c ds))
put_in-IsPermutation-by c d ds true h = IsPermutation-refl (c ∷ d ∷ ds)
put_in-IsPermutation-by c d ds false h =
    IsPermutation-trans (c ∷ d ∷ ds) (d ∷ c ∷ ds) (d ∷ put_in c ds)
    (IsPermutation-sym (d ∷ c ∷ ds) (c ∷ d ∷ ds) (IsPermutation-middle (d ∷ []) c ds))
    (IsPermutation-cons d (c ∷ ds) (put_in c ds) h)

pub put_in-IsPermutation : (c : Change) (ds : List Change) → IsPermutation (c ∷ ds) (put_in c ds)
put_in-IsPermutation c [] = IsPermutation-refl (c ∷ [])
put_in-IsPermutation c (d ∷ ds) =
    put_in-IsPermutation-by c d ds (is_before (place_of c) (place_of d)) (put_in-IsPermutation c ds)

pub arranged_from-IsPermutation : (acc cs : List Change) → IsPermutation (acc ++ cs) (arranged_from acc cs)
arranged_from-IsPermutation acc [] = rw append-nil (IsPermutation-refl acc)
arranged_from-IsPermutation acc (c ∷ cs) =
    IsPermutation-trans (acc ++ c ∷ cs) (put_in c acc ++ cs) (arranged_from (put_in c acc) cs)
    (IsPermutation-trans (acc ++ c ∷ cs) ((c ∷ acc) ++ cs) (put_in c acc ++ cs)
    (IsPermutation-middle acc c cs)
    (IsPermutation-append_left cs (c ∷ acc) (put_in c acc) (put_in-IsPermutation c acc)))
    (arranged_from-IsPermutation (put_in c acc) cs)

pub arranged-IsPermutation : (cs : List Change) → IsPermutation cs (arranged cs)
unfolding arranged
arranged-IsPermutation cs = arranged_from-IsPermutation [] cs

pub arranged-length : (cs : List Change) → length (arranged cs) ≡ length cs
arranged-length cs = length_permutation cs (arranged cs) (arranged-IsPermutation cs)

-- ---- order

-- no change is before an earlier one
abbrev pub IsInOrder : List Change → Type 0
IsInOrder [] = Unit {0}
IsInOrder (c ∷ cs) = All (λ d. is_before (place_of d) (place_of c) ≡ false) cs × IsInOrder cs

put_in-IsInOrder-by : (c d : Change) (ds : List Change) (t : Bool) → is_before (place_of c) (place_of d) ≡ t → IsInOrder (d ∷ ds) → IsInOrder (put_in c ds) → IsInOrder (cond t (c ∷ d ∷ ds) (d ∷ put_in c ds))
put_in-IsInOrder-by c d ds true e h g =
    let behind_d : is_before (place_of d) (place_of c) ≡ false = is_before-back _ _ e in (
      All-cons (λ x. is_before (place_of x) (place_of c) ≡ false) d ds behind_d
          (λ k z below. not_before-chain _ _ _ behind_d (h.0 k z below)),
      h,
    )
put_in-IsInOrder-by c d ds false e h g =
    let P = λ (x : Change). is_before (place_of x) (place_of d) ≡ false in
    (All-permutation P (c ∷ ds) (put_in c ds) (put_in-IsPermutation c ds) (All-cons P c ds e h.0), g)

pub put_in-IsInOrder : (c : Change) (ds : List Change) → IsInOrder ds → IsInOrder (put_in c ds)
put_in-IsInOrder c [] h = (All-nil (λ (d : Change). is_before (place_of d) (place_of c) ≡ false), tt)
put_in-IsInOrder c (d ∷ ds) h =
    put_in-IsInOrder-by c d ds (is_before (place_of c) (place_of d)) refl h (put_in-IsInOrder c ds h.1)

pub arranged_from-IsInOrder : (acc cs : List Change) → IsInOrder acc → IsInOrder (arranged_from acc cs)
arranged_from-IsInOrder acc [] h = h
arranged_from-IsInOrder acc (c ∷ cs) h = arranged_from-IsInOrder (put_in c acc) cs (put_in-IsInOrder c acc h)

pub arranged-IsInOrder : (cs : List Change) → IsInOrder (arranged cs)
unfolding arranged
arranged-IsInOrder cs = arranged_from-IsInOrder [] cs tt

-- none of the changes has the place of c
abbrev pub IsNew : Change → List Change → Type 0
IsNew c ds = All (λ d. place_of d ≢ place_of c) ds

put_in-Ascend-by : (c d : Change) (ds : List Change) (t : Bool) → is_before (place_of c) (place_of d) ≡ t → Ascend (d ∷ ds) → IsNew c (d ∷ ds) → Ascend (put_in c ds) → Ascend (cond t (c ∷ d ∷ ds) (d ∷ put_in c ds))
put_in-Ascend-by c d ds true e h new g = (
  All-cons (λ x. IsTrue (is_before (place_of c) (place_of x))) d ds e
      (λ k z below. is_before-chain _ _ _ e (h.0 k z below)),
  h,
)
put_in-Ascend-by c d ds false e h new g =
    let P = λ (x : Change). IsTrue (is_before (place_of d) (place_of x)) in
    let behind : is_before (place_of d) (place_of c) ≡ true =
    is_before-else (place_of c) (place_of d) e (λ same. All-head (λ x. place_of x ≢ place_of c) d ds new (sym same)) in
    (All-permutation P (c ∷ ds) (put_in c ds) (put_in-IsPermutation c ds) (All-cons P c ds behind h.0), g)

pub put_in-Ascend : (c : Change) (ds : List Change) → Ascend ds → IsNew c ds → Ascend (put_in c ds)
put_in-Ascend c [] h new = (All-nil (λ (d : Change). IsTrue (is_before (place_of c) (place_of d))), tt)
put_in-Ascend c (d ∷ ds) h new =
    put_in-Ascend-by c d ds (is_before (place_of c) (place_of d)) refl h new
    (put_in-Ascend c ds h.1 (All-tail (λ x. place_of x ≢ place_of c) d ds new))

pub arranged_from-Ascend : (acc cs : List Change) → Ascend acc → HasNoRepeats cs → All (λ c. IsNew c acc) cs → Ascend (arranged_from acc cs)
arranged_from-Ascend acc [] h none new = h
arranged_from-Ascend acc (c ∷ cs) h none new =
    let here : IsNew c acc = All-head (λ x. IsNew x acc) c cs new in
    let rest : All (λ x. IsNew x acc) cs = All-tail (λ x. IsNew x acc) c cs new in
    arranged_from-Ascend (put_in c acc) cs (put_in-Ascend c acc h here) none.1
    (λ k z below.
    let P = λ (x : Change). place_of x ≢ place_of (get_or cs k z) in
    All-permutation P (c ∷ acc) (put_in c acc) (put_in-IsPermutation c acc)
    (All-cons P c acc (λ same. none.0 k z below (sym same)) (rest k z below)))

-- where no two changes have one place, each is before all later ones
pub arranged-Ascend : (cs : List Change) → HasNoRepeats cs → Ascend (arranged cs)
unfolding arranged
arranged-Ascend cs none = arranged_from-Ascend [] cs tt none (λ k z below. All-nil (λ (d : Change). place_of d ≢ place_of (get_or cs k z)))

-- ---- the look-up

pub option_or-none : (o : Option Change) → option_or o None ≡ o
option_or-none None = refl
option_or-none (Some c) = refl

pub option_or-assoc : (x y z : Option Change) → option_or (option_or x y) z ≡ option_or x (option_or y z)
option_or-assoc None y z = refl
option_or-assoc (Some c) y z = refl

pub last_where-append : (p : Change → Bool) (cs ds : List Change) → last_where p (cs ++ ds) ≡ option_or (last_where p ds) (last_where p cs)
last_where-append p [] ds = sym (option_or-none (last_where p ds))
last_where-append p (c ∷ cs) ds =
    ap (λ o. option_or o (cond (p c) (Some c) None)) (last_where-append p cs ds)
    ∙ option_or-assoc (last_where p ds) (last_where p cs) (cond (p c) (Some c) None)

last_where-All-by : (P : Change → Type 0) (c : Change) (o : Option Change) (t : Bool) → IfSome o P → P c → IfSome (option_or o (cond t (Some c) None)) P
last_where-All-by P c None true rest here = here
last_where-All-by P c None false rest here = tt
last_where-All-by P c (Some d) t rest here = rest

-- what all changes have, the last one has
pub last_where-All : (p : Change → Bool) (P : Change → Type 0) (cs : List Change) → All P cs → IfSome (last_where p cs) P
last_where-All p P [] all = tt
last_where-All p P (c ∷ cs) all =
    last_where-All-by P c (last_where p cs) (p c) (last_where-All p P cs (All-tail P c cs all)) (All-head P c cs all)

last_where-passes-by : (p : Change → Bool) (c : Change) (o : Option Change) (t : Bool) → p c ≡ t → IfSome o (λ d. p d ≡ true) → IfSome (option_or o (cond t (Some c) None)) (λ d. p d ≡ true)
last_where-passes-by p c None true e rest = e
last_where-passes-by p c None false e rest = tt
last_where-passes-by p c (Some d) t e rest = rest

pub last_where-passes : (p : Change → Bool) (cs : List Change) → IfSome (last_where p cs) (λ c. p c ≡ true)
last_where-passes p [] = tt
last_where-passes p (c ∷ cs) = last_where-passes-by p c (last_where p cs) (p c) refl (last_where-passes p cs)

-- of c and a change, the one that stands later in the order; c where both stand alike
abbrev pub later : Change → Option Change → Option Change
later c None = Some c
later c (Some d) = cond (is_before (place_of c) (place_of d)) (Some d) (Some c)

-- a change that doesn't pass is no matter
last_where-put_in-other-by : (p : Change → Bool) (c d : Change) (ds : List Change) (t : Bool) → p c ≡ false → last_where p (put_in c ds) ≡ last_where p ds → last_where p (cond t (c ∷ d ∷ ds) (d ∷ put_in c ds)) ≡ last_where p (d ∷ ds)
last_where-put_in-other-by p c d ds true e h =
    ap (λ t. option_or (last_where p (d ∷ ds)) (cond t (Some c) None)) e ∙ option_or-none (last_where p (d ∷ ds))
last_where-put_in-other-by p c d ds false e h = ap (λ o. option_or o (cond (p d) (Some d) None)) h

pub last_where-put_in-other : (p : Change → Bool) (c : Change) (ds : List Change) → p c ≡ false → last_where p (put_in c ds) ≡ last_where p ds
last_where-put_in-other p c [] e = ap (λ t. option_or None (cond t (Some c) None)) e
last_where-put_in-other p c (d ∷ ds) e =
    last_where-put_in-other-by p c d ds (is_before (place_of c) (place_of d)) e (last_where-put_in-other p c ds e)

before-behind-by : (p q r : Place) (t : Bool) → is_before p r ≡ t → is_before p q ≡ true → is_before r q ≡ false → t ≡ true
before-behind-by p q r true e h g = refl
before-behind-by p q r false e h g =
    let back : is_before p q ≡ false = not_before-chain q r p g e in
    cc

-- p is before what is not before q, if it is before q
pub before-behind : (p q r : Place) → is_before p q ≡ true → is_before r q ≡ false → is_before p r ≡ true
before-behind p q r h g = before-behind-by p q r (is_before p r) refl h g

later-before : (c : Change) (o : Option Change) → IfSome o (λ d. is_before (place_of c) (place_of d) ≡ true) → option_or o (Some c) ≡ later c o
later-before c None h = refl
later-before c (Some d) h = ap (λ t. cond t (Some d) (Some c)) (sym h)

later-behind : (c d : Change) (o : Option Change) (t : Bool) → is_before (place_of c) (place_of d) ≡ false → option_or (later c o) (cond t (Some d) None) ≡ later c (option_or o (cond t (Some d) None))
later-behind c d None true e = ap (λ t. cond t (Some d) (Some c)) (sym e)
later-behind c d None false e = refl
later-behind c d (Some x) t e =
    elim (is_before (place_of c) (place_of x)) as (λ u. option_or (cond u (Some x) (Some c)) (cond t (Some d) None) ≡ cond u (Some x) (Some c)) [ true ↦ refl | false ↦ refl ]

last_where-put_in-by : (p : Change → Bool) (c d : Change) (ds : List Change) (t : Bool) → is_before (place_of c) (place_of d) ≡ t → p c ≡ true → IsInOrder (d ∷ ds) → last_where p (put_in c ds) ≡ later c (last_where p ds) → last_where p (cond t (c ∷ d ∷ ds) (d ∷ put_in c ds)) ≡ later c (last_where p (d ∷ ds))
last_where-put_in-by p c d ds true before e order h =
    let P = λ (x : Change). is_before (place_of c) (place_of x) ≡ true in
    ap (λ t. option_or (last_where p (d ∷ ds)) (cond t (Some c) None)) e
    ∙ later-before c (last_where p (d ∷ ds))
    (last_where-All p P (d ∷ ds) (All-cons P d ds before (λ k z below. before-behind _ _ _ before (order.0 k z below))))
last_where-put_in-by p c d ds false before e order h =
    ap (λ o. option_or o (cond (p d) (Some d) None)) h ∙ later-behind c d (last_where p ds) (p d) before

-- the last change that passes, after one that passes is put in at its place
pub last_where-put_in : (p : Change → Bool) (c : Change) (ds : List Change) → p c ≡ true → IsInOrder ds → last_where p (put_in c ds) ≡ later c (last_where p ds)
last_where-put_in p c [] e order = ap (λ t. option_or None (cond t (Some c) None)) e
last_where-put_in p c (d ∷ ds) e order =
    last_where-put_in-by p c d ds (is_before (place_of c) (place_of d)) refl e order (last_where-put_in p c ds e order.1)

le_chain : {a b c : ℕ} → a ≤ b → b ≤ c → a ≤ c
le_chain h g = omega arith

le_itself : (a : ℕ) → a ≤ a
le_itself a = omega arith

-- the change, if it is one of this entity and key
abbrev pub only_of : Entity → List ℕ → Option Change → Option Change
only_of e k None = None
only_of e k (Some c) = cond (is_of e k c) (Some c) None

module _ (e : Entity) (k : List ℕ) (n : ℕ) where
  abbrev before_here : Change → Bool
  before_here c = is_before (place_of c) (place e k n)

  -- of this entity and key, the number alone decides
  before_here-is_of : (c : Change) → is_of e k c ≡ true → before_here c ≡ nat_lt c.tx n
  before_here-is_of c is = ap (λ p. is_before p (place e k n)) (place_of-is_of e k c is) ∙ is_before-place e k c.tx n

  -- another change that is before this number is before each number of this entity and key
  before-each : (c d : Change) → is_of e k c ≡ true → is_of e k d ≡ false → before_here d ≡ true → is_before (place_of d) (place_of c) ≡ true
  before-each c d is other before =
      ap (is_before (place_of d)) (place_of-is_of e k c is) ∙ is_before-other e k d c.tx n other ∙ before

  not_before-lower : (c d : Change) → is_of e k c ≡ true → is_of e k d ≡ true → d.tx ≤ c.tx → is_before (place_of c) (place_of d) ≡ false
  not_before-lower c d is is_d low =
      (λ i. is_before (place_of-is_of e k c is i) (place_of-is_of e k d is_d i)) ∙ is_before-place e k c.tx d.tx ∙ le-ltb c.tx d.tx low

  -- what was the last, before c came
  record IsOlder (c d : Change) : Type 0 where
    low : d.tx ≤ c.tx
    before : before_here d ≡ true

  not_before-older : (c d : Change) (t : Bool) → is_of e k d ≡ t → is_of e k c ≡ true → IsOlder c d → is_before (place_of c) (place_of d) ≡ false
  not_before-older c d true is_d is h = not_before-lower c d is is_d h.low
  not_before-older c d false is_d is h = is_before-back _ _ (before-each c d is is_d h.before)

  only_of-later-is_of : (c : Change) (o : Option Change) → is_of e k c ≡ true → IfSome o (IsOlder c) → only_of e k (later c o) ≡ Some c
  only_of-later-is_of c None is h = ap (λ t. cond t (Some c) None) is
  only_of-later-is_of c (Some d) is h =
      ap (λ t. only_of e k (cond t (Some d) (Some c))) (not_before-older c d (is_of e k d) refl is h) ∙ ap (λ t. cond t (Some c) None) is

  only_of-later-other-by : (c d : Change) (t : Bool) → is_of e k d ≡ t → is_of e k c ≡ false → before_here c ≡ true → only_of e k (cond (is_before (place_of c) (place_of d)) (Some d) (Some c)) ≡ cond t (Some d) None
  only_of-later-other-by c d true is_d other before =
      ap (λ t. only_of e k (cond t (Some d) (Some c))) (before-each d c is_d other before) ∙ ap (λ t. cond t (Some d) None) is_d
  only_of-later-other-by c d false is_d other before =
      elim (is_before (place_of c) (place_of d)) as (λ u. only_of e k (cond u (Some d) (Some c)) ≡ None) [
        | true ↦ ap (λ t. cond t (Some d) None) is_d
        | false ↦ ap (λ t. cond t (Some c) None) other
      ]

  only_of-later-other : (c : Change) (o : Option Change) → is_of e k c ≡ false → before_here c ≡ true → only_of e k (later c o) ≡ only_of e k o
  only_of-later-other c None other before = ap (λ t. cond t (Some c) None) other
  only_of-later-other c (Some d) other before = only_of-later-other-by c d (is_of e k d) refl other before

  IsOlder-both : (c : Change) (o : Option Change) → IfSome o (λ d. d.tx ≤ c.tx) → IfSome o (λ d. before_here d ≡ true) → IfSome o (IsOlder c)
  IsOlder-both c None low before = tt
  IsOlder-both c (Some d) low before = record { low = low; before = before }

  put_in-step-by : (c : Change) (ds : List Change) (t u : Bool) → is_of e k c ≡ t → before_here c ≡ u → IsInOrder ds → All (λ d. d.tx ≤ c.tx) ds
      → only_of e k (last_where before_here (put_in c ds)) ≡ option_or (cond (t && u) (Some c) None) (only_of e k (last_where before_here ds))
  put_in-step-by c ds true true is before order low =
      ap (only_of e k) (last_where-put_in before_here c ds before order)
      ∙ only_of-later-is_of c (last_where before_here ds) is
      (IsOlder-both c (last_where before_here ds) (last_where-All before_here (λ d. d.tx ≤ c.tx) ds low) (last_where-passes before_here ds))
  put_in-step-by c ds false true is before order low =
      ap (only_of e k) (last_where-put_in before_here c ds before order)
      ∙ only_of-later-other c (last_where before_here ds) is before
  put_in-step-by c ds true false is before order low = ap (only_of e k) (last_where-put_in-other before_here c ds before)
  put_in-step-by c ds false false is before order low = ap (only_of e k) (last_where-put_in-other before_here c ds before)

  both-tests : (c : Change) (t : Bool) → is_of e k c ≡ t → (t && before_here c) ≡ (t && nat_lt c.tx n)
  both-tests c true is = before_here-is_of c is
  both-tests c false is = refl

  is_of_before-tests : (c : Change) → (is_of e k c && before_here c) ≡ is_of_before e k n c
  unfolding is_of_before
  is_of_before-tests c = both-tests c (is_of e k c) refl

  -- the last change before a place, after a change with no lower number is put in at its place
  pub put_in-step : (c : Change) (ds : List Change) → IsInOrder ds → All (λ d. d.tx ≤ c.tx) ds
      → only_of e k (last_where before_here (put_in c ds)) ≡ option_or (cond (is_of_before e k n c) (Some c) None) (only_of e k (last_where before_here ds))
  put_in-step c ds order low =
      put_in-step-by c ds (is_of e k c) (before_here c) refl refl order low
      ∙ ap (λ t. option_or (cond t (Some c) None) (only_of e k (last_where before_here ds))) (is_of_before-tests c)

  pub look_up-from : (acc cs : List Change) (least : ℕ) → IsInOrder acc → All (λ d. d.tx ≤ least) acc → AscendFrom least cs
      → only_of e k (last_where before_here (arranged_from acc cs)) ≡ option_or (last_where (is_of_before e k n) cs) (only_of e k (last_where before_here acc))
  look_up-from acc [] least order low up = refl
  look_up-from acc (c ∷ cs) least order low up =
      let lower : All (λ d. d.tx ≤ c.tx) acc = λ i z below. le_chain (low i z below) up.0 in
      let P = λ (d : Change). d.tx ≤ c.tx in
      look_up-from (put_in c acc) cs c.tx (put_in-IsInOrder c acc order)
      (All-permutation P (c ∷ acc) (put_in c acc) (put_in-IsPermutation c acc) (All-cons P c acc (le_itself c.tx) lower)) up.1
      ∙ ap (option_or (last_where (is_of_before e k n) cs)) (put_in-step c acc order lower)
      ∙ sym (option_or-assoc (last_where (is_of_before e k n) cs) (cond (is_of_before e k n c) (Some c) None) (only_of e k (last_where before_here acc)))

  -- the last change of an entity and key below a number, by a look at the sorted changes
  pub last_change-arranged : (cs : List Change) → AscendFrom 0 cs → last_change cs e k n ≡ only_of e k (last_before (place e k n) (arranged cs))
  unfolding last_change last_before arranged
  last_change-arranged cs up =
      sym (look_up-from [] cs 0 tt (All-nil (λ (d : Change). d.tx ≤ 0)) up ∙ option_or-none (last_where (is_of_before e k n) cs))

  value_for-only_of : (o : Option Change) → option_and_then value_of (only_of e k o) ≡ value_for e k o
  value_for-only_of None = refl
  value_for-only_of (Some c) =
      elim (is_of e k c) as (λ t. option_and_then value_of (cond t (Some c) None) ≡ cond t (value_of c) None) [ true ↦ refl | false ↦ refl ]

  -- the value of a key just before a number, by a look at the sorted changes
  pub value_at-arranged : (cs : List Change) → AscendFrom 0 cs → value_at cs e k n ≡ value_for e k (last_before (place e k n) (arranged cs))
  unfolding value_at
  value_at-arranged cs up =
      ap (option_and_then value_of) (last_change-arranged cs up) ∙ value_for-only_of (last_before (place e k n) (arranged cs))
