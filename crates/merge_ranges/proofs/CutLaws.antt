-- Laws of cuts: the canonical cut is one, and its ranges are unions of the ranges of each cut with its end.
use Rattle.std.specs.Prelude.{◌≡◌, ℕ, zero, suc, ◌+◌, ◌-◌, ◌%◌, ◌≤◌, ◌<◌, Bool, true, false, cond, not, ◌==◌, ◌&&◌, ◌||◌, nat_lt, nat_le, List, [], ◌∷◌, ◌++◌, length, find, Option, Some, None, IfSome, ◌↔◌, refl}
use Rattle.std.proofs.Common.{sym, ◌∙◌, ap, subst, arith, eqb-true, eq-eqb, ltb-true, ltb-false, append_assoc}
use Rattle.std.proofs.lemmas.Bool.{false≢true, leb-true, le-leb}
use Rattle.std.specs.Cmp.{first_so, second_so}
use Rattle.std.specs.List.{list_any}
use Rattle.agg_model.specs.declared.entity.Range.{Range}
use Rattle.merge_ranges.specs.Cut.{IsUnionIn, HasAll, is_size, is_aligned, IsCutFrom, IsCut, end_from, end_of, size_at, largest_at, canon_from, canon, same_range, contains_range, meets_any, is_to_merge, next_merge_of}
use Rattle.merge_ranges.proofs.Sizes.{size_at-fits, size_above_zero, stays_within}

-- ---- aligned ranges

pub record Aligned (r : Range) : Type 0 where
  pub is : is_size (r.to - r.from) ≡ true
  pub rem : r.from % (r.to - r.from) ≡ 0
  pub within : r.to ≤ 4096
  pub some : r.from < r.to
  pub long : r.from + (r.to - r.from) ≡ r.to

pub aligned_from : (r : Range) → is_aligned r ≡ true → Aligned r
unfolding is_aligned
aligned_from r h =
    let two = (is_size (r.to - r.from) && (r.from % (r.to - r.from) == 0)) in
    let first = first_so two (nat_le r.to 4096) h in
    let is = first_so (is_size (r.to - r.from)) (r.from % (r.to - r.from) == 0) first in
    let positive : 0 < r.to - r.from = size_above_zero (r.to - r.from) is in
    record {
      is = is;
      rem = eqb-true (r.from % (r.to - r.from)) 0 (second_so (is_size (r.to - r.from)) (r.from % (r.to - r.from) == 0) first);
      within = leb-true r.to 4096 (second_so two (nat_le r.to 4096) h);
      some = (omega arith);
      long = (omega arith);
    }

sub_back : (a s : ℕ) → (a + s) - a ≡ s
sub_back a s = omega arith

aligned-largest_at-by : (a s : ℕ) → is_size s ≡ true → a % s ≡ 0 → a + s ≤ 4096 → (is_size s && (a % s == 0) && nat_le (a + s) 4096) ≡ true
aligned-largest_at-by a s is rem within =
    λ i. is' i && (eq-eqb (a % s) 0 rem i) && (le-leb (a + s) 4096 within i)
  where
    is' : is_size s ≡ true
    is' = is

le_itself : (n : ℕ) → n ≤ n
le_itself n = omega arith

le_more : (n k : ℕ) → n ≤ n + k
le_more n k = omega arith

le_both : {a b : ℕ} → a ≤ b → b ≤ a → a ≡ b
le_both h g = omega arith

le_chain : {a b c : ℕ} → a ≤ b → b ≤ c → a ≤ c
le_chain h g = omega arith

pub is_aligned-largest_at : (a m : ℕ) → a < m → m ≤ 4096 → is_aligned (largest_at a m) ≡ true
unfolding is_aligned largest_at
is_aligned-largest_at a m h most =
    let at = size_at-fits a m h in
    let P = λ (s : ℕ). (is_size s && (a % s == 0) && nat_le (a + size_at a m) 4096) ≡ true in
    subst P (sym (sub_back a (size_at a m))) (aligned-largest_at-by a (size_at a m) at.is at.rem (le_chain at.within most))

-- ---- the canonical cut

-- a range takes at least one step
next_most : (a m most s : ℕ) → 0 < s → m ≤ a + suc most → m ≤ (a + s) + most
next_most a m most s positive h = omega arith

positive_at : (a m : ℕ) → a < m → 0 < size_at a m
positive_at a m h = let at = size_at-fits a m h in size_above_zero (size_at a m) at.is

canon_from-IsCutFrom-by : (most a m : ℕ) (t : Bool) → nat_lt a m ≡ t → m ≤ 4096 → ((a < m) → IsCutFrom (a + size_at a m) (canon_from most (a + size_at a m) m)) → IsCutFrom a (cond t (largest_at a m ∷ canon_from most (a + size_at a m) m) [])
unfolding largest_at
canon_from-IsCutFrom-by most a m true e h rest = (refl, is_aligned-largest_at a m (ltb-true a m e) h, rest (ltb-true a m e))
canon_from-IsCutFrom-by most a m false e h rest = tt

pub canon_from-IsCutFrom : (most a m : ℕ) → m ≤ 4096 → IsCutFrom a (canon_from most a m)
canon_from-IsCutFrom zero a m h = tt
canon_from-IsCutFrom (suc most) a m h =
    canon_from-IsCutFrom-by most a m (nat_lt a m) refl h (λ below. canon_from-IsCutFrom most (a + size_at a m) m h)

end_from-canon_from-by : (most a m : ℕ) (t : Bool) → nat_lt a m ≡ t → a ≤ m → ((a < m) → end_from (a + size_at a m) (canon_from most (a + size_at a m) m) ≡ m) → end_from a (cond t (largest_at a m ∷ canon_from most (a + size_at a m) m) []) ≡ m
unfolding largest_at
end_from-canon_from-by most a m true e h rest = rest (ltb-true a m e)
end_from-canon_from-by most a m false e h rest = let over : m ≤ a = ltb-false a m e in omega arith

pub end_from-canon_from : (most a m : ℕ) → a ≤ m → m ≤ a + most → end_from a (canon_from most a m) ≡ m
end_from-canon_from zero a m h over = omega arith
end_from-canon_from (suc most) a m h over =
    end_from-canon_from-by most a m (nat_lt a m) refl h (λ below.
    let at = size_at-fits a m below in
    end_from-canon_from most (a + size_at a m) m at.within (next_most a m most (size_at a m) (positive_at a m below) over))

none_left : (t : Bool) (m a : ℕ) (rest : List Range) → nat_lt a m ≡ t → m ≤ a → [] ≡ cond t (largest_at a m ∷ rest) []
none_left true m a rest e over = absurd (let below : a < m = ltb-true a m e in omega arith)
none_left false m a rest e over = refl

canon_from-most-by : (n k a m : ℕ) (t : Bool) → nat_lt a m ≡ t → ((a < m) → canon_from n (a + size_at a m) m ≡ canon_from k (a + size_at a m) m) → cond t (largest_at a m ∷ canon_from n (a + size_at a m) m) [] ≡ cond t (largest_at a m ∷ canon_from k (a + size_at a m) m) []
canon_from-most-by n k a m true e rest = ap (λ rs. largest_at a m ∷ rs) (rest (ltb-true a m e))
canon_from-most-by n k a m false e rest = refl

-- as long as there may be enough ranges, their number makes no difference
pub canon_from-most : (n k a m : ℕ) → m ≤ a + n → m ≤ a + k → canon_from n a m ≡ canon_from k a m
canon_from-most zero zero a m hn hk = refl
canon_from-most zero (suc k) a m hn hk = none_left (nat_lt a m) m a (canon_from k (a + size_at a m) m) refl (omega arith)
canon_from-most (suc n) zero a m hn hk = sym (none_left (nat_lt a m) m a (canon_from n (a + size_at a m) m) refl (omega arith))
canon_from-most (suc n) (suc k) a m hn hk =
    canon_from-most-by n k a m (nat_lt a m) refl (λ below.
    canon_from-most n k (a + size_at a m) m
    (next_most a m n (size_at a m) (positive_at a m below) hn)
    (next_most a m k (size_at a m) (positive_at a m below) hk))

-- the canonical cut is a cut of the steps below m
pub canon-IsCut : (m : ℕ) → m ≤ 4096 → IsCut (canon m)
unfolding canon
canon-IsCut m h = canon_from-IsCutFrom m 0 m h

pub end_of-canon : (m : ℕ) → end_of (canon m) ≡ m
unfolding canon
end_of-canon m = end_from-canon_from m 0 m (omega arith) (omega arith)

-- ---- ranges of a cut

pub end_from-above : (a : ℕ) (cut : List Range) → IsCutFrom a cut → a ≤ end_from a cut
end_from-above a [] h = le_itself a
end_from-above a (r ∷ rs) h =
    let some = (aligned_from r h.1).some in
    let rest = end_from-above r.to rs h.2 in
    let starts : r.from ≡ a = h.0 in
    omega arith

same_range-true : (r q : Range) → same_range r q ≡ true → r ≡ q
same_range-true r q e =
    let from : r.from ≡ q.from = eqb-true r.from q.from (first_so (r.from == q.from) (r.to == q.to) e) in
    let to : r.to ≡ q.to = eqb-true r.to q.to (second_so (r.from == q.from) (r.to == q.to) e) in
    λ i. record { from = from i; to = to i }

same_range-itself : (r : Range) → same_range r r ≡ true
same_range-itself r = λ i. eq-eqb r.from r.from refl i && eq-eqb r.to r.to refl i

contained_from-by : (a : ℕ) (r g : Range) (rs : List Range) (t : Bool) → same_range r g ≡ t → r.from ≡ a → a ≤ r.to → (list_any (λ q. same_range q g) rs ≡ true → r.to ≤ g.from) → (t || list_any (λ q. same_range q g) rs) ≡ true → a ≤ g.from
contained_from-by a r g rs true e starts up rest any =
    let from : r.from ≡ g.from = ap (λ (q : Range). q.from) (same_range-true r g e) in
    omega arith
contained_from-by a r g rs false e starts up rest any = le_chain up (rest any)

-- what a cut contains begins where the cut begins, or later
contained_from : (a : ℕ) (cut : List Range) (g : Range) → IsCutFrom a cut → contains_range cut g ≡ true → a ≤ g.from
contained_from a [] g h any = absurd (false≢true any)
contained_from a (r ∷ rs) g h any =
    let some = (aligned_from r h.1).some in
    let starts : r.from ≡ a = h.0 in
    contained_from-by a r g rs (same_range r g) refl h.0 (let up : a ≤ r.to = omega arith in up) (contained_from r.to rs g h.2) any

-- ---- unions

-- a cut from b on to m, taken apart at e
record IsPart (b e m : ℕ) (cut : List Range) : Type 0 where
  mid : List Range
  rest : List Range
  parts : cut ≡ mid ++ rest
  chain : IsCutFrom b mid
  ends : end_from b mid ≡ e
  next : IsCutFrom e rest
  last : end_from e rest ≡ m

module _ (a m : ℕ) (below : a < m) where
  part-by : (b : ℕ) (cut : List Range) (t : Bool) → nat_lt b (a + size_at a m) ≡ t → a ≤ b → b ≤ a + size_at a m → IsCutFrom b cut → end_from b cut ≡ m
      → ((b < a + size_at a m) → IsPart b (a + size_at a m) m cut) → IsPart b (a + size_at a m) m cut
  part-by b cut true e low high chain last more = more (ltb-true b (a + size_at a m) e)
  part-by b cut false e low high chain last more =
      let same : b ≡ a + size_at a m = le_both high (ltb-false b (a + size_at a m) e) in
      record {
        mid = [];
        rest = cut;
        parts = refl;
        chain = tt;
        ends = same;
        next = subst (λ z. IsCutFrom z cut) same chain;
        last = subst (λ z. end_from z cut ≡ m) same last;
      }

  longer : (b : ℕ) (r : Range) (rs : List Range) → r.from ≡ b → is_aligned r ≡ true → IsPart r.to (a + size_at a m) m rs → IsPart b (a + size_at a m) m (r ∷ rs)
  longer b r rs starts aligned p = record {
    mid = r ∷ p.mid;
    rest = p.rest;
    parts = ap (λ l. r ∷ l) p.parts;
    chain = (starts, aligned, p.chain);
    ends = p.ends;
    next = p.next;
    last = p.last;
  }

  -- the ranges of a cut that begin in the largest range at a fill it
  part : (b : ℕ) (cut : List Range) → a ≤ b → b ≤ a + size_at a m → IsCutFrom b cut → end_from b cut ≡ m → IsPart b (a + size_at a m) m cut
  part b [] low high chain last =
      part-by b [] (nat_lt b (a + size_at a m)) refl low high chain last (λ inside.
      let at = size_at-fits a m below in
      let within : a + size_at a m ≤ m = at.within in
      absurd (omega arith))
  part b (r ∷ rs) low high chain last =
      part-by b (r ∷ rs) (nat_lt b (a + size_at a m)) refl low high chain last (λ inside.
      let al = aligned_from r chain.1 in
      let starts : r.from ≡ b = chain.0 in
      let some : r.from < r.to = al.some in
      let long : r.from + (r.to - r.from) ≡ r.to = al.long in
      let up : r.to ≤ m = subst (λ z. r.to ≤ z) last (end_from-above r.to rs chain.2) in
      let stays = stays_within a m r.from (r.to - r.from) below al.is al.rem (omega arith) (omega arith) (omega arith) in
      longer b r rs starts chain.1 (part r.to rs (omega arith) (omega arith) chain.2 last))

-- of the ranges that fill one that isn't among them, there are at least two
several-by : (g : Range) (mid rest : List Range) → g.from < g.to → IsCutFrom g.from mid → end_from g.from mid ≡ g.to → contains_range (mid ++ rest) g ≡ false → 2 ≤ length mid
several-by g [] rest some chain ends none = let same : g.from ≡ g.to = ends in absurd (omega arith)
several-by g (r ∷ []) rest some chain ends none =
    let same : r ≡ g = λ i. record { from = chain.0 i; to = ends i } in
    let found : (same_range r g || contains_range rest g) ≡ true =
    ap (λ t. t || contains_range rest g) (ap (λ q. same_range q g) same ∙ same_range-itself g) in
    absurd (false≢true (sym none ∙ found))
several-by g (r ∷ q ∷ qs) rest some chain ends none = omega arith

list_any-append : (p : Range → Bool) (xs ys : List Range) → list_any p (xs ++ ys) ≡ false → list_any p ys ≡ false
list_any-append p [] ys none = none
list_any-append p (x ∷ xs) ys none = list_any-append p xs ys (or_second (p x) (list_any p (xs ++ ys)) none)
  where
    or_second : (s t : Bool) → (s || t) ≡ false → t ≡ false
    or_second true t e = absurd (false≢true (sym e))
    or_second false t e = e

further : (cut mid rest : List Range) (g : Range) → cut ≡ mid ++ rest → IsUnionIn rest g → IsUnionIn cut g
further cut mid rest g parts u = record {
  front = mid ++ u.front;
  mid = u.mid;
  back = u.back;
  parts = parts ∙ ap (λ l. mid ++ l) u.parts ∙ sym (append_assoc mid u.front (u.mid ++ u.back));
  chain = u.chain;
  ends = u.ends;
  several = u.several;
}

module _ (a m : ℕ) (below : a < m) (cut : List Range) (g : Range) (p : IsPart a (a + size_at a m) m cut) (none : contains_range cut g ≡ false) where
  union-here : largest_at a m ≡ g → IsUnionIn cut g
  unfolding largest_at
  union-here same =
      let from : a ≡ g.from = ap (λ (q : Range). q.from) same in
      let to : a + size_at a m ≡ g.to = ap (λ (q : Range). q.to) same in
      let chain = subst (λ z. IsCutFrom z p.mid) from p.chain in
      let ends : end_from g.from p.mid ≡ g.to = subst (λ z. end_from z p.mid ≡ a + size_at a m) from p.ends ∙ to in
      let some : g.from < g.to = let positive = positive_at a m below in omega arith in
      record {
        front = [];
        mid = p.mid;
        back = p.rest;
        parts = p.parts;
        chain = chain;
        ends = ends;
        several = several-by g p.mid p.rest some chain ends (sym (ap (λ l. contains_range l g) p.parts) ∙ none);
      }

  none_later : contains_range p.rest g ≡ false
  none_later = list_any-append (λ q. same_range q g) p.mid p.rest (sym (ap (λ l. contains_range l g) p.parts) ∙ none)

union-cases : (a m most : ℕ) (g : Range) (cut : List Range) (below : a < m) (p : IsPart a (a + size_at a m) m cut) (t : Bool) → same_range (largest_at a m) g ≡ t → contains_range cut g ≡ false
    → (contains_range (canon_from most (a + size_at a m) m) g ≡ true → IsUnionIn p.rest g) → (t || contains_range (canon_from most (a + size_at a m) m) g) ≡ true → IsUnionIn cut g
union-cases a m most g cut below p true e none later any = union-here a m below cut g p none (same_range-true (largest_at a m) g e)
union-cases a m most g cut below p false e none later any = further cut p.mid p.rest g p.parts (later any)

canon-some-by : (a m most : ℕ) (g : Range) (t : Bool) → nat_lt a m ≡ t → list_any (λ q. same_range q g) (cond t (largest_at a m ∷ canon_from most (a + size_at a m) m) []) ≡ true
    → (a < m) × ((same_range (largest_at a m) g || contains_range (canon_from most (a + size_at a m) m) g) ≡ true)
canon-some-by a m most g true e any = (ltb-true a m e, any)
canon-some-by a m most g false e any = absurd (false≢true any)

pub union_from : (most a m : ℕ) (cut : List Range) (g : Range) → IsCutFrom a cut → end_from a cut ≡ m → contains_range (canon_from most a m) g ≡ true → contains_range cut g ≡ false → IsUnionIn cut g
union_from zero a m cut g chain last any none = absurd (false≢true any)
union_from (suc most) a m cut g chain last any none =
    let h = canon-some-by a m most g (nat_lt a m) refl any in
    let p = part a m h.0 a cut (le_itself a) (le_more a (size_at a m)) chain last in
    union-cases a m most g cut h.0 p (same_range (largest_at a m) g) refl none
    (λ later. union_from most (a + size_at a m) m p.rest g p.next p.last later (none_later a m h.0 cut g p none)) h.1

-- a range of the canonical cut that isn't in a cut with its end is the union of at least two of its ranges
pub union_of_two : (cut : List Range) (g : Range) → IsCut cut → contains_range (canon (end_of cut)) g ≡ true → contains_range cut g ≡ false → IsUnionIn cut g
unfolding canon
union_of_two cut g chain any none = union_from (end_of cut) 0 (end_of cut) cut g chain refl any none

-- ---- a cut with all ranges of the canonical cut is it

all_later : (a b : ℕ) (r : Range) (rs gs : List Range) → r.from ≡ a → a < b → IsCutFrom b gs → HasAll (r ∷ rs) gs → HasAll rs gs
all_later a b r rs [] starts up chain all = tt
all_later a b r rs (g ∷ gs) starts up chain all =
    let some = (aligned_from g chain.1).some in
    let from : g.from ≡ b = chain.0 in
    (not_first (same_range r g) refl from all.0, all_later a g.to r rs gs starts (omega arith) chain.2 all.1)
  where
    not_first : (t : Bool) → same_range r g ≡ t → g.from ≡ b → (t || contains_range rs g) ≡ true → contains_range rs g ≡ true
    not_first true e from any =
        let same : r.from ≡ g.from = ap (λ (q : Range). q.from) (same_range-true r g e) in
        absurd (let start : r.from ≡ a = starts in omega arith)
    not_first false e from any = any

-- the range of a cut that begins where the cut begins is its first
first_is : (a : ℕ) (r g : Range) (rs : List Range) → IsCutFrom a (r ∷ rs) → g.from ≡ a → contains_range (r ∷ rs) g ≡ true → r ≡ g
first_is a r g rs chain from any = by (same_range r g) refl any
  where
    by : (t : Bool) → same_range r g ≡ t → (t || contains_range rs g) ≡ true → r ≡ g
    by true e any = same_range-true r g e
    by false e any =
        let later : r.to ≤ g.from = contained_from r.to rs g chain.2 any in
        let some = (aligned_from r chain.1).some in
        let starts : r.from ≡ a = chain.0 in
        absurd (omega arith)

module _ (a m most : ℕ) (below : a < m) (small : m ≤ 4096) where
  canon-first : (cut : List Range) → IsCutFrom a cut → end_from a cut ≡ m → contains_range cut (largest_at a m) ≡ true
      → HasAll cut (canon_from most (a + size_at a m) m)
      → ((rs : List Range) → IsCutFrom (a + size_at a m) rs → end_from (a + size_at a m) rs ≡ m → HasAll rs (canon_from most (a + size_at a m) m) → rs ≡ canon_from most (a + size_at a m) m)
      → cut ≡ largest_at a m ∷ canon_from most (a + size_at a m) m
  unfolding largest_at
  canon-first [] chain last any all more = absurd (false≢true any)
  canon-first (r ∷ rs) chain last any all more =
      let same : r ≡ largest_at a m = first_is a r (largest_at a m) rs chain refl any in
      let to : r.to ≡ a + size_at a m = ap (λ (q : Range). q.to) same in
      let positive = positive_at a m below in
      let later = all_later a (a + size_at a m) r rs (canon_from most (a + size_at a m) m) chain.0 (omega arith)
      (canon_from-IsCutFrom most (a + size_at a m) m small) all in
      λ i. same i ∷ more rs (subst (λ z. IsCutFrom z rs) to chain.2) (subst (λ z. end_from z rs ≡ m) to last) later i

no_more : (a : ℕ) (cut : List Range) → IsCutFrom a cut → end_from a cut ≤ a → cut ≡ []
no_more a [] chain last = refl
no_more a (r ∷ rs) chain last =
    let some = (aligned_from r chain.1).some in
    let starts : r.from ≡ a = chain.0 in
    let above : r.to ≤ end_from r.to rs = end_from-above r.to rs chain.2 in
    absurd (omega arith)

canon_all-by : (most a m : ℕ) (cut : List Range) (t : Bool) → nat_lt a m ≡ t → m ≤ 4096 → IsCutFrom a cut → end_from a cut ≡ m
    → HasAll cut (cond t (largest_at a m ∷ canon_from most (a + size_at a m) m) [])
    → ((a < m) → (rs : List Range) → IsCutFrom (a + size_at a m) rs → end_from (a + size_at a m) rs ≡ m → HasAll rs (canon_from most (a + size_at a m) m) → rs ≡ canon_from most (a + size_at a m) m)
    → cut ≡ cond t (largest_at a m ∷ canon_from most (a + size_at a m) m) []
canon_all-by most a m cut true e small chain last all more =
    canon-first a m most (ltb-true a m e) small cut chain last all.0 all.1 (more (ltb-true a m e))
canon_all-by most a m cut false e small chain last all more = no_more a cut chain (let over : m ≤ a = ltb-false a m e in omega arith)

canon_all : (most a m : ℕ) (cut : List Range) → m ≤ a + most → m ≤ 4096 → IsCutFrom a cut → end_from a cut ≡ m → HasAll cut (canon_from most a m) → cut ≡ canon_from most a m
canon_all zero a m cut h small chain last all = no_more a cut chain (omega arith)
canon_all (suc most) a m cut h small chain last all =
    canon_all-by most a m cut (nat_lt a m) refl small chain last all (λ below rs.
    canon_all most (a + size_at a m) m rs (next_most a m most (size_at a m) (positive_at a m below) h) small)

pub end_from-within : (a : ℕ) (cut : List Range) → a ≤ 4096 → IsCutFrom a cut → end_from a cut ≤ 4096
end_from-within a [] h chain = h
end_from-within a (r ∷ rs) h chain = let al = aligned_from r chain.1 in end_from-within r.to rs al.within chain.2

pub end_of-within : (cut : List Range) → IsCut cut → end_of cut ≤ 4096
end_of-within cut chain = end_from-within 0 cut (omega arith) chain

-- a cut with all ranges of the canonical cut of its end is that cut
pub canon_of_all : (cut : List Range) → IsCut cut → HasAll cut (canon (end_of cut)) → cut ≡ canon (end_of cut)
unfolding canon
canon_of_all cut chain all =
    canon_all (end_of cut) 0 (end_of cut) cut (omega arith) (end_of-within cut chain) chain refl all

-- ---- what is to be merged

find_all : (p : Range → Bool) (cut gs : List Range) → ((g : Range) → p g ≡ false → contains_range cut g ≡ true) → find p gs ≡ None → HasAll cut gs
find_all p cut [] means none = tt
find_all p cut (g ∷ gs) means none = by (p g) refl none (find_all p cut gs means)
  where
    by : (t : Bool) → p g ≡ t → cond t (Some g) (find p gs) ≡ None → (find p gs ≡ None → HasAll cut gs) → HasAll cut (g ∷ gs)
    by true e none rest = absurd (none_is_some g none)
      where
        none_is_some : (g : Range) → ◌≡◌ {A = Option Range} (Some g) None → ⊥
        none_is_some g e = cc
    by false e none rest = (means g e, rest none)

or_false : (t : Bool) → (not t && not false) ≡ false → t ≡ true
or_false true e = refl
or_false false e = absurd (false≢true (sym e))

pub next_merge-none : (cut : List Range) → IsCut cut → next_merge_of cut [] ≡ None → cut ≡ canon (end_of cut)
unfolding next_merge_of is_to_merge
next_merge-none cut chain none =
    canon_of_all cut chain (find_all (is_to_merge cut []) cut (canon (end_of cut)) (λ g. or_false (contains_range cut g)) none)

HasAll-more : (r : Range) (cut gs : List Range) → HasAll cut gs → HasAll (r ∷ cut) gs
HasAll-more r cut [] all = tt
HasAll-more r cut (g ∷ gs) all = (by (same_range r g), HasAll-more r cut gs all.1)
  where
    by : (t : Bool) → (t || contains_range cut g) ≡ true
    by true = refl
    by false = all.0

HasAll-itself : (gs : List Range) → HasAll gs gs
HasAll-itself [] = tt
HasAll-itself (g ∷ gs) = (ap (λ t. t || contains_range gs g) (same_range-itself g), HasAll-more g gs gs (HasAll-itself gs))

find_none : (cut busy gs : List Range) → HasAll cut gs → find (is_to_merge cut busy) gs ≡ None
unfolding is_to_merge
find_none cut busy [] all = refl
find_none cut busy (g ∷ gs) all =
    ap (λ t. cond (not t && not (meets_any busy g)) (Some g) (find (is_to_merge cut busy) gs)) all.0 ∙ find_none cut busy gs all.1

pub next_merge-canon : (cut busy : List Range) → cut ≡ canon (end_of cut) → next_merge_of cut busy ≡ None
unfolding next_merge_of
next_merge-canon cut busy same =
    find_none cut busy (canon (end_of cut)) (subst (λ l. HasAll l (canon (end_of cut))) (sym same) (HasAll-itself (canon (end_of cut))))

-- a range that was found is in the list and passes
record IsFound (p : Range → Bool) (gs : List Range) (g : Range) : Type 0 where
  among : contains_range gs g ≡ true
  passes : p g ≡ true

found : (p : Range → Bool) (gs : List Range) (g : Range) → find p gs ≡ Some g → IsFound p gs g
found p [] g e = absurd (none_is g e)
  where
    none_is : (g : Range) → ◌≡◌ {A = Option Range} None (Some g) → ⊥
    none_is g e = cc
found p (x ∷ xs) g e = by (p x) refl e (found p xs g)
  where
    later : (t : Bool) → contains_range xs g ≡ true → (t || contains_range xs g) ≡ true
    later true any = refl
    later false any = any

    by : (t : Bool) → p x ≡ t → cond t (Some x) (find p xs) ≡ Some g → (find p xs ≡ Some g → IsFound p xs g) → IsFound p (x ∷ xs) g
    by true ex e rest =
        let same : x ≡ g = cc in
        record { among = ap (λ t. t || contains_range xs g) (ap (λ q. same_range q g) same ∙ same_range-itself g); passes = ap p (sym same) ∙ ex }
    by false ex e rest = let r = rest e in record { among = later (same_range x g) r.among; passes = r.passes }

first_not : (s t : Bool) → (not s && not t) ≡ true → s ≡ false
first_not true t e = absurd (false≢true e)
first_not false t e = refl

second_not : (s t : Bool) → (not s && not t) ≡ true → t ≡ false
second_not true t e = absurd (false≢true e)
second_not false true e = absurd (false≢true e)
second_not false false e = refl

-- what is to be merged is the union of at least two ranges of the cut, and meets nothing busy
pub next_merge-union : (cut busy : List Range) (g : Range) → IsCut cut → next_merge_of cut busy ≡ Some g → IsUnionIn cut g
unfolding next_merge_of is_to_merge
next_merge-union cut busy g chain e =
    let f = found (is_to_merge cut busy) (canon (end_of cut)) g e in
    union_of_two cut g chain f.among (first_not (contains_range cut g) (meets_any busy g) f.passes)

pub next_merge-free : (cut busy : List Range) (g : Range) → next_merge_of cut busy ≡ Some g → meets_any busy g ≡ false
unfolding next_merge_of is_to_merge
next_merge-free cut busy g e =
    let f = found (is_to_merge cut busy) (canon (end_of cut)) g e in
    second_not (contains_range cut g) (meets_any busy g) f.passes

module _ (cut busy : List Range) (answer : Option Range) (chain : IsCut cut) (exact : answer ≡ next_merge_of cut busy) where
  pub answer-union : IfSome answer (IsUnionIn cut)
  answer-union = by answer exact
    where
      by : (o : Option Range) → o ≡ next_merge_of cut busy → IfSome o (IsUnionIn cut)
      by None e = tt
      by (Some g) e = next_merge-union cut busy g chain (sym e)

  -- with nothing busy, nothing is to be merged exactly where the cut is canonical
  pub answer-settled : busy ≡ [] → (answer ≡ None) ↔ (cut ≡ canon (end_of cut))
  answer-settled idle =
      (λ none. next_merge-none cut chain (sym (exact ∙ ap (next_merge_of cut) idle) ∙ none), λ same. exact ∙ next_merge-canon cut busy same)
