-- Laws of a list that a batch is added to: it stays a list, and values before the batch stay as they are.
use Rattle.std.specs.Prelude.{◌≡◌, ◌≢◌, ℕ, ◌+◌, ◌*◌, ◌≤◌, ◌<◌, Bool, true, false, List, [], ◌∷◌, ◌++◌, cond, ◌&&◌, nat_lt, All, Some, None, refl}
use Rattle.std.proofs.Common.{◌∙◌, ap, arith, le-ltb}
use Rattle.std.specs.Option.{option_or, option_and_then}
use Rattle.std.proofs.lemmas.List.Elements.{All-cons, All-head, All-tail, All-nil, All-append}
use Rattle.agg_model.specs.declared.entity.Entity.{Entity}
use Rattle.agg_model.specs.declared.change.Change.{Change}
use Rattle.agg_model.specs.Place.{Place, place_of, is_of}
use Rattle.agg_model.specs.ChangeList.{ChangeList, IsChangeList, grown, next_of, last_where, last_change, value_at, value_of, is_of_before}
use Rattle.agg_model.specs.Batch.{AscendFrom, HasNoRepeats, IsBatch, IsChange}
use Rattle.agg_model.proofs.ArrangedLaws.{last_where-append}

le_chain : {a b c : ℕ} → a ≤ b → b ≤ c → a ≤ c
le_chain h g = omega arith

lt_chain : {a b c : ℕ} → a < b → b ≤ c → a < c
lt_chain h g = omega arith

above : {n m tx : ℕ} → n ≤ m + 1 → m ≤ tx → n ≤ tx + 1
above h g = omega arith

next_within : {tx m : ℕ} → tx < m → tx + 1 ≤ m
next_within h = omega arith

le_itself : (n : ℕ) → n ≤ n
le_itself n = omega arith

more : (n : ℕ) → n ≤ n + 1
more n = omega arith

-- ---- the next number

pub next_of-above : (n m : ℕ) (cs : List Change) → n ≤ m + 1 → AscendFrom m cs → n ≤ next_of n cs
next_of-above n m [] h up = le_itself n
next_of-above n m (c ∷ cs) h up =
    le_chain (above h up.0) (next_of-above (c.tx + 1) c.tx cs (le_itself (c.tx + 1)) up.1)

pub next_of-within : (n m : ℕ) (cs : List Change) → n ≤ m → All (λ c. c.tx < m) cs → next_of n cs ≤ m
next_of-within n m [] h below = h
next_of-within n m (c ∷ cs) h below =
    next_of-within (c.tx + 1) m cs (next_within (All-head (λ c. c.tx < m) c cs below)) (All-tail (λ c. c.tx < m) c cs below)

pub below-next_of : (n m : ℕ) (cs : List Change) → AscendFrom m cs → All (λ c. c.tx < next_of n cs) cs
below-next_of n m [] up = All-nil (λ (c : Change). c.tx < n)
below-next_of n m (c ∷ cs) up =
    All-cons (λ d. d.tx < next_of (c.tx + 1) cs) c cs
    (next_below (next_of-above (c.tx + 1) c.tx cs (le_itself (c.tx + 1)) up.1))
    (below-next_of (c.tx + 1) c.tx cs up.1)
  where
    next_below : {a b : ℕ} → a + 1 ≤ b → a < b
    next_below h = omega arith

-- ---- appending

pub AscendFrom-All : (least : ℕ) (cs : List Change) → AscendFrom least cs → All (λ c. least ≤ c.tx) cs
AscendFrom-All least [] up = All-nil (λ (c : Change). least ≤ c.tx)
AscendFrom-All least (c ∷ cs) up =
    All-cons (λ c. least ≤ c.tx) c cs up.0 (λ i z below. le_chain up.0 (AscendFrom-All c.tx cs up.1 i z below))

pub AscendFrom-lower : (low least : ℕ) (cs : List Change) → low ≤ least → AscendFrom least cs → AscendFrom low cs
AscendFrom-lower low least [] h up = tt
AscendFrom-lower low least (c ∷ cs) h up = (le_chain h up.0, up.1)

pub AscendFrom-append : (least m : ℕ) (cs ds : List Change) → least ≤ m → AscendFrom least cs → All (λ c. c.tx < m) cs → AscendFrom m ds → AscendFrom least (cs ++ ds)
AscendFrom-append least m [] ds h up below rest = AscendFrom-lower least m ds h rest
AscendFrom-append least m (c ∷ cs) ds h up below rest =
    (up.0, AscendFrom-append c.tx m cs ds (lt_le (All-head (λ c. c.tx < m) c cs below)) up.1 (All-tail (λ c. c.tx < m) c cs below) rest)
  where
    lt_le : {a b : ℕ} → a < b → a ≤ b
    lt_le h = omega arith

number_of : Place → ℕ
number_of p = p.number

-- changes with different numbers have different places
numbers_apart : (m : ℕ) (c d : Change) → c.tx < m → m ≤ d.tx → place_of d ≢ place_of c
unfolding place_of number_of
numbers_apart m c d low high same = let number : d.tx ≡ c.tx = ap number_of same in absurd (omega arith)

pub HasNoRepeats-append : (m : ℕ) (cs ds : List Change) → HasNoRepeats cs → HasNoRepeats ds → All (λ c. c.tx < m) cs → All (λ d. m ≤ d.tx) ds → HasNoRepeats (cs ++ ds)
HasNoRepeats-append m [] ds none rest below over = rest
HasNoRepeats-append m (c ∷ cs) ds none rest below over = (
  All-append (λ d. place_of d ≢ place_of c) cs ds none.0
      (λ i z at. numbers_apart m c _ (All-head (λ c. c.tx < m) c cs below) (over i z at)),
  HasNoRepeats-append m cs ds none.1 rest (All-tail (λ c. c.tx < m) c cs below) over,
)

-- the list after a batch that may come next, without repeats, is a list
pub grown-IsChangeList : (list : ChangeList) (batch : List Change) → IsChangeList list → IsBatch list.next (4096 * list.size) batch → HasNoRepeats batch → IsChangeList (grown list batch)
grown-IsChangeList list batch valid fits none = record {
  size_from_one = valid.size_from_one;
  size_within = valid.size_within;
  next_within = next_of-within list.next (4096 * list.size) batch valid.next_within fits.below_far;
  below_next =
      All-append (λ c. c.tx < next_of list.next batch) list.changes batch
      (λ i z at. lt_chain (valid.below_next i z at) (next_of-above list.next list.next batch (more list.next) fits.ascend))
      (below-next_of list.next list.next batch fits.ascend);
  ascend = AscendFrom-append 0 list.next list.changes batch (omega arith) valid.ascend valid.below_next fits.ascend;
  no_repeats =
      HasNoRepeats-append list.next list.changes batch valid.no_repeats none valid.below_next (AscendFrom-All list.next batch fits.ascend);
  fit = All-append IsChange list.changes batch valid.fit fits.fit;
}

-- ---- values that stay

module _ (e : Entity) (k : List ℕ) (n : ℕ) where
  late-by : (d : Change) (t : Bool) → n ≤ d.tx → (t && nat_lt d.tx n) ≡ false
  late-by d true h = le-ltb d.tx n h
  late-by d false h = refl

  pub late : (d : Change) → n ≤ d.tx → is_of_before e k n d ≡ false
  unfolding is_of_before
  late d h = late-by d (is_of e k d) h

  -- none of them is before the number
  pub none_late : (ds : List Change) → All (λ d. n ≤ d.tx) ds → last_where (is_of_before e k n) ds ≡ None
  none_late [] all = refl
  none_late (d ∷ ds) all =
      ap (λ o. option_or o (cond (is_of_before e k n d) (Some d) None)) (none_late ds (All-tail (λ d. n ≤ d.tx) d ds all))
      ∙ ap (λ t. option_or {T = Change} None (cond t (Some d) None)) (late d (All-head (λ d. n ≤ d.tx) d ds all))

  -- later changes don't touch the value before a number
  pub value_at-later : (cs ds : List Change) → All (λ d. n ≤ d.tx) ds → value_at (cs ++ ds) e k n ≡ value_at cs e k n
  unfolding value_at last_change
  value_at-later cs ds all =
      ap (option_and_then value_of)
      (last_where-append (is_of_before e k n) cs ds ∙ ap (λ o. option_or o (last_where (is_of_before e k n) cs)) (none_late ds all))
