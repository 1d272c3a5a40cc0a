-- Laws of files in the order of their names, and of the map that they stand for.
use Rattle.std.proofs.Common.{◌≡◌, ℕ, zero, suc, ◌<◌, ◌≤◌, Bool, true, false, if◌then◌else◌, cond, List, [], ◌∷◌, ◌++◌, length, map, take, drop, get_or, Some, None, Result, Ok, Err, MatchResult, inl, inr, refl, sym, ap, ◌∙◌, subst, arith, eq-or-lt_of_le, le_refl}
use Rattle.std.proofs.lemmas.Bool.{cases_Bool}
use Rattle.std.specs.List.Sorted.{IsPartitionPoint, IsNonDecreasingBy, IsBinarySearchResult, IsSearchInRange}
use Rattle.std.specs.declared.cmp.Ordering.{Ordering}
use Rattle.std.specs.declared.cmp.Ordering.TheVariants.{Less, Equal, Greater}
use Rattle.std.specs.Ordering.{nat_cmp, is_lt, is_eq, eq_by_cmp, ordering_reverse, ordering_index}
use Rattle.std.specs.Cmp.Lexicographic.{slice_cmp, nat_list_cmp_total}
use Rattle.std.specs.FinMap.{find, nat_cmp-IsAntisymmetric, slice_cmp-IsAntisymmetric, IsAntisymmetric}
use Rattle.agg_outside.specs.declared.file_map.FileEntry.{FileEntry}
use Rattle.agg_outside.specs.FilePlaces.{all_below, all_above, IsNamedAt, IsGapFor}
use Rattle.agg_outside.specs.FileList.{is_below, names_ascend_after, names_ascend, is_above_last}

pub both_true : (a b : Bool) → (if a then b else false) ≡ true → (a ≡ true) × (b ≡ true)
both_true true b h = (refl, h)
both_true false b h = cc h

pub both_are : (a b : Bool) → a ≡ true → b ≡ true → (if a then b else false) ≡ true
both_are true b p q = q
both_are false b p q = cc p

names_after-push : (name : List ℕ) (file : FileEntry) (files : List FileEntry) (new : FileEntry) → names_ascend_after file.name files ≡ true → is_above_last new.name (file ∷ files) ≡ true → names_ascend_after file.name (files ++ new ∷ []) ≡ true
names_after-push name file [] new s h = both_are _ _ h refl
names_after-push name file (next ∷ files) new s h =
    let parts = both_true _ _ s in
    both_are _ _ parts.0 (names_after-push name next files new parts.1 h)

-- a file whose name is above the last one may be pushed
pub names_ascend-push : (files : List FileEntry) (new : FileEntry) → names_ascend files ≡ true → is_above_last new.name files ≡ true → names_ascend (files ++ new ∷ []) ≡ true
names_ascend-push [] new s h = refl
names_ascend-push (file ∷ files) new s h = names_after-push new.name file files new s h

-- ---- the order of names

abbrev pub same_name : List ℕ → List ℕ → Bool
same_name a b = eq_by_cmp (slice_cmp nat_cmp) a b

pub one_name : IsAntisymmetric (slice_cmp nat_cmp)
one_name = slice_cmp-IsAntisymmetric nat_cmp-IsAntisymmetric

pub lt_is : (r : Ordering) → is_lt r ≡ true → r ≡ Less
lt_is Less h = refl
lt_is Equal h = cc h
lt_is Greater h = cc h

pub eq_is : (r : Ordering) → is_eq r ≡ true → r ≡ Equal
eq_is Less h = cc h
eq_is Equal h = refl
eq_is Greater h = cc h

below_trans : (a b c : List ℕ) → is_below a b ≡ true → is_below b c ≡ true → is_below a c ≡ true
below_trans a b c h k = ap is_lt (nat_list_cmp_total.trans a b c (lt_is (slice_cmp nat_cmp a b) h) (lt_is (slice_cmp nat_cmp b c) k))

below_other : (a b : List ℕ) → is_below a b ≡ true → same_name a b ≡ false
below_other a b h = ap is_eq (lt_is (slice_cmp nat_cmp a b) h)

above_other : (a b : List ℕ) → is_below b a ≡ true → same_name a b ≡ false
above_other a b h = ap is_eq (nat_list_cmp_total.antisymm a b ∙ ap ordering_reverse (lt_is (slice_cmp nat_cmp b a) h))

-- ---- files below a name, and above it

pub names_after-below : (low name : List ℕ) (files : List FileEntry) → is_below low name ≡ true → names_ascend_after name files ≡ true → names_ascend_after low files ≡ true
names_after-below low name [] h s = refl
names_after-below low name (file ∷ files) h s =
    let parts = both_true _ _ s in
    both_are _ _ (below_trans low name file.name h parts.0) parts.1

above_after : (name : List ℕ) (files : List FileEntry) → names_ascend_after name files ≡ true → all_above name files ≡ true
above_after name [] s = refl
above_after name (file ∷ files) s =
    let parts = both_true _ _ s in
    both_are _ _ parts.0 (above_after name files (names_after-below name file.name files parts.0 parts.1))

pub names-after : (low : List ℕ) (files : List FileEntry) → names_ascend_after low files ≡ true → names_ascend files ≡ true
names-after low [] s = refl
names-after low (file ∷ files) s = (both_true _ _ s).1

-- the entries of the map, in order
abbrev pub pairs : List FileEntry → List (List ℕ × List ℕ)
pairs files = map (λ file. (file.name, file.bytes)) files

find-below : (name : List ℕ) (files : List FileEntry) → all_below name files ≡ true → find (slice_cmp nat_cmp) name (pairs files) ≡ None
find-below name [] h = refl
find-below name (file ∷ files) h =
    let parts = both_true (is_below file.name name) (all_below name files) h in
    rw (above_other name file.name parts.0) (find-below name files parts.1)

find-above : (name : List ℕ) (files : List FileEntry) → all_above name files ≡ true → find (slice_cmp nat_cmp) name (pairs files) ≡ None
find-above name [] h = refl
find-above name (file ∷ files) h =
    let parts = both_true (is_below name file.name) (all_above name files) h in
    rw (below_other name file.name parts.0) (find-above name files parts.1)

-- a name that is neither in the first files nor in the others
pub find-neither : (name : List ℕ) (xs ys : List FileEntry) → all_below name xs ≡ true → all_above name ys ≡ true → find (slice_cmp nat_cmp) name (pairs (xs ++ ys)) ≡ None
find-neither name [] ys h k = find-above name ys k
find-neither name (x ∷ xs) ys h k =
    let parts = both_true (is_below x.name name) (all_below name xs) h in
    rw (above_other name x.name parts.0) (find-neither name xs ys parts.1 k)

-- a file between files with other names
pub find-between : (name : List ℕ) (q : List ℕ) (file : FileEntry) (xs ys : List FileEntry) → file.name ≡ name → all_below name xs ≡ true → find (slice_cmp nat_cmp) q (pairs (xs ++ file ∷ ys)) ≡ cond (same_name q name) (Some file.bytes) (find (slice_cmp nat_cmp) q (pairs (xs ++ ys)))
find-between name q file [] ys e h = rw e refl
find-between name q file (x ∷ xs) ys e h =
    let parts = both_true (is_below x.name name) (all_below name xs) h in
    let rest = find-between name q file xs ys e parts.1 in
    elim (cases_Bool (same_name q x.name)) [
      | inl same ↦
          let is : q ≡ x.name = one_name q x.name (eq_is (slice_cmp nat_cmp q x.name) same) in
          let other : same_name q name ≡ false = subst (λ (w : List ℕ). same_name w name ≡ false) (sym is) (below_other x.name name parts.0) in
          rw (same, other) refl
      | inr not ↦ rw not rest
    ]

-- ---- what a search by name finds

pub after-get : (low : List ℕ) (files : List FileEntry) (i : ℕ) (d : FileEntry) → names_ascend_after low files ≡ true → i < length files → is_below low (get_or files i d).name ≡ true
after-get low [] i d s h = absurd (omega arith)
after-get low (file ∷ files) zero d s h = (both_true _ _ s).0
after-get low (file ∷ files) (suc i) d s h =
    let parts = both_true _ _ s in
    after-get low files i d (names_after-below low file.name files parts.0 parts.1) (omega arith)

rising : (files : List FileEntry) (i j : ℕ) (d : FileEntry) → names_ascend files ≡ true → i < j → j < length files → is_below (get_or files i d).name (get_or files j d).name ≡ true
rising [] i j d s h w = absurd (omega arith)
rising (file ∷ files) i zero d s h w = absurd (omega arith)
rising (file ∷ files) zero (suc j) d s h w = after-get file.name files j d s (omega arith)
rising (file ∷ files) (suc i) (suc j) d s h w = rising files i j d (names-after file.name files s) (omega arith) (omega arith)

index_most : (r : Ordering) → ordering_index r ≤ 2
index_most Less = omega arith
index_most Equal = omega arith
index_most Greater = omega arith

index_by : (a b name : List ℕ) (r : Ordering) → slice_cmp nat_cmp b name ≡ r → is_below a b ≡ true → ordering_index (slice_cmp nat_cmp a name) ≤ ordering_index r
index_by a b name Less e h =
    let less : slice_cmp nat_cmp a name ≡ Less = nat_list_cmp_total.trans a b name (lt_is (slice_cmp nat_cmp a b) h) e in
    rw less (omega arith)
index_by a b name Equal e h =
    let same : b ≡ name = one_name b name e in
    let less : slice_cmp nat_cmp a name ≡ Less = subst (λ (w : List ℕ). slice_cmp nat_cmp a w ≡ Less) same (lt_is (slice_cmp nat_cmp a b) h) in
    rw less (omega arith)
index_by a b name Greater e h = index_most (slice_cmp nat_cmp a name)

pub names_rise : (name : List ℕ) (files : List FileEntry) → names_ascend files ≡ true → IsNonDecreasingBy (λ (file : FileEntry). ordering_index (slice_cmp nat_cmp file.name name)) files
names_rise name files s i j d le w =
    elim (eq-or-lt_of_le le) [
      | inl e ↦ rw e (le_refl (ordering_index (slice_cmp nat_cmp (get_or files j d).name name)))
      | inr lt ↦ index_by (get_or files i d).name (get_or files j d).name name (slice_cmp nat_cmp (get_or files j d).name name) refl (rising files i j d s lt w)
    ]

all_below_each : (name : List ℕ) (files : List FileEntry) (n : ℕ) → ((k : ℕ) (d : FileEntry) → k < n → k < length files → slice_cmp nat_cmp (get_or files k d).name name ≡ Less) → all_below name (take n files) ≡ true
all_below_each name [] zero each = refl
all_below_each name [] (suc n) each = refl
all_below_each name (file ∷ files) zero each = refl
all_below_each name (file ∷ files) (suc n) each =
    both_are _ _ (ap is_lt (each 0 file (omega arith) (omega arith))) (all_below_each name files n (λ k d h w. each (suc k) d (omega arith) (omega arith)))

all_above_each : (name : List ℕ) (files : List FileEntry) (n : ℕ) → ((k : ℕ) (d : FileEntry) → n ≤ k → k < length files → slice_cmp nat_cmp (get_or files k d).name name ≡ Greater) → all_above name (drop n files) ≡ true
all_above_each name [] zero each = refl
all_above_each name [] (suc n) each = refl
all_above_each name (file ∷ files) zero each =
    let greater : slice_cmp nat_cmp file.name name ≡ Greater = each 0 file (omega arith) (omega arith) in
    both_are _ _ (ap is_lt (nat_list_cmp_total.antisymm name file.name ∙ ap ordering_reverse greater)) (all_above_each name files 0 (λ k d h w. each (suc k) d (omega arith) (omega arith)))
all_above_each name (file ∷ files) (suc n) each =
    all_above_each name files n (λ k d h w. each (suc k) d (omega arith) (omega arith))

pub gap_from_point : (name : List ℕ) (files : List FileEntry) (place : ℕ) → place ≤ length files → IsPartitionPoint (λ (file : FileEntry). slice_cmp nat_cmp file.name name ≡ Less) (λ (file : FileEntry). slice_cmp nat_cmp file.name name ≡ Greater) files place → IsGapFor name files place
gap_from_point name files place within point = record {
  within = within;
  below = all_below_each name files place (λ k d h w. point.0 k d (omega arith) h);
  above = all_above_each name files place (λ k d h w. point.1 k d h w);
}

below_place : (files : List FileEntry) (place : ℕ) (d : FileEntry) → names_ascend files ≡ true → place < length files → all_below (get_or files place d).name (take place files) ≡ true
below_place [] place d s h = absurd (omega arith)
below_place (file ∷ files) zero d s h = refl
below_place (file ∷ files) (suc place) d s h =
    both_are _ _ (after-get file.name files place d s (omega arith)) (below_place files place d (names-after file.name files s) (omega arith))

above_place : (files : List FileEntry) (place : ℕ) (d : FileEntry) → names_ascend files ≡ true → place < length files → all_above (get_or files place d).name (drop (suc place) files) ≡ true
above_place [] place d s h = absurd (omega arith)
above_place (file ∷ files) zero d s h = above_after file.name files s
above_place (file ∷ files) (suc place) d s h = above_place files place d (names-after file.name files s) (omega arith)

get_or_any : (files : List FileEntry) (place : ℕ) (d e : FileEntry) → place < length files → get_or files place d ≡ get_or files place e
get_or_any [] place d e h = absurd (omega arith)
get_or_any (file ∷ files) zero d e h = refl
get_or_any (file ∷ files) (suc place) d e h = get_or_any files place d e (omega arith)

pub named_from_equal : (name : List ℕ) (files : List FileEntry) (place : ℕ) (d : FileEntry) → names_ascend files ≡ true → place < length files → slice_cmp nat_cmp (get_or files place d).name name ≡ Equal → IsNamedAt name files place
named_from_equal name files place d s within e =
    let is : (get_or files place d).name ≡ name = one_name (get_or files place d).name name e in
    record {
      within = within;
      named = λ other. ap (λ (x : FileEntry). x.name) (get_or_any files place other d within) ∙ is;
      below = subst (λ (w : List ℕ). all_below w (take place files) ≡ true) is (below_place files place d s within);
      above = subst (λ (w : List ℕ). all_above w (drop (suc place) files) ≡ true) is (above_place files place d s within);
    }

pub found_or_gap : (name : List ℕ) (files : List FileEntry) (found : Result ℕ ℕ) → names_ascend files ≡ true → IsSearchInRange found (length files) → IsBinarySearchResult (λ (file : FileEntry). slice_cmp nat_cmp file.name name) files found → MatchResult found (IsNamedAt name files) (IsGapFor name files)
found_or_gap name files (Ok place) s within at =
    let some : FileEntry = record { name = []; bytes = [] } in
    named_from_equal name files place some s within (at some)
found_or_gap name files (Err place) s within gap = gap_from_point name files place within (gap (names_rise name files s))
