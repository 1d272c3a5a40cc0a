-- The keys of a leaf, each at its position.
use Rattle.std.proofs.Common.{◌≡◌, ℕ, zero, suc, ◌+◌, ◌-◌, ◌*◌, ◌/◌, ◌%◌, ◌^◌, ◌<◌, ◌≤◌, Bool, true, false, not, cond, ◌==◌, List, [], ◌∷◌, ◌++◌, length, map, Some, refl, sym, ap, ◌∙◌, arith, inl, inr, zero-add}
use Rattle.std.specs.Prelude.{slice_get, ◌&&◌}
use Rattle.std.specs.List.{filter, flat_map, range_with_len, AllByRecursion}
use Rattle.std.proofs.lemmas.Bool.{cases_lt, eqb-true, eq-eqb, ne_eqb}
use Rattle.std.proofs.lemmas.Nat.{xor_lt}
use Rattle.std.proofs.lemmas.List.{append-nil, length-append}
use Rattle.std.proofs.lemmas.List.Concat.{flat_map-append}
use Rattle.std.proofs.Math.Nat.{mul-le-mul_right, div-lt_iff_lt-mul, div-le_self}
use Rattle.recsplit_index.specs.declared.keys.HashedKey.{HashedKey}
use Rattle.recsplit_index.specs.Hash.{mix, folded, scaled, position}
use Rattle.recsplit_index.specs.Nodes.{is_among, all_new, all_differ, by_position}
use Rattle.recsplit_index.specs.Index.{bucket_keys}
use Rattle.recsplit_index.proofs.Every.{differ, all_weaker, all_filtered, all_flat, get_after}

-- ---- positions are below the size

folded_small : (s x : ℕ) → x < 2 ^ 64 → folded s x < 2 ^ 64
folded_small s x lt = xor_lt 64 x (x / 2 ^ s) lt (let le : x / 2 ^ s ≤ x = div-le_self x (2 ^ s) in omega (arith, le))

modulo_small : (x : ℕ) → x % 2 ^ 64 < 2 ^ 64
modulo_small x = omega arith

pub mix_small : (x : ℕ) → x < 2 ^ 64 → mix x < 2 ^ 64
unfolding mix
mix_small x lt = folded_small 31 _ (modulo_small _)

pub scaled_small : (h k : ℕ) → h < 2 ^ 64 → 0 < k → scaled h k < k
unfolding scaled
scaled_small h k lt some =
    let less : (h + 1) * k ≤ 2 ^ 64 * k = mul-le-mul_right k (omega arith) in
    let one : (h + 1) * k ≡ h * k + k = omega arith in
    let big : 0 < 2 ^ 64 = omega arith in
    (div-lt_iff_lt-mul big).1 (omega (arith, less, one))

pub position_small : (depth seed k h : ℕ) → 0 < k → position depth seed k h < k
unfolding position
position_small depth seed k h some = scaled_small (mix _) k (mix_small _ (modulo_small _)) some

-- ---- sums

total : (ℕ → ℕ) → ℕ → ℕ
total c zero = 0
total c (suc p) = total c p + c p

total_same : (c d : ℕ → ℕ) (p : ℕ) → ((q : ℕ) → c q ≡ d q) → total c p ≡ total d p
unfolding total
total_same c d zero same = refl
total_same c d (suc p) same = omega (arith, total_same c d p same, same p)

total_both : (c d : ℕ → ℕ) (p : ℕ) → total (λ q. c q + d q) p ≡ total c p + total d p
unfolding total
total_both c d zero = refl
total_both c d (suc p) = omega (arith, total_both c d p)

total_zero : (p : ℕ) → total (λ q. 0) p ≡ 0
unfolding total
total_zero zero = refl
total_zero (suc p) = omega (arith, total_zero p)

-- one where x is
hit : ℕ → ℕ → ℕ
hit x q = cond (x == q) 1 0

hit_other : (x q : ℕ) → (x ≡ q → ⊥) → hit x q ≡ 0
unfolding hit
hit_other x q ne = rw (ne_eqb x q ne) refl

hit_same : (x q : ℕ) → x ≡ q → hit x q ≡ 1
unfolding hit
hit_same x q is = rw (eq-eqb x q is) refl

total_missed : (x p : ℕ) → p ≤ x → total (hit x) p ≡ 0
unfolding total
total_missed x zero le = refl
total_missed x (suc p) le = omega (arith, total_missed x p (omega arith), hit_other x p (λ e. omega (arith, e)))

total_hit : (x p : ℕ) → x < p → total (hit x) p ≡ 1
unfolding total
total_hit x zero lt = absurd (omega arith)
total_hit x (suc p) lt =
    elim (cases_lt x p) [
      | inl less ↦ omega (arith, total_hit x p less, hit_other x p (λ e. omega (arith, e)))
      | inr ge ↦ let same : x ≡ p = omega arith in omega (arith, total_missed x p ge, hit_same x p same)
    ]

total_few : (c : ℕ → ℕ) (p : ℕ) → ((q : ℕ) → c q ≤ 1) → total c p ≤ p
unfolding total
total_few c zero few = omega arith
total_few c (suc p) few = omega (arith, total_few c p few, few p)

total_gap : (c : ℕ → ℕ) (p m : ℕ) → ((q : ℕ) → c q ≤ 1) → total c (p + m) ≤ total c p + m
unfolding total
total_gap c p zero few = let e : p + 0 ≡ p = omega arith in rw e (omega arith)
total_gap c p (suc m) few = let e : p + suc m ≡ suc (p + m) = omega arith in rw e (omega (arith, total_gap c p m few, few (p + m)))

-- as many as can be, so each at its place
total_exact : (c : ℕ → ℕ) (k p : ℕ) → ((q : ℕ) → c q ≤ 1) → total c k ≡ k → p ≤ k → total c p ≡ p
total_exact c k p few all le =
    let e : p + (k - p) ≡ k = omega arith in
    omega (arith, total_few c p few, total_gap c p (k - p) few, ap (total c) e, all)

-- ---- the keys at each position

at_place : (HashedKey → ℕ) → List HashedKey → ℕ → List HashedKey
at_place f keys q = filter (λ key. f key == q) keys

count_at : (HashedKey → ℕ) → List HashedKey → ℕ → ℕ
count_at f keys q = length (at_place f keys q)

length_cond : (b : Bool) (x : HashedKey) (xs : List HashedKey) → length (cond b (x ∷ xs) xs) ≡ cond b 1 0 + length xs
length_cond true x xs = omega arith
length_cond false x xs = omega arith

count_more : (f : HashedKey → ℕ) (key : HashedKey) (keys : List HashedKey) (q : ℕ) → count_at f (key ∷ keys) q ≡ hit (f key) q + count_at f keys q
unfolding count_at at_place hit
count_more f key keys q = length_cond (f key == q) key (filter (λ k. f k == q) keys)

-- all keys are at some place below
total_count : (f : HashedKey → ℕ) (keys : List HashedKey) (p : ℕ) → AllByRecursion (λ key. f key < p) keys → total (count_at f keys) p ≡ length keys
unfolding count_at at_place
total_count f [] p all = total_zero p
total_count f (key ∷ keys) p all =
    total_same (count_at f (key ∷ keys)) (λ q. hit (f key) q + count_at f keys q) p (count_more f key keys) ∙ total_both (hit (f key)) (count_at f keys) p
    ∙ omega (arith, total_hit (f key) p all.0, total_count f keys p all.1)

-- not more of them than there are
total_less : (f : HashedKey → ℕ) (keys : List HashedKey) (p : ℕ) → total (count_at f keys) p ≤ length keys
unfolding count_at at_place
total_less f [] p = omega (arith, total_zero p)
total_less f (key ∷ keys) p =
    let parts = total_same (count_at f (key ∷ keys)) (λ q. hit (f key) q + count_at f keys q) p (count_more f key keys) ∙ total_both (hit (f key)) (count_at f keys) p in
    elim (cases_lt (f key) p) [
      | inl lt ↦ omega (arith, parts, total_hit (f key) p lt, total_less f keys p)
      | inr ge ↦ omega (arith, parts, total_missed (f key) p ge, total_less f keys p)
    ]

-- how many keys the buckets before i have
pub bucket_total : ℕ → List HashedKey → ℕ → ℕ
bucket_total buckets keys i = total (count_at (λ key. scaled key.hash buckets) keys) i

pub bucket_total_none : (buckets : ℕ) (keys : List HashedKey) → bucket_total buckets keys 0 ≡ 0
unfolding bucket_total total
bucket_total_none buckets keys = refl

pub bucket_total_more : (buckets : ℕ) (keys : List HashedKey) (i : ℕ) → bucket_total buckets keys (i + 1) ≡ bucket_total buckets keys i + length (bucket_keys buckets keys i)
unfolding bucket_total total count_at at_place bucket_keys
bucket_total_more buckets keys i =
    let more : i + 1 ≡ suc i = omega arith in
    ap (total (count_at (λ key. scaled key.hash buckets) keys)) more

pub bucket_total_few : (buckets : ℕ) (keys : List HashedKey) (i : ℕ) → bucket_total buckets keys i ≤ length keys
unfolding bucket_total
bucket_total_few buckets keys i = total_less (λ key. scaled key.hash buckets) keys i

range_end : (a p q : ℕ) → a + p ≡ q → range_with_len a (suc p) ≡ range_with_len a p ++ q ∷ []
range_end a zero q is = let e : a ≡ q = omega (arith, is) in ap (λ (n : ℕ). n ∷ []) e
range_end a (suc p) q is = ap (λ (l : List ℕ). a ∷ l) (range_end (a + 1) p q (omega (arith, is)))

flat_count : (f : HashedKey → ℕ) (keys : List HashedKey) (p : ℕ) → length (flat_map (at_place f keys) (range_with_len 0 p)) ≡ total (count_at f keys) p
unfolding total count_at
flat_count f keys zero = refl
flat_count f keys (suc p) =
    let more : range_with_len 0 (suc p) ≡ range_with_len 0 p ++ p ∷ [] = range_end 0 p p (zero-add p) in
    ap (λ (l : List ℕ). length (flat_map (at_place f keys) l)) more ∙ ap length (flat_map-append (at_place f keys) (range_with_len 0 p) (p ∷ []))
    ∙ length-append (flat_map (at_place f keys) (range_with_len 0 p)) (at_place f keys p ++ [])
    ∙ omega (arith, flat_count f keys p, ap length (append-nil (at_place f keys p)))

-- ---- different positions

parted : (a b : Bool) → (not a && b) ≡ true → (a ≡ false) × (b ≡ true)
parted true b e = absurd cc
parted false b e = (refl, e)

not_first : (x : ℕ) (before xs : List ℕ) → all_new before (x ∷ xs) ≡ true → (is_among x before ≡ false) × (all_new (x ∷ before) xs ≡ true)
unfolding all_new
not_first x before xs is = parted (is_among x before) (all_new (x ∷ before) xs) is

one_by : (f : HashedKey → ℕ) (key : HashedKey) (keys : List HashedKey) (before : List ℕ) (p : ℕ) (b : Bool) → (f key == p) ≡ b → is_among (f key) before ≡ false
    → ((is_among p (f key ∷ before) ≡ true → at_place f keys p ≡ []) × (length (at_place f keys p) ≤ 1))
    → (is_among p before ≡ true → cond b (key ∷ at_place f keys p) (at_place f keys p) ≡ []) × (length (cond b (key ∷ at_place f keys p) (at_place f keys p)) ≤ 1)
one_by f key keys before p true is new rest =
    let same : f key ≡ p = eqb-true (f key) p is in
    let none : at_place f keys p ≡ [] = rest.0 (rw is refl) in
    (λ among. absurd (differ (sym among ∙ ap (λ (x : ℕ). is_among x before) (sym same) ∙ new)), omega (arith, ap length none))
one_by f key keys before p false is new rest = (λ among. rest.0 (rw is among), rest.1)

one_each : (f : HashedKey → ℕ) (keys : List HashedKey) (before : List ℕ) → all_new before (map f keys) ≡ true → (p : ℕ) → (is_among p before ≡ true → at_place f keys p ≡ []) × (length (at_place f keys p) ≤ 1)
unfolding at_place
one_each f [] before new p = (λ among. refl, omega arith)
one_each f (key ∷ keys) before new p =
    let first = not_first (f key) before (map f keys) new in
    one_by f key keys before p (f key == p) refl first.0 (one_each f keys (f key ∷ before) first.1 p)

none_by : (t : HashedKey → Bool) (x : HashedKey) (xs : List HashedKey) (b : Bool) → t x ≡ b → (filter t xs ≡ [] → AllByRecursion (λ e. t e ≡ true → ⊥) xs) → cond b (x ∷ filter t xs) (filter t xs) ≡ [] → AllByRecursion (λ e. t e ≡ true → ⊥) (x ∷ xs)
none_by t x xs true is rest none = absurd cc
none_by t x xs false is rest none = (λ passes. differ (sym passes ∙ is), rest none)

none_there : (t : HashedKey → Bool) (xs : List HashedKey) → filter t xs ≡ [] → AllByRecursion (λ e. t e ≡ true → ⊥) xs
none_there t [] none = tt
none_there t (x ∷ xs) none = none_by t x xs (t x) refl (none_there t xs) none

empty : (xs : List HashedKey) → length xs ≤ 0 → xs ≡ []
empty [] le = refl
empty (x ∷ xs) le = absurd (omega arith)

single_by : (t : HashedKey → Bool) (x : HashedKey) (xs : List HashedKey) (b : Bool) → t x ≡ b → (length (filter t xs) ≤ 1 → AllByRecursion (λ e. t e ≡ true → filter t xs ≡ e ∷ []) xs) → length (cond b (x ∷ filter t xs) (filter t xs)) ≤ 1
    → AllByRecursion (λ e. t e ≡ true → cond b (x ∷ filter t xs) (filter t xs) ≡ e ∷ []) (x ∷ xs)
single_by t x xs true is rest few =
    let none : filter t xs ≡ [] = empty (filter t xs) (omega (arith, few)) in
    (λ passes. ap (λ (l : List HashedKey). x ∷ l) none, all_weaker _ _ xs (λ e not passes. absurd (not passes)) (none_there t xs none))
single_by t x xs false is rest few = (λ passes. absurd (differ (sym passes ∙ is)), rest few)

single : (t : HashedKey → Bool) (xs : List HashedKey) → length (filter t xs) ≤ 1 → AllByRecursion (λ e. t e ≡ true → filter t xs ≡ e ∷ []) xs
single t [] few = tt
single t (x ∷ xs) few = single_by t x xs (t x) refl (single t xs) few

-- ---- by position

range_split : (a p m : ℕ) → range_with_len a (p + suc m) ≡ range_with_len a p ++ (a + p) ∷ range_with_len (a + p + 1) m
range_split a zero m =
    let e : 0 + suc m ≡ suc m = omega arith in
    let z : a + 0 ≡ a = omega arith in
    rw (e, z) refl
range_split a (suc p) m =
    let e : suc p + suc m ≡ suc (p + suc m) = omega arith in
    let z : a + suc p ≡ a + 1 + p = omega arith in
    rw (e, z) (ap (λ (l : List ℕ). a ∷ l) (range_split (a + 1) p m))

pub length-by_position : (f : HashedKey → ℕ) (keys : List HashedKey) → AllByRecursion (λ key. f key < length keys) keys → length (by_position f keys) ≡ length keys
unfolding by_position at_place
length-by_position f keys all = flat_count f keys (length keys) ∙ total_count f keys (length keys) all

pub all-by_position : (P : HashedKey → Type 0) (f : HashedKey → ℕ) (keys : List HashedKey) → AllByRecursion P keys → AllByRecursion P (by_position f keys)
unfolding by_position
all-by_position P f keys all = all_flat P (λ p. filter (λ key. f key == p) keys) (range_with_len 0 (length keys)) (λ p. all_filtered P (λ key. f key == p) keys all)

slot_here : (f : HashedKey → ℕ) (keys : List HashedKey) (p : ℕ) (e : HashedKey) → ((q : ℕ) → count_at f keys q ≤ 1) → AllByRecursion (λ key. f key < length keys) keys → p < length keys → at_place f keys p ≡ e ∷ [] → slice_get (by_position f keys) p ≡ Some e
unfolding by_position at_place
slot_here f keys p e few all lt here =
    let k = length keys in
    let m = k - p - 1 in
    let cut : p + suc m ≡ k = omega arith in
    let front = flat_map (at_place f keys) (range_with_len 0 p) in
    let back = flat_map (at_place f keys) (range_with_len (0 + p + 1) m) in
    let range : range_with_len 0 k ≡ range_with_len 0 p ++ p ∷ range_with_len (0 + p + 1) m =
    ap (range_with_len 0) (sym cut) ∙ range_split 0 p m ∙ ap (λ (n : ℕ). range_with_len 0 p ++ n ∷ range_with_len (0 + p + 1) m) (zero-add p)
    in
    let parts : flat_map (at_place f keys) (range_with_len 0 k) ≡ front ++ e ∷ back =
    ap (flat_map (at_place f keys)) range ∙ flat_map-append (at_place f keys) (range_with_len 0 p) (p ∷ range_with_len (0 + p + 1) m) ∙ ap (λ (l : List HashedKey). front ++ (l ++ back)) here
    in
    let len : length front ≡ p = flat_count f keys p ∙ total_exact (count_at f keys) k p few (total_count f keys k all) (omega arith) in
    ap (λ (l : List HashedKey). slice_get l p) parts ∙ get_after front e back p len

-- the slot of each key is its position
pub slots-by_position : (f : HashedKey → ℕ) (keys : List HashedKey) (p : ℕ) → all_differ (map f keys) ≡ true → AllByRecursion (λ key. f key < length keys) keys → p < length keys → AllByRecursion (λ e. f e ≡ p → slice_get (by_position f keys) p ≡ Some e) keys
unfolding at_place count_at
slots-by_position f keys p distinct all lt =
    let each = one_each f keys [] distinct in
    all_weaker (λ e. (f e == p) ≡ true → filter (λ key. f key == p) keys ≡ e ∷ []) (λ e. f e ≡ p → slice_get (by_position f keys) p ≡ Some e) keys
    (λ e only is. slot_here f keys p e (λ q. (each q).1) all lt (only (eq-eqb (f e) p is)))
    (single (λ key. f key == p) keys (each p).1)
