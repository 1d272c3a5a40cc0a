-- The keys in ascending order.
use Rattle.std.proofs.Common.{◌≡◌, ℕ, zero, suc, ◌+◌, ◌-◌, ◌*◌, ◌/◌, ◌^◌, ◌<◌, ◌≤◌, Bool, true, List, [], ◌∷◌, length, map, get_or, refl, sym, ap, subst, ◌∙◌, arith, inl, inr, ◌⊎◌}
use Rattle.std.specs.Prelude.{⊤}
use Rattle.std.specs.List.{AllByRecursion}
use Rattle.std.specs.Ordering.{nat_cmp, match_ordering}
use Rattle.std.specs.Ordering.{ordering_reverse, is_eq}
use Rattle.std.specs.Cmp.Lexicographic.{slice_cmp, nat_list_cmp_total}
use Rattle.std.specs.declared.cmp.Ordering.{Ordering}
use Rattle.std.specs.declared.cmp.Ordering.TheVariants.{Less, Equal, Greater}
use Rattle.std.specs.BTreeMap.{insert_entry}
use Rattle.std.proofs.lemmas.Map.Lookups.{exact_bytes}
use Rattle.std.proofs.lemmas.Bool.{cases_lt}
use Rattle.std.proofs.lemmas.Grind.{pow_more}
use Rattle.std.proofs.lemmas.List.{get_or-map}
use Rattle.std.proofs.Math.Nat.{mul-le-mul_right, pow-le-pow_right}
use Rattle.word_file.specs.Paired.{key_count, key_at, key_offset}
use Rattle.recsplit_index.specs.Keys.{first_by_key, by_key, IsKeyAt, IsNoKey}
use Rattle.word_file.proofs.Ascents.{not_equal, self_less, self_greater}
use Rattle.recsplit_index.proofs.Every.{all_weaker, all_at}

-- each entry's key is below those after it
Ascends : List (List ℕ × ℕ) → Type 0
Ascends [] = ⊤
Ascends (e ∷ es) = AllByRecursion (λ f. slice_cmp nat_cmp e.0 f.0 ≡ Less) es × Ascends es

flipped : (a b : List ℕ) (r : Ordering) → slice_cmp nat_cmp a b ≡ r → slice_cmp nat_cmp b a ≡ ordering_reverse r
flipped a b r is = nat_list_cmp_total.antisymm b a ∙ ap ordering_reverse is

-- what holds of the entries and of what is put in
inserted_by : (P : List ℕ × ℕ → Type 0) (k : List ℕ) (v : ℕ) (e : List ℕ × ℕ) (es : List (List ℕ × ℕ)) (r : Ordering) → slice_cmp nat_cmp k e.0 ≡ r → P (k, v) → P e → (k ≡ e.0 → P (e.0, v)) → AllByRecursion P es → AllByRecursion P (insert_entry (slice_cmp nat_cmp) es k v)
    → AllByRecursion P (match_ordering r ((k, v) ∷ e ∷ es) ((e.0, v) ∷ es) (e ∷ insert_entry (slice_cmp nat_cmp) es k v))
inserted_by P k v e es Less is put here same rest inserted = (put, (here, rest))
inserted_by P k v e es Equal is put here same rest inserted = (same (exact_bytes k e.0 is), rest)
inserted_by P k v e es Greater is put here same rest inserted = (here, inserted)

all_inserted : (P : List ℕ × ℕ → Type 0) (k : List ℕ) (v : ℕ) (es : List (List ℕ × ℕ)) → P (k, v) → ((j : List ℕ) → k ≡ j → P (j, v)) → AllByRecursion P es → AllByRecursion P (insert_entry (slice_cmp nat_cmp) es k v)
all_inserted P k v [] put same all = (put, tt)
all_inserted P k v (e ∷ es) put same all = inserted_by P k v e es (slice_cmp nat_cmp k e.0) refl put all.0 (same e.0) all.1 (all_inserted P k v es put same all.1)

ascends_by : (k : List ℕ) (v : ℕ) (e : List ℕ × ℕ) (es : List (List ℕ × ℕ)) (r : Ordering) → slice_cmp nat_cmp k e.0 ≡ r → Ascends (e ∷ es) → Ascends (insert_entry (slice_cmp nat_cmp) es k v)
    → Ascends (match_ordering r ((k, v) ∷ e ∷ es) ((e.0, v) ∷ es) (e ∷ insert_entry (slice_cmp nat_cmp) es k v))
unfolding Ascends
ascends_by k v e es Less is up rest = ((is, all_weaker _ _ es (λ f below. nat_list_cmp_total.trans k e.0 f.0 is below) up.0), up)
ascends_by k v e es Equal is up rest = up
ascends_by k v e es Greater is up rest =
    let above : slice_cmp nat_cmp e.0 k ≡ Less = flipped k e.0 Greater is in
    (all_inserted (λ f. slice_cmp nat_cmp e.0 f.0 ≡ Less) k v es above (λ j same. ap (slice_cmp nat_cmp e.0) (sym same) ∙ above) up.0, rest)

ascends_more : (k : List ℕ) (v : ℕ) (es : List (List ℕ × ℕ)) → Ascends es → Ascends (insert_entry (slice_cmp nat_cmp) es k v)
unfolding Ascends
ascends_more k v [] up = (tt, tt)
ascends_more k v (e ∷ es) up = ascends_by k v e es (slice_cmp nat_cmp k e.0) refl up (ascends_more k v es up.1)

-- an entry has the key
Has : List (List ℕ × ℕ) → List ℕ → Type 0
Has [] k = ⊥
Has (e ∷ es) k = (e.0 ≡ k) ⊎ Has es k

put_by : (k : List ℕ) (v : ℕ) (e : List ℕ × ℕ) (es : List (List ℕ × ℕ)) (r : Ordering) → slice_cmp nat_cmp k e.0 ≡ r → Has (insert_entry (slice_cmp nat_cmp) es k v) k → Has (match_ordering r ((k, v) ∷ e ∷ es) ((e.0, v) ∷ es) (e ∷ insert_entry (slice_cmp nat_cmp) es k v)) k
unfolding Has
put_by k v e es Less is rest = inl refl
put_by k v e es Equal is rest = inl (sym (exact_bytes k e.0 is))
put_by k v e es Greater is rest = inr rest

has_put : (k : List ℕ) (v : ℕ) (es : List (List ℕ × ℕ)) → Has (insert_entry (slice_cmp nat_cmp) es k v) k
unfolding Has
has_put k v [] = inl refl
has_put k v (e ∷ es) = put_by k v e es (slice_cmp nat_cmp k e.0) refl (has_put k v es)

kept_by : (k : List ℕ) (v : ℕ) (q : List ℕ) (e : List ℕ × ℕ) (es : List (List ℕ × ℕ)) (r : Ordering) → Has (e ∷ es) q → (Has es q → Has (insert_entry (slice_cmp nat_cmp) es k v) q) → Has (match_ordering r ((k, v) ∷ e ∷ es) ((e.0, v) ∷ es) (e ∷ insert_entry (slice_cmp nat_cmp) es k v)) q
unfolding Has
kept_by k v q e es Less has rest = inr has
kept_by k v q e es Equal (inl here) rest = inl here
kept_by k v q e es Equal (inr there) rest = inr there
kept_by k v q e es Greater (inl here) rest = inl here
kept_by k v q e es Greater (inr there) rest = inr (rest there)

has_kept : (k : List ℕ) (v : ℕ) (q : List ℕ) (es : List (List ℕ × ℕ)) → Has es q → Has (insert_entry (slice_cmp nat_cmp) es k v) q
unfolding Has
has_kept k v q [] has = absurd has
has_kept k v q (e ∷ es) has = kept_by k v q e es (slice_cmp nat_cmp k e.0) has (has_kept k v q es)

-- ---- the keys of a list of words

sorted_ascends : (words : List (List ℕ)) (n : ℕ) → Ascends (first_by_key words n)
unfolding first_by_key Ascends
sorted_ascends words zero = tt
sorted_ascends words (suc n) = ascends_more (key_at words n) (key_offset words n) (first_by_key words n) (sorted_ascends words n)

sorted_keys : (words : List (List ℕ)) (n : ℕ) → n ≤ key_count words → AllByRecursion (λ e. IsKeyAt words e.0 e.1) (first_by_key words n)
unfolding first_by_key
sorted_keys words zero le = tt
sorted_keys words (suc n) le =
    all_inserted (λ e. IsKeyAt words e.0 e.1) (key_at words n) (key_offset words n) (first_by_key words n) (record { place = n; within = omega arith; key_is = refl; offset_is = refl })
    (λ j same. record { place = n; within = omega arith; key_is = same; offset_is = refl }) (sorted_keys words n (omega arith))

has_by : (words : List (List ℕ)) (n p : ℕ) → (p < n → Has (first_by_key words n) (key_at words p)) → p < suc n → Has (insert_entry (slice_cmp nat_cmp) (first_by_key words n) (key_at words n) (key_offset words n)) (key_at words p)
has_by words n p rest lt =
    elim (cases_lt p n) [
      | inl less ↦ has_kept (key_at words n) (key_offset words n) (key_at words p) (first_by_key words n) (rest less)
      | inr ge ↦
          let same : n ≡ p = omega arith in
          let K : ℕ → Type 0 = λ (q : ℕ). Has (insert_entry (slice_cmp nat_cmp) (first_by_key words n) (key_at words n) (key_offset words n)) (key_at words q) in
          subst K same (has_put (key_at words n) (key_offset words n) (first_by_key words n))
    ]

sorted_has : (words : List (List ℕ)) (n p : ℕ) → p < n → Has (first_by_key words n) (key_at words p)
unfolding first_by_key
sorted_has words zero p lt = absurd (omega arith)
sorted_has words (suc n) p lt = has_by words n p (sorted_has words n p) lt

-- ---- by place

pub entry : List (List ℕ × ℕ) → ℕ → List ℕ × ℕ
entry es i = get_or es i ([], 0)

has_place : (es : List (List ℕ × ℕ)) (q : List ℕ) → Has es q → (i : ℕ) × (i < length es) × ((entry es i).0 ≡ q)
unfolding Has entry
has_place [] q has = absurd has
has_place (e ∷ es) q (inl here) = (0, omega arith, here)
has_place (e ∷ es) q (inr there) = let rest = has_place es q there in (suc rest.0, omega (arith, rest.1), rest.2)

ascends_at : (es : List (List ℕ × ℕ)) (i j : ℕ) → Ascends es → i < j → j < length es → slice_cmp nat_cmp (entry es i).0 (entry es j).0 ≡ Less
unfolding Ascends entry
ascends_at [] i j up lt less = absurd (omega arith)
ascends_at (e ∷ es) zero zero up lt less = absurd (omega arith)
ascends_at (e ∷ es) zero (suc j) up lt less = all_at (λ f. slice_cmp nat_cmp e.0 f.0 ≡ Less) es j ([], 0) (omega arith) up.0
ascends_at (e ∷ es) (suc i) zero up lt less = absurd (omega arith)
ascends_at (e ∷ es) (suc i) (suc j) up lt less = ascends_at es i j up.1 (omega arith) (omega arith)

pub entry_key : (words : List (List ℕ)) (i : ℕ) → i < length (by_key words) → IsKeyAt words (entry (by_key words) i).0 (entry (by_key words) i).1
unfolding entry
entry_key words i lt = all_at (λ e. IsKeyAt words e.0 e.1) (by_key words) i ([], 0) lt (sorted_keys words (key_count words) (omega arith))

pub entry_offset : (words : List (List ℕ)) (i : ℕ) → i < length (by_key words) → get_or (map (λ e. e.1) (by_key words)) i 0 ≡ (entry (by_key words) i).1
unfolding entry
entry_offset words i lt = get_or-map (λ e. e.1) (by_key words) i ([], 0) 0 lt

length_by : (k : List ℕ) (v : ℕ) (e : List ℕ × ℕ) (es : List (List ℕ × ℕ)) (r : Ordering) → length (insert_entry (slice_cmp nat_cmp) es k v) ≤ suc (length es) → length (match_ordering r ((k, v) ∷ e ∷ es) ((e.0, v) ∷ es) (e ∷ insert_entry (slice_cmp nat_cmp) es k v)) ≤ suc (suc (length es))
length_by k v e es Less rest = omega arith
length_by k v e es Equal rest = omega arith
length_by k v e es Greater rest = omega (arith, rest)

length_put : (k : List ℕ) (v : ℕ) (es : List (List ℕ × ℕ)) → length (insert_entry (slice_cmp nat_cmp) es k v) ≤ suc (length es)
length_put k v [] = omega arith
length_put k v (e ∷ es) = length_by k v e es (slice_cmp nat_cmp k e.0) (length_put k v es)

sorted_long : (words : List (List ℕ)) (n : ℕ) → length (first_by_key words n) ≤ n
unfolding first_by_key
sorted_long words zero = omega arith
sorted_long words (suc n) = omega (arith, length_put (key_at words n) (key_offset words n) (first_by_key words n), sorted_long words n)

-- ---- a search by halves

-- the entries before low are below the key, and those from high on above
pub record IsHalving (words : List (List ℕ)) (key : List ℕ) (low high before now : ℕ) : Type 0 where
  pub order : low ≤ high
  pub within : high ≤ length (by_key words)
  pub below : (i : ℕ) → i < low → slice_cmp nat_cmp (entry (by_key words) i).0 key ≡ Less
  pub above : (i : ℕ) → high ≤ i → i < length (by_key words) → slice_cmp nat_cmp (entry (by_key words) i).0 key ≡ Greater
  pub probes : ℕ
  pub taken : now ≡ before + probes
  pub few : (high - low) * 2 ^ probes ≤ length (by_key words)

pub halving_none : (words : List (List ℕ)) (key : List ℕ) (count steps : ℕ) → count ≡ length (by_key words) → IsHalving words key 0 count steps steps
halving_none words key count steps is = record {
  order = omega arith;
  within = omega (arith, is);
  below = λ i lt. absurd (omega arith);
  above = λ i ge lt. absurd (omega (arith, is));
  probes = 0;
  taken = omega arith;
  few = omega (arith, is);
}

halved : (d rest probes n : ℕ) → 2 * rest ≤ d → d * 2 ^ probes ≤ n → rest * 2 ^ (probes + 1) ≤ n
halved d rest probes n half few =
    let double : 2 ^ (probes + 1) ≡ 2 ^ probes * 2 = pow_more 2 probes in
    let less : 2 * rest * 2 ^ probes ≤ d * 2 ^ probes = mul-le-mul_right (2 ^ probes) half in
    let same : rest * (2 ^ probes * 2) ≡ 2 * rest * 2 ^ probes = omega arith in
    rw double (omega (arith, less, same))

pub goes_up : (words : List (List ℕ)) (key : List ℕ) (low high middle before now after : ℕ) → low < high → middle ≡ low + (high - low) / 2 → after ≡ now + 1 → slice_cmp nat_cmp (entry (by_key words) middle).0 key ≡ Less → IsHalving words key low high before now → IsHalving words key (middle + 1) high before after
goes_up words key low high middle before now after lt is step less h = record {
  order = omega arith;
  within = h.within;
  below = λ i small.
      elim (cases_lt i middle) [
        | inl before_it ↦ nat_list_cmp_total.trans (entry (by_key words) i).0 (entry (by_key words) middle).0 key (ascends_at (by_key words) i middle (sorted_ascends words (key_count words)) before_it (omega (arith, h.within))) less
        | inr ge ↦ let same : i ≡ middle = omega arith in ap (λ (j : ℕ). slice_cmp nat_cmp (entry (by_key words) j).0 key) same ∙ less
      ];
  above = h.above;
  probes = h.probes + 1;
  taken = omega (arith, h.taken);
  few = halved (high - low) (high - (middle + 1)) h.probes (length (by_key words)) (omega arith) h.few;
}

greater_up : (a b key : List ℕ) → slice_cmp nat_cmp a key ≡ Greater → slice_cmp nat_cmp a b ≡ Less → slice_cmp nat_cmp b key ≡ Greater
greater_up a b key above up = flipped key b Less (nat_list_cmp_total.trans key a b (flipped a key Greater above) up)

pub goes_down : (words : List (List ℕ)) (key : List ℕ) (low high middle before now after : ℕ) → low < high → middle ≡ low + (high - low) / 2 → after ≡ now + 1 → slice_cmp nat_cmp (entry (by_key words) middle).0 key ≡ Greater → IsHalving words key low high before now → IsHalving words key low middle before after
goes_down words key low high middle before now after lt is step greater h = record {
  order = omega arith;
  within = omega (arith, h.within);
  below = h.below;
  above = λ i ge small.
      elim (cases_lt middle i) [
        | inl after_it ↦ greater_up (entry (by_key words) middle).0 (entry (by_key words) i).0 key greater (ascends_at (by_key words) middle i (sorted_ascends words (key_count words)) after_it small)
        | inr le ↦ let same : i ≡ middle = omega arith in ap (λ (j : ℕ). slice_cmp nat_cmp (entry (by_key words) j).0 key) same ∙ greater
      ];
  probes = h.probes + 1;
  taken = omega (arith, h.taken);
  few = halved (high - low) (middle - low) h.probes (length (by_key words)) (omega arith) h.few;
}

-- none is left
pub halving_all : (words : List (List ℕ)) (key : List ℕ) (low high before now : ℕ) → high ≤ low → IsHalving words key low high before now → IsNoKey words key
halving_all words key low high before now all h = λ place within is.
    let found = has_place (by_key words) (key_at words place) (sorted_has words (key_count words) place within) in
    let same : (entry (by_key words) found.0).0 ≡ key = found.2 ∙ is in
    elim (cases_lt found.0 low) [
      | inl lt ↦ self_less key (not_equal (entry (by_key words) found.0).0 key Less (h.below found.0 lt) same)
      | inr ge ↦ self_greater key (not_equal (entry (by_key words) found.0).0 key Greater (h.above found.0 (omega (arith, h.order)) found.1) same)
    ]

probes_small : (d probes n digits : ℕ) → 0 < d → d * 2 ^ probes ≤ n → n < 2 ^ digits → probes < digits
probes_small d probes n digits some few many =
    elim (cases_lt probes digits) [
      | inl lt ↦ lt
      | inr ge ↦
          let two : 0 < 2 = omega arith in
          let more : 2 ^ digits ≤ 2 ^ probes = pow-le-pow_right two ge in
          let one : 1 * 2 ^ probes ≤ d * 2 ^ probes = mul-le-mul_right (2 ^ probes) (omega arith) in
          absurd (omega (arith, more, one))
    ]

-- one probe more is no more than the digits
pub probe_few : (words : List (List ℕ)) (key : List ℕ) (low high before now digits : ℕ) → low < high → IsHalving words key low high before now → key_count words < 2 ^ digits → now + 1 ≤ before + digits
probe_few words key low high before now digits lt h many =
    omega (arith, h.taken, probes_small (high - low) h.probes (key_count words) digits (omega arith) (omega (arith, h.few, sorted_long words (key_count words))) many)

-- the words read so far
pub record IsCounted (words : List (List ℕ)) (before now : ℕ) : Type 0 where
  pub each : (digits : ℕ) → key_count words < 2 ^ digits → now ≤ before + digits

pub entry_found : (words : List (List ℕ)) (key : List ℕ) (i offset : ℕ) → i < length (by_key words) → offset ≡ (entry (by_key words) i).1 → slice_cmp nat_cmp (entry (by_key words) i).0 key ≡ Equal → IsKeyAt words key offset
entry_found words key i offset lt is equal =
    let there = entry_key words i lt in
    record { place = there.place; within = there.within; key_is = there.key_is ∙ exact_bytes (entry (by_key words) i).0 key equal; offset_is = is ∙ there.offset_is }

-- ---- whether a word is the key

equal_from : (o : Ordering) → is_eq o ≡ true → o ≡ Equal
equal_from Less is = absurd cc
equal_from Equal is = refl
equal_from Greater is = absurd cc

self_equal : (q : List ℕ) (o : Ordering) → slice_cmp nat_cmp q q ≡ o → o ≡ Equal
self_equal q Less is = absurd (self_less q is)
self_equal q Equal is = refl
self_equal q Greater is = absurd (self_greater q is)

pub same_from : (a b : List ℕ) (o : Ordering) (r : Bool) → o ≡ slice_cmp nat_cmp a b → r ≡ is_eq o → r ≡ true → a ≡ b
same_from a b o r o-is r-is t = exact_bytes a b (sym o-is ∙ equal_from o (sym r-is ∙ t))

pub same_to : (a b : List ℕ) (o : Ordering) (r : Bool) → o ≡ slice_cmp nat_cmp a b → r ≡ is_eq o → a ≡ b → r ≡ true
same_to a b o r o-is r-is same =
    let self : o ≡ slice_cmp nat_cmp b b = o-is ∙ ap (λ (x : List ℕ). slice_cmp nat_cmp x b) same in
    r-is ∙ ap is_eq (self_equal b o (sym self))
