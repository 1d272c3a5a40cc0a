-- The keys of an `.ef` file, from one on.
use Rattle.std.proofs.Common.{◌≡◌, ℕ, zero, suc, ◌+◌, ◌*◌, ◌<◌, ◌≤◌, Bool, true, false, cond, nat_eq, List, [], ◌∷◌, length, get_or, map, Option, Some, None, slice_get, refl, sym, ap, subst, ◌∙◌, arith}
use Rattle.std.specs.Prelude.{IfSome, IfNone, nat_lt, not, unwrap_or}
use Rattle.std.specs.Ordering.{nat_cmp, is_lt, is_eq, ordering_reverse}
use Rattle.std.specs.Cmp.Lexicographic.{pointwise, slice_cmp, texts_ties, nat_list_cmp_total}
use Rattle.std.specs.FinMap.{nat_cmp-IsAntisymmetric, slice_cmp-IsAntisymmetric}
use Rattle.std.specs.declared.cmp.Ordering.{Ordering}
use Rattle.std.specs.declared.cmp.Ordering.TheVariants.{Less, Equal, Greater}
use Rattle.std.proofs.lemmas.Bool.{ltb-false, ltb-true}
use Rattle.agg_model.specs.declared.contents.Times.{Times}
use Rattle.agg_model.specs.Listed.{is_from, is_under}
use Rattle.agg_model.specs.Pairs.{IsBelow, KeysAscend}
use Rattle.word_file.specs.Spelling.{IsPlace, offset_at, offset_of}
use Rattle.word_file.specs.Paired as file
use Rattle.recsplit_index.specs.Keys.{IsKeyAt}
use Rattle.hashed_words.specs.Hashed.{IsPairAt}
use Rattle.hashed_words.proofs.PairedLaws.{IsPaired-paired_words, key_at-paired_words, KeysAscend-at}
use Rattle.inverted_index.specs.EfFile.{list_keys, pair_of, words_of, numbers_of}
use Rattle.inverted_index.proofs.ListWords.{keys-pairs, key_count-words_of}
use Rattle.window_laws.specs.Pages.{IsNext}
use Rattle.window_pages.specs.Places.{next_from}
use Rattle.window_pages.specs.Starts.{key_in, IsStart}

abbrev pub order : List ℕ → List ℕ → Ordering
order k l = slice_cmp nat_cmp k l

-- ---- the order of two keys

pub below-is : (r : Ordering) → is_lt r ≡ true → r ≡ Less
below-is Less h = refl
below-is Equal h = cc
below-is Greater h = cc

not-itself : (r : Ordering) → r ≡ ordering_reverse r → is_lt r ≡ false
not-itself Less h = cc
not-itself Equal h = refl
not-itself Greater h = refl

-- two keys that aren't the same
differ : (k l : List ℕ) → (k ≡ l → ⊥) → pointwise nat_eq k l ≡ false
differ k l unlike = texts_ties k l ∙ by (order k l) refl
  where
    by : (r : Ordering) → order k l ≡ r → is_eq r ≡ false
    by Less e = refl
    by Equal e = absurd (unlike (slice_cmp-IsAntisymmetric nat_cmp-IsAntisymmetric k l e))
    by Greater e = refl

-- a key that is below the first one isn't from there on
below-first : (k first : List ℕ) → IsBelow k first → is_from (Some first) k ≡ true → ⊥
below-first k first low from =
    let bad : not (is_lt Less) ≡ true = ap (λ r. not (is_lt r)) (sym low) ∙ from in
    absurd cc

-- what is a key or above it isn't under it
over-key : (m k : List ℕ) → is_lt (order m k) ≡ true → is_under (Some m) k ≡ true → ⊥
over-key m k low under =
    let one = below-is (order m k) low in
    let two = below-is (order k m) under in
    let three : Less ≡ Greater = sym two ∙ nat_list_cmp_total.antisymm k m ∙ ap ordering_reverse one in
    absurd cc

same-key : (m k : List ℕ) → m ≡ k → is_under (Some m) k ≡ true → ⊥
same-key m k same under =
    let one : is_lt (order k k) ≡ true = subst (λ l. is_lt (order k l) ≡ true) same under in
    let two = not-itself (order k k) (nat_list_cmp_total.antisymm k k) in
    absurd cc

-- ---- looks into lists

none-by : (t : Bool) (items : List ℕ) (rest : Option (List ℕ)) → t ≡ false → rest ≡ None → cond t (Some items) rest ≡ None
none-by true items rest h is = cc
none-by false items rest h is = is

-- a key that no list has
pub none-of : (ts : List Times) (k : List ℕ) → ((p : ℕ) → p < length ts → key_in ts p ≡ k → ⊥) → numbers_of ts k ≡ None
none-of [] k unlike = refl
none-of (t ∷ ts) k unlike =
    none-by (pointwise nat_eq t.key k) t.items (numbers_of ts k) (differ t.key k (unlike zero (omega arith)))
    (none-of ts k (λ p below is. unlike (suc p) (omega (arith, below)) is))

module _ (ts : List Times) (first : List ℕ) where
  abbrev found : List ℕ → List ℕ
  found k = unwrap_or (numbers_of ts k) []

  abbrev AreBelow : ℕ → Type 0
  AreBelow place = (p : ℕ) → p < place → IsBelow (key_in ts p) first

  -- the key at the place is the first that isn't
  pub next-found : (place : ℕ) (key : List ℕ) → KeysAscend (list_keys ts) → place < length ts → AreBelow place → key_in ts place ≡ key → is_lt (order key first) ≡ false
      → IsNext (λ k. unwrap_or (numbers_of ts k) []) first (Some key)
  next-found place key up within before is high = record {
    from = ap not high;
    passed = λ k from under. ap (λ o. unwrap_or o []) (none-of ts k (λ p below same. by k from under p below same (nat_lt p place) (nat_lt place p) refl refl));
  }
    where
      keys-long : (us : List Times) → length (list_keys us) ≡ length us
      keys-long [] = refl
      keys-long (u ∷ us) = ap suc (keys-long us)

      by : (k : List ℕ) → is_from (Some first) k ≡ true → is_under (Some key) k ≡ true → (p : ℕ) → p < length ts → key_in ts p ≡ k → (t u : Bool) → nat_lt p place ≡ t → nat_lt place p ≡ u → ⊥
      by k from under p below same true u e f =
          below-first k first (subst (λ l. IsBelow l first) same (before p (ltb-true p place e))) from
      by k from under p below same false true e f =
          let low : IsBelow (key_in ts place) (key_in ts p) = KeysAscend-at (list_keys ts) up place p (ltb-true place p f) (omega (arith, keys-long ts, below)) in
          over-key key k (ap is_lt ((λ i. order (sym is i) (sym same i)) ∙ low)) under
      by k from under p below same false false e f =
          let one : p ≡ place = omega (arith, ltb-false p place e, ltb-false place p f) in
          same-key key k (sym is ∙ ap (key_in ts) (sym one) ∙ same) under

-- ---- offsets of pairs

module _ (ts : List Times) where
  abbrev words : List (List ℕ)
  words = words_of ts

  -- how many words there are
  pub words-long : length (words_of ts) ≡ 2 * length ts
  words-long = sym (IsPaired-paired_words (map pair_of ts)) ∙ ap (λ n. 2 * n) (key_count-words_of ts)

  pub pair-place : (at place : ℕ) → IsPairAt (words_of ts) at place → IsPlace (words_of ts) at (2 * place)
  pair-place at place p = record { within = omega (arith, p.within, words-long, key_count-words_of ts); offset = p.offset }

  pub pair-within : (at place : ℕ) → IsPairAt (words_of ts) at place → place < length ts
  pair-within at place p = omega (arith, p.within, key_count-words_of ts)

  pub place-pair : (at place : ℕ) → IsPlace (words_of ts) at (2 * place + 1 + 1) → IsPairAt (words_of ts) at (place + 1)
  place-pair at place p =
      let same : 2 * place + 1 + 1 ≡ 2 * (place + 1) = omega arith in
      record { within = omega (arith, p.within, words-long, key_count-words_of ts); offset = p.offset ∙ ap (offset_at words) same }

  past-by : (i at : ℕ) (t : Bool) → nat_lt i (length words) ≡ t → None ≡ cond t (Some at) None → length words ≤ i
  past-by i at true e h = absurd cc
  past-by i at false e h = ltb-false i (length words) e

  pub past : (i : ℕ) → None ≡ offset_of (words_of ts) i → length (words_of ts) ≤ i
  past i h = past-by i (offset_at words i) (nat_lt i (length words)) refl h

  pub key-at-pair : (place : ℕ) → file.key_at (words_of ts) place ≡ key_in ts place
  key-at-pair place = key_at-paired_words (map pair_of ts) place ∙ ap (λ ks. get_or ks place []) (keys-pairs ts)

  keys-count : (us : List Times) → length (list_keys us) ≡ length us
  keys-count [] = refl
  keys-count (u ∷ us) = ap suc (keys-count us)

  -- a key that is below the first one is a place to begin at
  pub start-key : (first key : List ℕ) (at : ℕ) → KeysAscend (list_keys ts) → IsBelow key first → IsKeyAt (words_of ts) key at → IsStart ts first at
  start-key first key at up low is = record {
    place = is.place;
    pair = record { within = is.within; offset = is.offset_is };
    before = λ p below.
        let here : IsBelow (key_in ts p) (key_in ts is.place) =
        KeysAscend-at (list_keys ts) up p is.place below (omega (arith, is.within, key_count-words_of ts, keys-count ts)) in
        nat_list_cmp_total.trans (key_in ts p) key first (ap (order (key_in ts p)) (sym is.key_is ∙ key-at-pair is.place) ∙ here) low;
  }

  pub start-first : (first : List ℕ) (at : ℕ) → IsPlace (words_of ts) at 0 → IsStart ts first at
  start-first first at p = record {
    place = 0;
    pair = record { within = omega (arith, p.within, words-long, key_count-words_of ts); offset = p.offset };
    before = λ p below. absurd (omega (arith, below));
  }

  -- no words are no lists
  empty-by : (us : List Times) → length (words_of us) ≤ 0 → us ≡ []
  empty-by [] short = refl
  empty-by (u ∷ us) short = absurd (omega (arith, short))

  pub no-lists : None ≡ offset_of (words_of ts) 0 → ts ≡ []
  no-lists none = empty-by ts (past 0 none)

  pub next-empty : (first : List ℕ) → ts ≡ [] → None ≡ next_from first ts
  next-empty first none = ap (next_from first) (sym none)

-- ---- answers that are passed on

pub some_then : {A : Type 0} (o : Option A) (P Q : A → Type 0) → ((x : A) → P x → Q x) → IfSome o P → IfSome o Q
some_then None P Q so h = tt
some_then (Some x) P Q so h = so x h

pub none_then : {A : Type 0} (o : Option A) (P : Type 0) → (None ≡ o → P) → IfNone o P
none_then None P so = so refl
none_then (Some x) P so = tt

-- ---- the walk

-- a place so far behind that all keys before it are below the first one
pub record IsWalked (ts : List Times) (first : List ℕ) (at seen : ℕ) : Type 0 where
  pub place : ℕ
  pub pair : IsPairAt (words_of ts) at place
  pub before : (p : ℕ) → p < place → IsBelow (key_in ts p) first
  pub far : seen ≤ place

pub told-so : (one other : Times) → Some one ≡ Some other → one ≡ other
told-so one other h = cc

key-of-pair : (us : List Times) (place : ℕ) (key items : List ℕ) → slice_get us place ≡ Some (record { key = key; items = items }) → key_in us place ≡ key
key-of-pair [] zero key items h = absurd cc
key-of-pair [] (suc place) key items h = absurd cc
key-of-pair (u ∷ us) zero key items h = ap (λ (t : Times). t.key) (told-so u (record { key = key; items = items }) h)
key-of-pair (u ∷ us) (suc place) key items h = key-of-pair us place key items h

one-more : (ts : List Times) (first : List ℕ) (place : ℕ) (key items : List ℕ) → ((p : ℕ) → p < place → IsBelow (key_in ts p) first) → slice_get ts place ≡ Some (record { key = key; items = items })
    → is_lt (order key first) ≡ true → (p : ℕ) → p < place + 1 → IsBelow (key_in ts p) first
one-more ts first place key items before pair low p below = by (nat_lt p place) refl
  where
    by : (t : Bool) → nat_lt p place ≡ t → IsBelow (key_in ts p) first
    by true e = before p (ltb-true p place e)
    by false e =
        let one : p ≡ place = omega (arith, below, ltb-false p place e) in
        ap (λ k. order k first) (ap (key_in ts) one ∙ key-of-pair ts place key items pair) ∙ below-is (order key first) low

not-from : (k first : List ℕ) → IsBelow k first → is_from (Some first) k ≡ false
not-from k first low = ap (λ r. not (is_lt r)) low

find-below : (ts : List Times) (first : List ℕ) → ((p : ℕ) → p < length ts → IsBelow (key_in ts p) first) → next_from first ts ≡ None
find-below [] first low = refl
find-below (t ∷ ts) first low =
    (λ i. cond (not-from t.key first (low zero (omega arith)) i) (Some t.key) (next_from first ts))
    ∙ find-below ts first (λ p below. low (suc p) (omega (arith, below)))

find-found : (ts : List Times) (first : List ℕ) (place : ℕ) (key items : List ℕ) → ((p : ℕ) → p < place → IsBelow (key_in ts p) first)
    → slice_get ts place ≡ Some (record { key = key; items = items }) → is_lt (order key first) ≡ false → next_from first ts ≡ Some key
find-found [] first zero key items low is high = cc
find-found [] first (suc place) key items low is high = cc
find-found (t ∷ ts) first zero key items low is high =
    let same : t.key ≡ key = ap (λ (u : Times). u.key) (told-so t (record { key = key; items = items }) is) in
    let from : is_from (Some first) t.key ≡ true = ap not (ap (λ k. is_lt (order k first)) same ∙ high) in
    (λ i. cond (from i) (Some t.key) (next_from first ts)) ∙ ap (λ k. Some k) same
find-found (t ∷ ts) first (suc place) key items low is high =
    (λ i. cond (not-from t.key first (low zero (omega arith)) i) (Some t.key) (next_from first ts))
    ∙ find-found ts first place key items (λ p below. low (suc p) (omega (arith, below))) is high

-- a pair whose key is below the first one is a place to begin at
pub start-pair : (ts : List Times) (first : List ℕ) (at place : ℕ) (key items : List ℕ) → KeysAscend (list_keys ts) → IsPairAt (words_of ts) at place → slice_get ts place ≡ Some (record { key = key; items = items })
    → is_lt (order key first) ≡ true → IsStart ts first at
start-pair ts first at place key items up p pair low =
    start-key ts first key at up (below-is (order key first) low)
    (record { place = place; within = p.within; key_is = key-at-pair ts place ∙ key-of-pair ts place key items pair; offset_is = p.offset })

module _ (ts : List Times) (first : List ℕ) (at seen : ℕ) (w : IsWalked ts first at seen) where
  -- the key there is the first that isn't below the first one, and there it stands
  pub walked-found : (key items : List ℕ) → slice_get ts w.place ≡ Some (record { key = key; items = items }) → is_lt (order key first) ≡ false → Some key ≡ next_from first ts
  walked-found key items pair high = sym (find-found ts first w.place key items w.before pair high)

  pub walked-there : (key items : List ℕ) → slice_get ts w.place ≡ Some (record { key = key; items = items }) → IsKeyAt (words_of ts) key at
  walked-there key items pair = record {
    place = w.place;
    within = w.pair.within;
    key_is = key-at-pair ts w.place ∙ key-of-pair ts w.place key items pair;
    offset_is = w.pair.offset;
  }

  -- it is the last one
  pub walked-out : (key items : List ℕ) → slice_get ts w.place ≡ Some (record { key = key; items = items }) → is_lt (order key first) ≡ true → length ts ≤ w.place + 1 → None ≡ next_from first ts
  walked-out key items pair low last =
      sym (find-below ts first (λ p below. one-more ts first w.place key items w.before pair low p (omega (arith, below, last))))

  -- one key more
  pub walked-on : (key items : List ℕ) (behind : ℕ) → slice_get ts w.place ≡ Some (record { key = key; items = items }) → is_lt (order key first) ≡ true → IsPairAt (words_of ts) behind (w.place + 1)
      → IsWalked ts first behind (seen + 1)
  walked-on key items behind pair low there = record {
    place = w.place + 1;
    pair = there;
    before = one-more ts first w.place key items w.before pair low;
    far = omega (arith, w.far);
  }

  -- no more keys are gone over than there are words
  pub walked-within : length (words_of ts) ≤ seen → ⊥
  walked-within far = omega (arith, far, w.far, pair-within ts at w.place w.pair, words-long ts)
