-- The words of `.kv` files over adjacent ranges are those of one file over all of them.
use Rattle.std.specs.Prelude.{◌≡◌, ℕ, ◌*◌, ◌≤◌, ◌<◌, ◌==◌, ◌&&◌, nat_le, nat_lt, Bool, true, false, cond, List, [], ◌∷◌, length, All, Option, Some, None, IfSome, is_some, refl}
use Rattle.std.proofs.Common.{sym, ◌∙◌, ap, arith, subst, le-leb, leb-true, leb-false, lt-ltb, le-ltb}
use Rattle.std.specs.Option.{option_or, option_and_then}
use Rattle.std.proofs.lemmas.Bool.{lt-leb, ne_eqb}
use Rattle.std.proofs.Math.Nat.{mul-le-mul_right}
use Rattle.std.proofs.lemmas.List.Elements.{All-head, All-tail}
use Rattle.agg_model.specs.declared.entity.Entity.{Entity}
use Rattle.agg_model.specs.declared.entity.Range.{Range}
use Rattle.agg_model.specs.declared.change.Change.{Change}
use Rattle.agg_model.specs.Place.{is_of}
use Rattle.agg_model.specs.Batch.{AscendFrom, IsChange, IsValue}
use Rattle.agg_model.specs.ChangeList.{last_where, last_change, value_at, value_of}
use Rattle.agg_model.specs.Contents.{is_of_within, word_of, kv_contents}
use Rattle.agg_model.specs.Pairs.{word_in, newest_word, held_value, hot_change, value_over}
use Rattle.agg_model.proofs.ArrangedLaws.{option_or-none, option_or-assoc}
use Rattle.agg_model.proofs.GrownLaws.{none_late, AscendFrom-All}
use Rattle.agg_model.proofs.ContentsLaws.{value_at-fits}
use Rattle.agg_model.proofs.CoverageLaws.{value_at-split, word_in-kv_contents}
use Rattle.content_laws.specs.Parts.{Adjoin, kv_files, kept_word}

-- ---- the last change of a key in a window, from two windows

pub none_where : (p : Change → Bool) (xs : List Change) → All (λ x. p x ≡ false) xs → last_where p xs ≡ None
none_where p [] none = refl
none_where p (x ∷ xs) none =
    (λ i. option_or (none_where p xs (All-tail (λ x. p x ≡ false) x xs none) i) (cond (All-head (λ x. p x ≡ false) x xs none i) (Some x) None))

-- a window from a number up to itself has no change
empty-by : (x n : ℕ) (t u : Bool) → nat_le n x ≡ u → (t && (u && nat_lt x n)) ≡ false
empty-by x n true true is = le-ltb x n (leb-true n x is)
empty-by x n true false is = refl
empty-by x n false u is = refl

empty : (e : Entity) (k : List ℕ) (n : ℕ) (x : Change) → is_of_within e k n n x ≡ false
unfolding is_of_within
empty e k n x = empty-by x.tx n (is_of e k x) (nat_le n x.tx) refl

pub hot-empty : (xs : List Change) (e : Entity) (k : List ℕ) (n : ℕ) → hot_change xs e k n n ≡ None
unfolding hot_change
hot-empty xs e k n = none_where (is_of_within e k n n) xs (λ i z below. empty e k n _)

module _ (e : Entity) (k : List ℕ) (a b c : ℕ) (low : a ≤ b) (high : b ≤ c) where
  abbrev in_all : Change → Bool
  in_all x = is_of_within e k a c x

  abbrev in_first : Change → Bool
  in_first x = is_of_within e k a b x

  abbrev in_second : Change → Bool
  in_second x = is_of_within e k b c x

  -- from b on the first window has none, and the second decides
  late-by : (x : Change) (t : Bool) → b ≤ x.tx → ((t && (nat_le a x.tx && nat_lt x.tx c)) ≡ (t && (nat_le b x.tx && nat_lt x.tx c))) × ((t && (nat_le a x.tx && nat_lt x.tx b)) ≡ false)
  late-by x true h = (
    (λ i. le-leb a x.tx (le_chain low h) i && nat_lt x.tx c) ∙ (λ i. sym (le-leb b x.tx h) i && nat_lt x.tx c),
    ap (λ t. nat_le a x.tx && t) (le-ltb x.tx b h) ∙ and_false (nat_le a x.tx),
  )
    where
      le_chain : {x y z : ℕ} → x ≤ y → y ≤ z → x ≤ z
      le_chain h g = omega arith

      and_false : (t : Bool) → (t && false) ≡ false
      and_false true = refl
      and_false false = refl
  late-by x false h = (refl, refl)

  pub late : (x : Change) → b ≤ x.tx → (in_all x ≡ in_second x) × (in_first x ≡ false)
  unfolding is_of_within
  late x h = late-by x (is_of e k x) h

  -- below b the second window has none, and the first decides
  early-by : (x : Change) (t : Bool) → x.tx < b → ((t && (nat_le a x.tx && nat_lt x.tx c)) ≡ (t && (nat_le a x.tx && nat_lt x.tx b))) × ((t && (nat_le b x.tx && nat_lt x.tx c)) ≡ false)
  early-by x true h = (
    ap (λ t. nat_le a x.tx && t) (lt-ltb x.tx c (lt_chain h high) ∙ sym (lt-ltb x.tx b h)),
    ap (λ t. t && nat_lt x.tx c) (lt-leb b x.tx h),
  )
    where
      lt_chain : {x y z : ℕ} → x < y → y ≤ z → x < z
      lt_chain h g = omega arith
  early-by x false h = (refl, refl)

  pub early : (x : Change) → x.tx < b → (in_all x ≡ in_first x) × (in_second x ≡ false)
  unfolding is_of_within
  early x h = early-by x (is_of e k x) h

  none-by : (xs : List Change) → All (λ x. b ≤ x.tx) xs → last_where in_first xs ≡ None
  none-by xs h = none_where in_first xs (λ i z below. (late _ (h i z below)).1)

  last-by : (x : Change) (xs : List Change) (t : Bool) → nat_le b x.tx ≡ t → AscendFrom x.tx xs → last_where in_all xs ≡ option_or (last_where in_second xs) (last_where in_first xs)
      → option_or (last_where in_all xs) (cond (in_all x) (Some x) None)
      ≡ option_or (option_or (last_where in_second xs) (cond (in_second x) (Some x) None)) (option_or (last_where in_first xs) (cond (in_first x) (Some x) None))
  last-by x xs true is up rest =
      let from = leb-true b x.tx is in
      let none = none-by xs (λ i z below. le_chain from (AscendFrom-All x.tx xs up i z below)) in
      let here = late x from in
      (λ i. option_or (rest i) (cond (here.0 i) (Some x) None))
      ∙ (λ i. option_or (option_or (last_where in_second xs) (none i)) (cond (in_second x) (Some x) None))
      ∙ ap (λ o. option_or o (cond (in_second x) (Some x) None)) (option_or-none (last_where in_second xs))
      ∙ sym (option_or-none (option_or (last_where in_second xs) (cond (in_second x) (Some x) None)))
      ∙ (λ i. option_or (option_or (last_where in_second xs) (cond (in_second x) (Some x) None)) (option_or (sym none i) (cond (sym here.1 i) (Some x) None)))
    where
      le_chain : {x y z : ℕ} → x ≤ y → y ≤ z → x ≤ z
      le_chain h g = omega arith
  last-by x xs false is up rest =
      let here = early x (leb-false b x.tx is) in
      (λ i. option_or (rest i) (cond (here.0 i) (Some x) None))
      ∙ option_or-assoc (last_where in_second xs) (last_where in_first xs) (cond (in_first x) (Some x) None)
      ∙ ap (λ o. option_or o (option_or (last_where in_first xs) (cond (in_first x) (Some x) None))) (sym (option_or-none (last_where in_second xs)))
      ∙ (λ i. option_or (option_or (last_where in_second xs) (cond (sym here.1 i) (Some x) None)) (option_or (last_where in_first xs) (cond (in_first x) (Some x) None)))

  pub last-both : (least : ℕ) (xs : List Change) → AscendFrom least xs → last_where in_all xs ≡ option_or (last_where in_second xs) (last_where in_first xs)
  last-both least [] up = refl
  last-both least (x ∷ xs) up = last-by x xs (nat_le b x.tx) refl up.1 (last-both x.tx xs up.1)

  pub hot-both : (xs : List Change) → AscendFrom 0 xs → hot_change xs e k a c ≡ option_or (hot_change xs e k b c) (hot_change xs e k a b)
  unfolding hot_change
  hot-both xs up = last-both 0 xs up

-- ---- the word of a key in a file, from two files

-- the word in a file that begins at a step, where the key has this last change there and this value at its end
abbrev pub word_with : ℕ → Option Change → Option (List ℕ) → Option (List ℕ)
word_with from hot value =
    cond (cond (from == 0) (is_some hot && is_some value) (is_some hot)) (Some (word_of value)) None

abbrev IsFull : Option (List ℕ) → Type 0
IsFull value = IfSome value (λ w. 1 ≤ length w)

held-word : (o : Option (List ℕ)) → IsFull o → held_value (Some (word_of o)) ≡ o
held-word None h = refl
held-word (Some []) h = absurd (omega arith)
held-word (Some (b ∷ bs)) h = refl

kept-single-by : (t : Bool) (hot : Option Change) (value : Option (List ℕ)) → IsFull value
    → let word = cond (cond t (is_some hot && is_some value) (is_some hot)) (Some (word_of value)) None in cond t (held_value word) word ≡ word
kept-single-by false hot value full = refl
kept-single-by true None value full = refl
kept-single-by true (Some c) None full = refl
kept-single-by true (Some c) (Some w) full = held-word (Some w) full

kept-both-by : (t : Bool) (first second : Option Change) (value : Option (List ℕ)) → IsFull value → IsFull (value_over value second)
    → let all = value_over value second in
    let one = cond (cond t (is_some first && is_some value) (is_some first)) (Some (word_of value)) None in
    let other = cond (is_some second) (Some (word_of all)) None in
    let both = option_or second first in
    cond (cond t (is_some both && is_some all) (is_some both)) (Some (word_of all)) None ≡ cond t (held_value (option_or other one)) (option_or other one)
kept-both-by t first None value full here = sym (kept-single-by t first value full)
kept-both-by false first (Some c) value full here = refl
kept-both-by true first (Some c) value full here = by_value (value_of c) here
  where
    by_value : (o : Option (List ℕ)) → IsFull o → cond (is_some o) (Some (word_of o)) None ≡ held_value (Some (word_of o))
    by_value None h = refl
    by_value (Some w) h = sym (held-word (Some w) h)

value-word : (hot : Option Change) (value : Option (List ℕ)) → value ≡ value_over None hot → value ≡ cond (is_some hot && is_some value) (Some (word_of value)) None
value-word None value is = is
value-word (Some c) None is = refl
value-word (Some c) (Some w) is = refl

value_at-start : (cs : List Change) (e : Entity) (k : List ℕ) (n : ℕ) → n ≡ 0 → value_at cs e k n ≡ None
unfolding value_at last_change
value_at-start cs e k n is = ap (option_and_then value_of) (none_late e k n cs (λ i z below. at_least is))
  where
    at_least : {n m : ℕ} → n ≡ 0 → n ≤ m
    at_least h = omega arith

pub not_first : (b a : ℕ) → a < b → (b == 0) ≡ false
not_first b a low = ne_eqb b 0 (λ is. omega arith)

pub Adjoin-le : (from : ℕ) (ranges : List Range) (to : ℕ) → Adjoin from ranges to → from ≤ to
Adjoin-le from [] to adjoin = omega arith
Adjoin-le from (r ∷ rs) to adjoin =
    let rest = Adjoin-le r.to rs to adjoin.1.1 in
    let low = adjoin.1.0 in
    let here = adjoin.0 in
    omega arith

full_of : (o : Option (List ℕ)) → IfSome o IsValue → IsFull o
full_of None h = tt
full_of (Some w) h = h.not_empty

module _ (size : ℕ) (cs : List Change) (e : Entity) (k : List ℕ) (up : AscendFrom 0 cs) (fit : All IsChange cs) where
  full : (n : ℕ) → IsFull (value_at cs e k n)
  full n = full_of (value_at cs e k n) (value_at-fits cs e k n fit)

  word-single : (a b : ℕ) → word_in (kv_contents size cs e a b) k ≡ kept_word a (word_in (kv_contents size cs e a b) k)
  word-single a b =
      let is = word_in-kv_contents k size cs e a b in
      sym (ap (kept_word a) is ∙ kept-single-by (a == 0) (hot_change cs e k (a * size) (b * size)) (value_at cs e k (b * size)) (full (b * size)) ∙ sym is)

  word-both : (a b c : ℕ) → a < b → b ≤ c → word_in (kv_contents size cs e a c) k ≡ kept_word a (option_or (word_in (kv_contents size cs e b c) k) (word_in (kv_contents size cs e a b) k))
  word-both a b c low high =
      let one = value_at cs e k (b * size) in
      let all = value_at cs e k (c * size) in
      let first = hot_change cs e k (a * size) (b * size) in
      let second = hot_change cs e k (b * size) (c * size) in
      let to_b : a * size ≤ b * size = mul-le-mul_right size (omega arith) in
      let to_c : b * size ≤ c * size = mul-le-mul_right size high in
      let over : all ≡ value_over one second = value_at-split cs e k (b * size) (c * size) to_c up in
      let both = hot-both e k (a * size) (b * size) (c * size) to_b to_c cs up in
      word_in-kv_contents k size cs e a c
      ∙ (λ i. cond (cond (a == 0) (is_some (both i) && is_some (over i)) (is_some (both i))) (Some (word_of (over i))) None)
      ∙ kept-both-by (a == 0) first second one (full (b * size)) (subst IsFull over (full (c * size)))
      ∙ ap (λ o. kept_word a (option_or o (cond (cond (a == 0) (is_some first && is_some one) (is_some first)) (Some (word_of one)) None)))
      (sym (word_in-kv_contents k size cs e b c ∙ (λ i. cond (cond (not_first b a low i) (is_some second && is_some all) (is_some second)) (Some (word_of all)) None) ∙ ap (λ v. cond (is_some second) (Some (word_of v)) None) over))
      ∙ ap (λ o. kept_word a (option_or (word_in (kv_contents size cs e b c) k) o)) (sym (word_in-kv_contents k size cs e a b))

  -- what one file over all ranges has of a key is what the newest of the files that has it has
  pub word-parts : (a b : ℕ) (ranges : List Range) → Adjoin a ranges b → word_in (kv_contents size cs e a b) k ≡ kept_word a (newest_word (kv_files size cs e ranges) k)
  word-parts a b [] adjoin =
      let none = subst (λ m. hot_change cs e k (a * size) (m * size) ≡ None) adjoin (hot-empty cs e k (a * size)) in
      word_in-kv_contents k size cs e a b
      ∙ ap (λ h. word_with a h (value_at cs e k (b * size))) none
      ∙ nothing (value_at cs e k (b * size)) (a == 0)
    where
      nothing : (w : Option (List ℕ)) (t : Bool) → cond (cond t (false && is_some w) false) (Some (word_of w)) None ≡ cond t (held_value None) None
      nothing w true = refl
      nothing w false = refl
  word-parts a b (r ∷ rs) adjoin =
      let from : r.from ≡ a = adjoin.0 in
      let low : a < r.to = subst (λ m. m < r.to) from adjoin.1.0 in
      let rest = word-parts r.to b rs adjoin.1.1 in
      let newest = newest_word (kv_files size cs e rs) k in
      word-both a r.to b low (Adjoin-le r.to rs b adjoin.1.1)
      ∙ (λ i. kept_word a (option_or (rest i) (word_in (kv_contents size cs e (sym from i) r.to) k)))
      ∙ ap (λ t. kept_word a (option_or (cond t (held_value newest) newest) (word_in (kv_contents size cs e r.from r.to) k))) (not_first r.to a low)

  -- the files of the first steps tell each value at their end
  pub value-parts : (f : ℕ) (ranges : List Range) → Adjoin 0 ranges f → value_at cs e k (f * size) ≡ held_value (newest_word (kv_files size cs e ranges) k)
  value-parts f ranges adjoin =
      let hot = hot_change cs e k (0 * size) (f * size) in
      value-word hot (value_at cs e k (f * size))
      (value_at-split cs e k (0 * size) (f * size) (mul-le-mul_right size (omega arith)) up ∙ ap (λ v. value_over v hot) (value_at-start cs e k (0 * size) (omega arith)))
      ∙ sym (word_in-kv_contents k size cs e 0 f)
      ∙ word-parts 0 f ranges adjoin
