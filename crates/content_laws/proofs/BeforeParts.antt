-- The rows of `.v` files over adjacent ranges are those of one file over all of them.
use Rattle.std.specs.Prelude.{◌≡◌, ℕ, ◌*◌, ◌≤◌, ◌<◌, ◌==◌, ◌&&◌, ◌||◌, nat_eq, nat_le, nat_lt, Bool, true, false, cond, List, [], ◌∷◌, map, Option, Some, None, refl}
use Rattle.std.proofs.Common.{sym, ◌∙◌, ap, arith, subst, le-leb, leb-true, leb-false, le-ltb, lt-ltb, eqb-true}
use Rattle.std.proofs.Math.Nat.{mul-le-mul_right}
use Rattle.std.specs.Option.{option_or}
use Rattle.std.specs.List.{filter, list_any}
use Rattle.std.specs.Cmp.{first_so, second_so}
use Rattle.std.specs.Cmp.Lexicographic.{pointwise, bytes_decides}
use Rattle.std.proofs.lemmas.List.Sorted.{list_any-IsPermutation}
use Rattle.agg_model.specs.declared.entity.Entity.{Entity}
use Rattle.agg_model.specs.declared.entity.Range.{Range}
use Rattle.agg_model.specs.declared.change.Change.{Change}
use Rattle.agg_model.specs.Entity.{entity_number}
use Rattle.agg_model.specs.Place.{is_of}
use Rattle.agg_model.specs.ChangeList.{value_at}
use Rattle.agg_model.specs.Arranged.{arranged}
use Rattle.agg_model.specs.Contents.{is_within, changes_over, word_of, before_of, v_contents}
use Rattle.agg_model.proofs.ArrangedLaws.{arranged-IsPermutation}
use Rattle.content_laws.specs.Looks.{before_in}
use Rattle.content_laws.specs.Parts.{Adjoin, v_files, before_over}
use Rattle.content_laws.proofs.PairParts.{Adjoin-le}

module _ (cs : List Change) (e : Entity) (k : List ℕ) (n : ℕ) where
  -- the change is one of the key at the number
  abbrev is_here : Change → Bool
  is_here c = pointwise nat_eq c.key k && c.tx == n

  abbrev word : Option (List ℕ)
  word = Some (word_of (value_at cs e k n))

  before_in-rows-by : (c : Change) (rows : List Change) (t : Bool) → is_here c ≡ t → before_in (map (before_of cs e) rows) k n ≡ cond (list_any is_here rows) word None
      → cond t (Some (word_of (value_at cs e c.key c.tx))) (before_in (map (before_of cs e) rows) k n) ≡ cond (t || list_any is_here rows) word None
  before_in-rows-by c rows true is rest =
      let key = (bytes_decides c.key k).0 (first_so (pointwise nat_eq c.key k) (c.tx == n) is) in
      let number = eqb-true c.tx n (second_so (pointwise nat_eq c.key k) (c.tx == n) is) in
      λ i. Some (word_of (value_at cs e (key i) (number i)))
  before_in-rows-by c rows false is rest = rest

  before_in-rows : (rows : List Change) → before_in (map (before_of cs e) rows) k n ≡ cond (list_any is_here rows) word None
  before_in-rows [] = refl
  before_in-rows (c ∷ rows) = before_in-rows-by c rows (is_here c) refl (before_in-rows rows)

  -- the change is one of the entity and key at the number
  abbrev is_there : Change → Bool
  is_there c = is_of e k c && c.tx == n

  abbrev in_range : ℕ → ℕ → Bool
  in_range from to = nat_le from n && nat_lt n to

  and_false : (t : Bool) → (t && false) ≡ false
  and_false true = refl
  and_false false = refl

  step-by : (x : Change) (fs : List Change) (some range one key same within : Bool) → is_here x ≡ (key && same) → (same ≡ true → within ≡ range) → list_any is_here fs ≡ (some && range)
      → list_any is_here (cond (one && within) (x ∷ fs) fs) ≡ ((((one && key) && same) || some) && range)
  step-by x fs some range false key same within here inside rest = rest
  step-by x fs some range true true false true here inside rest = λ i. here i || rest i
  step-by x fs some range true false false true here inside rest = λ i. here i || rest i
  step-by x fs some range true true false false here inside rest = rest
  step-by x fs some range true false false false here inside rest = rest
  step-by x fs some true true true true true here inside rest = λ i. here i || rest i
  step-by x fs some true true false true true here inside rest = λ i. here i || rest i
  step-by x fs some true true key true false here inside rest = let wrong = inside refl in cc
  step-by x fs some false true key true true here inside rest = let wrong = inside refl in cc
  step-by x fs some false true true true false here inside rest = rest ∙ and_false some
  step-by x fs some false true false true false here inside rest = rest

  any_within : (from to : ℕ) (xs : List Change) → list_any is_here (filter (is_within e from to) xs) ≡ (list_any is_there xs && in_range from to)
  unfolding is_within is_of
  any_within from to [] = refl
  any_within from to (x ∷ xs) =
      step-by x (filter (is_within e from to) xs) (list_any is_there xs) (in_range from to)
      (entity_number x.entity == entity_number e) (pointwise nat_eq x.key k) (x.tx == n) (nat_le from x.tx && nat_lt x.tx to)
      refl (λ same i. nat_le from (eqb-true x.tx n same i) && nat_lt (eqb-true x.tx n same i) to) (any_within from to xs)

  -- a file has a row where the key changed at the number, if that is one of the file's steps
  pub before_in-v_contents : (size a b : ℕ) → before_in (v_contents size cs e a b) k n ≡ cond (list_any is_there cs && in_range (a * size) (b * size)) word None
  unfolding v_contents changes_over
  before_in-v_contents size a b =
      let within = filter (is_within e (a * size) (b * size)) cs in
      before_in-rows (arranged within)
      ∙ ap (λ t. cond t word None) (sym (list_any-IsPermutation is_here within (arranged within) (arranged-IsPermutation within)) ∙ any_within (a * size) (b * size) cs)

  -- ---- the row in a file, from two files

  or_false : (t : Bool) → (t || false) ≡ t
  or_false true = refl
  or_false false = refl

  range-by : (a b c : ℕ) (t : Bool) → nat_le b n ≡ t → a ≤ b → b ≤ c → in_range a c ≡ (in_range a b || in_range b c)
  range-by a b c true is low high =
      let from = leb-true b n is in
      ap (λ t. t && nat_lt n c) (le-leb a n (omega (arith, from)))
      ∙ sym ((λ i. (nat_le a n && le-ltb n b from i) || (is i && nat_lt n c)) ∙ ap (λ t. t || nat_lt n c) (and_false (nat_le a n)))
  range-by a b c false is low high =
      let below = leb-false b n is in
      ap (λ t. nat_le a n && t) (lt-ltb n c (omega (arith, below)) ∙ sym (lt-ltb n b below))
      ∙ sym (ap (λ t. in_range a b || (t && nat_lt n c)) is ∙ or_false (in_range a b))

  empty-by : (m : ℕ) (t : Bool) → nat_le m n ≡ t → (t && nat_lt n m) ≡ false
  empty-by m true is = le-ltb n m (leb-true m n is)
  empty-by m false is = refl

  empty : (m : ℕ) → in_range m m ≡ false
  empty m = empty-by m (nat_le m n) refl

  either : (there first second : Bool) → cond (there && (first || second)) word None ≡ option_or (cond (there && first) word None) (cond (there && second) word None)
  either false first second = refl
  either true true second = refl
  either true false second = refl

  before-both : (size a b c : ℕ) → a ≤ b → b ≤ c → before_in (v_contents size cs e a c) k n ≡ option_or (before_in (v_contents size cs e a b) k n) (before_in (v_contents size cs e b c) k n)
  before-both size a b c low high =
      before_in-v_contents size a c
      ∙ ap (λ t. cond (list_any is_there cs && t) word None) (range-by (a * size) (b * size) (c * size) (nat_le (b * size) n) refl (mul-le-mul_right size low) (mul-le-mul_right size high))
      ∙ either (list_any is_there cs) (in_range (a * size) (b * size)) (in_range (b * size) (c * size))
      ∙ (λ i. option_or (sym (before_in-v_contents size a b) i) (sym (before_in-v_contents size b c) i))

  pub before-parts : (size a b : ℕ) (ranges : List Range) → Adjoin a ranges b → before_in (v_contents size cs e a b) k n ≡ before_over (v_files size cs e ranges) k n
  before-parts size a b [] adjoin =
      before_in-v_contents size a b
      ∙ ap (λ m. cond (list_any is_there cs && in_range (a * size) (m * size)) word None) (sym adjoin)
      ∙ ap (λ t. cond (list_any is_there cs && t) word None) (empty (a * size))
      ∙ ap (λ t. cond t word None) (and_false (list_any is_there cs))
  before-parts size a b (r ∷ rs) adjoin =
      let from : r.from ≡ a = adjoin.0 in
      let low : a < r.to = subst (λ m. m < r.to) from adjoin.1.0 in
      before-both size a r.to b (omega (arith, low)) (Adjoin-le r.to rs b adjoin.1.1)
      ∙ (λ i. option_or (before_in (v_contents size cs e (sym from i) r.to) k n) (before-parts size r.to b rs adjoin.1.1 i))
