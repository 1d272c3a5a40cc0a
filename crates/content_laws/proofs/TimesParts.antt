-- The numbers in `.ef` files over adjacent ranges are those of one file over all of them.
use Rattle.std.specs.Prelude.{◌≡◌, ℕ, ◌*◌, ◌≤◌, ◌<◌, ◌||◌, nat_eq, nat_le, Bool, true, false, cond, List, [], ◌∷◌, ◌++◌, map, Option, Some, None, is_some, refl}
use Rattle.std.proofs.Common.{sym, ◌∙◌, ap, arith, subst, leb-true, leb-false, append-nil}
use Rattle.std.proofs.Math.Nat.{mul-le-mul_right}
use Rattle.std.specs.Option.{option_or}
use Rattle.std.specs.List.{filter, list_any}
use Rattle.std.specs.Cmp.Lexicographic.{pointwise, bytes_decides}
use Rattle.agg_model.specs.declared.entity.Entity.{Entity}
use Rattle.agg_model.specs.declared.entity.Range.{Range}
use Rattle.agg_model.specs.declared.change.Change.{Change}
use Rattle.agg_model.specs.Batch.{AscendFrom}
use Rattle.agg_model.specs.ChangeList.{last_where}
use Rattle.agg_model.specs.Contents.{is_of_within, changes_over, keys_of, times, times_of, ef_contents}
use Rattle.agg_model.specs.Pairs.{hot_change}
use Rattle.agg_model.proofs.GrownLaws.{AscendFrom-All}
use Rattle.agg_model.proofs.ContentsLaws.{filter-none}
use Rattle.agg_model.proofs.CoverageLaws.{any_changed}
use Rattle.content_laws.specs.Looks.{numbers_in}
use Rattle.content_laws.specs.Parts.{Adjoin, ef_files, both_numbers, numbers_over}
use Rattle.content_laws.proofs.PairParts.{late, early, hot-both, hot-empty, Adjoin-le}

-- ---- the numbers of a key in a window, from two windows

filter-of-none-by : (p : Change → Bool) (x : Change) (xs : List Change) (t : Bool) (o : Option Change) → option_or o (cond t (Some x) None) ≡ None → (o ≡ None → filter p xs ≡ []) → cond t (x ∷ filter p xs) (filter p xs) ≡ []
filter-of-none-by p x xs true None is rest = cc
filter-of-none-by p x xs true (Some y) is rest = cc
filter-of-none-by p x xs false None is rest = rest refl
filter-of-none-by p x xs false (Some y) is rest = cc

-- where none is the last one, there is none
filter-of-none : (p : Change → Bool) (xs : List Change) → last_where p xs ≡ None → filter p xs ≡ []
filter-of-none p [] is = refl
filter-of-none p (x ∷ xs) is = filter-of-none-by p x xs (p x) (last_where p xs) is (filter-of-none p xs)

times-none : (cs : List Change) (e : Entity) (k : List ℕ) (a b : ℕ) → hot_change cs e k a b ≡ None → times cs e k a b ≡ []
unfolding hot_change times
times-none cs e k a b is = ap (map (λ (c : Change). c.tx)) (filter-of-none (is_of_within e k a b) cs is)

map-append : (xs ys : List Change) → map (λ (c : Change). c.tx) (xs ++ ys) ≡ map (λ (c : Change). c.tx) xs ++ map (λ (c : Change). c.tx) ys
map-append [] ys = refl
map-append (x ∷ xs) ys = ap (λ l. x.tx ∷ l) (map-append xs ys)

module _ (e : Entity) (k : List ℕ) (a b c : ℕ) (low : a ≤ b) (high : b ≤ c) where
  abbrev in_all : Change → Bool
  in_all x = is_of_within e k a c x

  abbrev in_first : Change → Bool
  in_first x = is_of_within e k a b x

  abbrev in_second : Change → Bool
  in_second x = is_of_within e k b c x

  filter-by : (x : Change) (xs : List Change) (t : Bool) → nat_le b x.tx ≡ t → AscendFrom x.tx xs → filter in_all xs ≡ filter in_first xs ++ filter in_second xs
      → cond (in_all x) (x ∷ filter in_all xs) (filter in_all xs)
      ≡ cond (in_first x) (x ∷ filter in_first xs) (filter in_first xs) ++ cond (in_second x) (x ∷ filter in_second xs) (filter in_second xs)
  filter-by x xs true is up rest =
      let from = leb-true b x.tx is in
      let none = filter-none in_first xs (λ i z below. (late e k a b c low high _ (le_chain from (AscendFrom-All x.tx xs up i z below))).1) in
      let here = late e k a b c low high x from in
      let all : filter in_all xs ≡ filter in_second xs = rest ∙ ap (λ l. l ++ filter in_second xs) none in
      (λ i. cond (here.0 i) (x ∷ all i) (all i))
      ∙ (λ i. cond (sym here.1 i) (x ∷ filter in_first xs) (sym none i) ++ cond (in_second x) (x ∷ filter in_second xs) (filter in_second xs))
    where
      le_chain : {x y z : ℕ} → x ≤ y → y ≤ z → x ≤ z
      le_chain h g = omega arith
  filter-by x xs false is up rest =
      let here = early e k a b c low high x (leb-false b x.tx is) in
      (λ i. cond (here.0 i) (x ∷ rest i) (rest i))
      ∙ outside (in_first x) (filter in_first xs) (filter in_second xs)
      ∙ (λ i. cond (in_first x) (x ∷ filter in_first xs) (filter in_first xs) ++ cond (sym here.1 i) (x ∷ filter in_second xs) (filter in_second xs))
    where
      outside : (t : Bool) (xs ys : List Change) → cond t (x ∷ xs ++ ys) (xs ++ ys) ≡ cond t (x ∷ xs) xs ++ ys
      outside true xs ys = refl
      outside false xs ys = refl

  filter-both : (least : ℕ) (xs : List Change) → AscendFrom least xs → filter in_all xs ≡ filter in_first xs ++ filter in_second xs
  filter-both least [] up = refl
  filter-both least (x ∷ xs) up = filter-by x xs (nat_le b x.tx) refl up.1 (filter-both x.tx xs up.1)

  pub times-both : (xs : List Change) → AscendFrom 0 xs → times xs e k a c ≡ times xs e k a b ++ times xs e k b c
  unfolding times
  times-both xs up =
      ap (map (λ (x : Change). x.tx)) (filter-both 0 xs up) ∙ map-append (filter in_first xs) (filter in_second xs)

-- ---- the numbers of a key in a file, from two files

numbers_in-times-by : (cs : List Change) (e : Entity) (from to : ℕ) (k l : List ℕ) (ls : List (List ℕ)) (t : Bool) → pointwise nat_eq l k ≡ t
    → numbers_in (map (times_of cs e from to) ls) k ≡ cond (list_any (λ l. pointwise nat_eq l k) ls) (Some (times cs e k from to)) None
    → cond t (Some (times cs e l from to)) (numbers_in (map (times_of cs e from to) ls) k) ≡ cond (t || list_any (λ l. pointwise nat_eq l k) ls) (Some (times cs e k from to)) None
numbers_in-times-by cs e from to k l ls true is rest = ap (λ l. Some (times cs e l from to)) ((bytes_decides l k).0 is)
numbers_in-times-by cs e from to k l ls false is rest = rest

numbers_in-times : (cs : List Change) (e : Entity) (from to : ℕ) (k : List ℕ) (ls : List (List ℕ)) → numbers_in (map (times_of cs e from to) ls) k ≡ cond (list_any (λ l. pointwise nat_eq l k) ls) (Some (times cs e k from to)) None
numbers_in-times cs e from to k [] = refl
numbers_in-times cs e from to k (l ∷ ls) =
    numbers_in-times-by cs e from to k l ls (pointwise nat_eq l k) refl (numbers_in-times cs e from to k ls)

both-by : (first second : Option Change) (ns ms : List ℕ) → (first ≡ None → ns ≡ []) → (second ≡ None → ms ≡ [])
    → cond (is_some (option_or second first)) (Some (ns ++ ms)) None ≡ both_numbers (cond (is_some first) (Some ns) None) (cond (is_some second) (Some ms) None)
both-by None None ns ms h g = refl
both-by None (Some y) ns ms h g = ap (λ l. Some (l ++ ms)) (h refl)
both-by (Some x) None ns ms h g = ap (λ l. Some (ns ++ l)) (g refl) ∙ ap Some (append-nil ns)
both-by (Some x) (Some y) ns ms h g = refl

module _ (size : ℕ) (cs : List Change) (e : Entity) (k : List ℕ) where
  -- a file has a key where that changed there, with its numbers there
  pub numbers_in-ef_contents : (a b : ℕ) → numbers_in (ef_contents size cs e a b) k ≡ cond (is_some (hot_change cs e k (a * size) (b * size))) (Some (times cs e k (a * size) (b * size))) None
  unfolding ef_contents
  numbers_in-ef_contents a b =
      numbers_in-times cs e (a * size) (b * size) k (keys_of (changes_over size cs e a b))
      ∙ ap (λ t. cond t (Some (times cs e k (a * size) (b * size))) None) (any_changed k size cs e a b)

  numbers-both : (a b c : ℕ) → a ≤ b → b ≤ c → AscendFrom 0 cs → numbers_in (ef_contents size cs e a c) k ≡ both_numbers (numbers_in (ef_contents size cs e a b) k) (numbers_in (ef_contents size cs e b c) k)
  numbers-both a b c low high up =
      let first = hot_change cs e k (a * size) (b * size) in
      let second = hot_change cs e k (b * size) (c * size) in
      let to_b : a * size ≤ b * size = mul-le-mul_right size low in
      let to_c : b * size ≤ c * size = mul-le-mul_right size high in
      numbers_in-ef_contents a c
      ∙ (λ i. cond (is_some (hot-both e k (a * size) (b * size) (c * size) to_b to_c cs up i)) (Some (times-both e k (a * size) (b * size) (c * size) to_b to_c cs up i)) None)
      ∙ both-by first second (times cs e k (a * size) (b * size)) (times cs e k (b * size) (c * size))
      (times-none cs e k (a * size) (b * size)) (times-none cs e k (b * size) (c * size))
      ∙ (λ i. both_numbers (sym (numbers_in-ef_contents a b) i) (sym (numbers_in-ef_contents b c) i))

  pub numbers-parts : (a b : ℕ) (ranges : List Range) → AscendFrom 0 cs → Adjoin a ranges b → numbers_in (ef_contents size cs e a b) k ≡ numbers_over (ef_files size cs e ranges) k
  numbers-parts a b [] up adjoin =
      let none = subst (λ m. hot_change cs e k (a * size) (m * size) ≡ None) adjoin (hot-empty cs e k (a * size)) in
      numbers_in-ef_contents a b ∙ ap (λ h. cond (is_some h) (Some (times cs e k (a * size) (b * size))) None) none
  numbers-parts a b (r ∷ rs) up adjoin =
      let from : r.from ≡ a = adjoin.0 in
      let low : a < r.to = subst (λ m. m < r.to) from adjoin.1.0 in
      numbers-both a r.to b (omega (arith, low)) (Adjoin-le r.to rs b adjoin.1.1) up
      ∙ (λ i. both_numbers (numbers_in (ef_contents size cs e (sym from i) r.to) k) (numbers-parts r.to b rs up adjoin.1.1 i))
