-- Laws of sets of names.
use Rattle.std.proofs.Common.{◌≡◌, Bool, true, false, not, cond, ◌&&◌, ◌||◌, ℕ, List, [], ◌∷◌, ◌++◌, refl, sym, ◌∙◌, ap, subst, get_or, length, ◌<◌, ◌+◌, suc, drop, add-one, drop-cons}
use Rattle.std.specs.Cmp.{both_ways}
use Rattle.std.specs.Ordering.{nat_cmp}
use Rattle.std.specs.Cmp.Lexicographic.{slice_cmp}
use Rattle.std.specs.BTreeMap.{is_at}
use Rattle.std.specs.BTreeSet.{insert_key}
use Rattle.std.specs.List.Sorted.{IsStrictlySortedBy}
use Rattle.agg_model.specs.declared.entity.Entity.TheVariants.{Accounts, Storage, Code, LogAddrs, LogTopics, TracesFrom, TracesTo}
use Rattle.agg_model.specs.declared.entity.Range.{Range}
use Rattle.merge_ranges.specs.declared.name.FileName.{FileName}
use Rattle.merge_ranges.specs.CanonicalNames.{entity_names}
use Rattle.core_machine.specs.Texts.{has, SameNames, IsInForm, with_names, without_names, texts_of, entity_texts, all_texts}
use Rattle.core_machine.proofs.TextLaws.{same_text, itself, has-with, has-without, form-with, form-without, one-form}

pub with-append : (xs ns ms : List (List ℕ)) → with_names (with_names xs ns) ms ≡ with_names xs (ns ++ ms)
with-append xs [] ms = refl
with-append xs (n ∷ ns) ms = with-append (insert_key (slice_cmp nat_cmp) xs n) ns ms

pub texts-append : (ns ms : List FileName) → texts_of (ns ++ ms) ≡ texts_of ns ++ texts_of ms
texts-append [] ms = refl
texts-append (n ∷ ns) ms = ap (λ l. texts_of (n ∷ []) ++ l) (texts-append ns ms)

-- a list of names, put into a set behind others
pub with-texts : (xs : List (List ℕ)) (ns ms : List FileName) → with_names (with_names xs (texts_of ns)) (texts_of ms) ≡ with_names xs (texts_of (ns ++ ms))
with-texts xs ns ms = with-append xs (texts_of ns) (texts_of ms) ∙ ap (with_names xs) (sym (texts-append ns ms))

or-false : (a : Bool) → (a || false) ≡ a
or-false true = refl
or-false false = refl

-- a set of names has them
pub same-set : (xs : List (List ℕ)) → SameNames (with_names [] xs) xs
same-set xs q = has-with [] xs q ∙ or-false (has xs q)

pub form-set : (xs : List (List ℕ)) → IsInForm (with_names [] xs)
unfolding IsStrictlySortedBy
form-set xs = form-with [] xs tt

-- in the one form it is the list itself
pub set-of-form : (xs : List (List ℕ)) → IsInForm xs → with_names [] xs ≡ xs
set-of-form xs form = one-form (with_names [] xs) xs (form-set xs) form (same-set xs)

pub same-sets : (xs ys : List (List ℕ)) → SameNames xs ys → with_names [] xs ≡ with_names [] ys
same-sets xs ys same =
    one-form (with_names [] xs) (with_names [] ys) (form-set xs) (form-set ys) (λ q. same-set xs q ∙ same q ∙ sym (same-set ys q))

pub sets-same : (xs ys : List (List ℕ)) → with_names [] xs ≡ with_names [] ys → SameNames xs ys
sets-same xs ys e q = sym (same-set xs q) ∙ ap (λ l. has l q) e ∙ same-set ys q

pub at-swap : (a b : List ℕ) → is_at (slice_cmp nat_cmp a) b ≡ is_at (slice_cmp nat_cmp b) a
at-swap a b = both_ways (is_at (slice_cmp nat_cmp a) b) (is_at (slice_cmp nat_cmp b) a) (turn a b) (turn b a)
  where
    turn : (a b : List ℕ) → is_at (slice_cmp nat_cmp a) b ≡ true → is_at (slice_cmp nat_cmp b) a ≡ true
    turn a b e = subst (λ c. is_at (slice_cmp nat_cmp c) a ≡ true) (same_text a b e) (itself a)

-- ---- fewer names

without-by : (t o r : Bool) → (cond t false o && not r) ≡ (o && not (t || r))
without-by true true r = refl
without-by true false r = refl
without-by false o r = refl

-- one more name is taken out
pub without-step : (old new rest : List (List ℕ)) (name q : List ℕ) → has new q ≡ cond (is_at (slice_cmp nat_cmp name) q) false (has old q) → (has new q && not (has rest q)) ≡ (has old q && not (has (name ∷ rest) q))
without-step old new rest name q step =
    ap (λ b. b && not (has rest q)) (step ∙ ap (λ t. cond t false (has old q)) (at-swap name q))
    ∙ without-by (is_at (slice_cmp nat_cmp q) name) (has old q) (has rest q)

and-true : (a : Bool) → (a && true) ≡ a
and-true true = refl
and-true false = refl

pub without-done : (old new gone : List (List ℕ)) → IsInForm old → IsInForm new → ((q : List ℕ) → (has new q && not (has [] q)) ≡ (has old q && not (has gone q))) → new ≡ without_names old gone
without-done old new gone f g same =
    one-form new (without_names old gone) g (form-without old gone f) (λ q. sym (and-true (has new q)) ∙ same q ∙ sym (has-without old gone q))

pub among-step : (rest : List (List ℕ)) (name : List ℕ) (set : List (List ℕ)) → has set name ≡ true → ((q : List ℕ) → has rest q ≡ true → has set q ≡ true) → (q : List ℕ) → has (name ∷ rest) q ≡ true → has set q ≡ true
among-step rest name set there all q h = by (is_at (slice_cmp nat_cmp q) name) refl h
  where
    by : (b : Bool) → is_at (slice_cmp nat_cmp q) name ≡ b → (b || has rest q) ≡ true → has set q ≡ true
    by true e h = ap (has set) (same_text q name e) ∙ there
    by false e h = all q h

or-right : (a b : Bool) → b ≡ true → (a || b) ≡ true
or-right true b h = refl
or-right false b h = h

pub in-rest : (rest : List (List ℕ)) (name q : List ℕ) → has rest q ≡ true → has (name ∷ rest) q ≡ true
in-rest rest name q h = or-right (is_at (slice_cmp nat_cmp q) name) (has rest q) h

pub at-head : (rest : List (List ℕ)) (name : List ℕ) → has (name ∷ rest) name ≡ true
at-head rest name = ap (λ b. b || has rest name) (itself name)

pub drop-here : (names : List (List ℕ)) (i : ℕ) (name : List ℕ) → i < length names → name ≡ get_or names i name → drop i names ≡ name ∷ drop (i + 1) names
drop-here names i name h is = rw add-one (drop-cons names i name h ∙ ap (λ n. n ∷ drop (suc i) names) (sym is))

-- ---- all entities, one after another

behind : (xs k : List (List ℕ)) (ns rest : List FileName) → k ≡ with_names xs (texts_of ns) → with_names k (texts_of rest) ≡ with_names xs (texts_of (ns ++ rest))
behind xs k ns rest e = ap (λ l. with_names l (texts_of rest)) e ∙ with-texts xs ns rest

module _ (rs : List Range) where
  pub all-over : (k a b c d e f g : List (List ℕ)) → k ≡ [] → a ≡ with_names k (entity_texts Accounts rs) → b ≡ with_names a (entity_texts Storage rs) → c ≡ with_names b (entity_texts Code rs)
      → d ≡ with_names c (entity_texts LogAddrs rs) → e ≡ with_names d (entity_texts LogTopics rs) → f ≡ with_names e (entity_texts TracesFrom rs) → g ≡ with_names f (entity_texts TracesTo rs)
      → g ≡ with_names [] (all_texts rs)
  all-over k a b c d e f g none ha hb hc hd he hf hg =
      let n7 = entity_names TracesTo rs ++ [] in
      let n6 = entity_names TracesFrom rs ++ n7 in
      let n5 = entity_names LogTopics rs ++ n6 in
      let n4 = entity_names LogAddrs rs ++ n5 in
      let n3 = entity_names Code rs ++ n4 in
      let n2 = entity_names Storage rs ++ n3 in
      behind f g (entity_names TracesTo rs) [] hg
      ∙ behind e f (entity_names TracesFrom rs) n7 hf
      ∙ behind d e (entity_names LogTopics rs) n6 he
      ∙ behind c d (entity_names LogAddrs rs) n5 hd
      ∙ behind b c (entity_names Code rs) n4 hc
      ∙ behind a b (entity_names Storage rs) n3 hb
      ∙ behind k a (entity_names Accounts rs) n2 ha
      ∙ ap (λ l. with_names l (all_texts rs)) none
