-- Pairs and the words that they are.
use Rattle.std.proofs.Common.{◌≡◌, ℕ, zero, suc, ◌+◌, ◌*◌, ◌<◌, ◌≤◌, Bool, true, false, cond, nat_eq, nat_lt, ltb-true, ltb-false, List, [], ◌∷◌, ◌++◌, length, get_or, Some, None, refl, sym, ap, ◌∙◌, arith, subst, inl, inr, ◌⊎◌}
use Rattle.std.specs.Cmp.{tied_itself}
use Rattle.std.specs.Cmp.Lexicographic.{pointwise, nat_list_cmp_total, bytes_decides}
use Rattle.std.specs.declared.cmp.Ordering.{Ordering}
use Rattle.std.specs.declared.cmp.Ordering.TheVariants.{Less, Equal}
use Rattle.agg_model.specs.declared.contents.Pair.{Pair}
use Rattle.agg_model.specs.Pairs.{IsBelow, KeysAscend, pair_keys, word_in}
use Rattle.word_file.specs.Paired as keys
use Rattle.btree_index.specs.Keys as places
use Rattle.hashed_words.proofs.Values.{two_on}
use Rattle.hashed_words.proofs.PairedLaws.{KeysAscend-at}
use Rattle.domain_core.specs.KvFile.{words_of, pairs_in, key_at, IsFirstNotBelow}

pub pairs_in-words_of : (ps : List Pair) → pairs_in (words_of ps) ≡ ps
pairs_in-words_of [] = refl
pairs_in-words_of (p ∷ ps) = λ i. p ∷ pairs_in-words_of ps i

pub length-words_of : (ps : List Pair) → length (words_of ps) ≡ 2 * length ps
length-words_of [] = refl
length-words_of (p ∷ ps) = omega (arith, length-words_of ps)

pub words_of-append : (ps qs : List Pair) → words_of (ps ++ qs) ≡ words_of ps ++ words_of qs
words_of-append [] qs = refl
words_of-append (p ∷ ps) qs = λ i. p.key ∷ p.value ∷ words_of-append ps qs i

-- there are as many keys as pairs, and each has its value
pub key_count-words_of : (ps : List Pair) → keys.key_count (words_of ps) ≡ length ps
key_count-words_of ps = omega (arith, length-words_of ps)

pub IsPaired-words_of : (ps : List Pair) → keys.IsPaired (words_of ps)
IsPaired-words_of ps = omega (arith, length-words_of ps)

pub key-words_of : (ps : List Pair) (place j : ℕ) → j ≡ 2 * place → get_or (words_of ps) j [] ≡ key_at ps place
key-words_of [] place j e = refl
key-words_of (p ∷ ps) zero j e = ap (λ j. get_or (words_of (p ∷ ps)) j []) e
key-words_of (p ∷ ps) (suc place) j e =
    two_on p.key p.value (words_of ps) j (2 * place) (omega arith) ∙ key-words_of ps place (2 * place) refl

pub value-words_of : (ps : List Pair) (place j : ℕ) (d : Pair) → j ≡ 2 * place + 1 → place < length ps → get_or (words_of ps) j [] ≡ (get_or ps place d).value
value-words_of [] place j d e h = absurd (omega arith)
value-words_of (p ∷ ps) zero j d e h = ap (λ j. get_or (words_of (p ∷ ps)) j []) e
value-words_of (p ∷ ps) (suc place) j d e h =
    two_on p.key p.value (words_of ps) j (2 * place + 1) (omega arith) ∙ value-words_of ps place (2 * place + 1) d refl (omega arith)

pub key_at-get_or : (ps : List Pair) (place : ℕ) (d : Pair) → place < length ps → key_at ps place ≡ (get_or ps place d).key
key_at-get_or [] place d h = absurd (omega arith)
key_at-get_or (p ∷ ps) zero d h = refl
key_at-get_or (p ∷ ps) (suc place) d h = key_at-get_or ps place d (omega arith)

-- ---- order

pub length-pair_keys : (ps : List Pair) → length (pair_keys ps) ≡ length ps
length-pair_keys [] = refl
length-pair_keys (p ∷ ps) = ap suc (length-pair_keys ps)

pub below_at : (ps : List Pair) → KeysAscend (pair_keys ps) → (p q : ℕ) → p < q → q < length ps → IsBelow (key_at ps p) (key_at ps q)
below_at ps up p q h below = KeysAscend-at (pair_keys ps) up p q h (omega (arith, length-pair_keys ps))

pub KeysAscend-words_of : (ps : List Pair) → KeysAscend (pair_keys ps) → keys.KeysAscend (words_of ps)
KeysAscend-words_of ps up p q h below =
    let last : q < length ps = omega (arith, key_count-words_of ps) in
    subst (λ k. IsBelow k (keys.key_at (words_of ps) q)) (sym (key-words_of ps p (2 * p) refl))
    (subst (IsBelow (key_at ps p)) (sym (key-words_of ps q (2 * q) refl)) (below_at ps up p q h last))

pub not_itself : (k : List ℕ) → IsBelow k k → ⊥
not_itself k below = no (tied_itself nat_list_cmp_total k) below
  where
    no : {r : Ordering} → r ≡ Equal → r ≡ Less → ⊥
    no e f = cc

-- two numbers, the first no greater
split : (a b : ℕ) → a ≤ b → (a < b) ⊎ (a ≡ b)
split a b h = split-by (nat_lt a b) refl
  where
    split-by : (t : Bool) → nat_lt a b ≡ t → (a < b) ⊎ (a ≡ b)
    split-by true e = inl (ltb-true a b e)
    split-by false e = let over = ltb-false a b e in inr (omega arith)

-- a place found among the words is one among the pairs
pub first_not_below : (ps : List Pair) (key : List ℕ) (place : ℕ) → KeysAscend (pair_keys ps) → places.IsFirstNotBelow (words_of ps) key place → IsFirstNotBelow ps key place
first_not_below ps key place up first = record {
  within = omega (arith, first.within, key_count-words_of ps);
  before = λ p h. subst (λ k. IsBelow k key) (key-words_of ps p (2 * p) refl) (first.before p h);
  behind = λ p h below is. first.there (omega (arith, key_count-words_of ps)) (subst (λ k. IsBelow k key) (sym (key-words_of ps place (2 * place) refl)) (lower p h below is));
}
  where
    lower-by : (p : ℕ) → place < p ⊎ (place ≡ p) → p < length ps → IsBelow (key_at ps p) key → IsBelow (key_at ps place) key
    lower-by p (inl h) below is = nat_list_cmp_total.trans (key_at ps place) (key_at ps p) key (below_at ps up place p h below) is
    lower-by p (inr h) below is = subst (λ p. IsBelow (key_at ps p) key) (sym h) is

    lower : (p : ℕ) → place ≤ p → p < length ps → IsBelow (key_at ps p) key → IsBelow (key_at ps place) key
    lower p h below is = lower-by p (split place p h) below is

-- ---- the word of a key

word_in-other : (p : Pair) (ps : List Pair) (k : List ℕ) (t : Bool) → pointwise nat_eq p.key k ≡ t → (p.key ≡ k → ⊥) → cond t (Some p.value) (word_in ps k) ≡ word_in ps k
word_in-other p ps k true e other = absurd (other ((bytes_decides p.key k).0 e))
word_in-other p ps k false e other = refl

pub word_in-absent : (ps : List Pair) (k : List ℕ) → ((p : ℕ) → p < length ps → key_at ps p ≡ k → ⊥) → word_in ps k ≡ None
word_in-absent [] k other = refl
word_in-absent (p ∷ ps) k other =
    word_in-other p ps k (pointwise nat_eq p.key k) refl (other 0 (omega arith))
    ∙ word_in-absent ps k (λ i h. other (suc i) (omega arith))

pub word_in-there : (ps : List Pair) (k : List ℕ) (place : ℕ) (d : Pair) → place < length ps → ((p : ℕ) → p < place → key_at ps p ≡ k → ⊥) → key_at ps place ≡ k → word_in ps k ≡ Some (get_or ps place d).value
word_in-there [] k place d h other is = absurd (omega arith)
word_in-there (p ∷ ps) k zero d h other is = ap (λ t. cond t (Some p.value) (word_in ps k)) ((bytes_decides p.key k).1 is)
word_in-there (p ∷ ps) k (suc place) d h other is =
    word_in-other p ps k (pointwise nat_eq p.key k) refl (other 0 (omega arith))
    ∙ word_in-there ps k place d (omega arith) (λ i h. other (suc i) (omega arith)) is

module _ (ps : List Pair) (k : List ℕ) (place : ℕ) (first : IsFirstNotBelow ps k place) where
  earlier : (p : ℕ) → p < place → key_at ps p ≡ k → ⊥
  earlier p h same = not_itself k (subst (λ x. IsBelow x k) same (first.before p h))

  -- the word at the place, where the key is there
  pub word_in-found : (d : Pair) → place < length ps → key_at ps place ≡ k → word_in ps k ≡ Some (get_or ps place d).value
  word_in-found d h is = word_in-there ps k place d h earlier is

  -- there is no word, where another key or none is at the place
  pub word_in-missing : KeysAscend (pair_keys ps) → (place < length ps → key_at ps place ≡ k → ⊥) → word_in ps k ≡ None
  word_in-missing up other = word_in-absent ps k (λ p below is. not_at p below is (nat_lt p place) refl)
    where
      from_place : (p : ℕ) → p < length ps → key_at ps p ≡ k → (place < p) ⊎ (place ≡ p) → ⊥
      from_place p below is (inl h) = first.behind place (omega arith) (omega arith) (subst (IsBelow (key_at ps place)) is (below_at ps up place p h below))
      from_place p below is (inr h) = other (omega arith) (ap (key_at ps) h ∙ is)

      not_at : (p : ℕ) → p < length ps → key_at ps p ≡ k → (t : Bool) → nat_lt p place ≡ t → ⊥
      not_at p below is true e = earlier p (ltb-true p place e) is
      not_at p below is false e = from_place p below is (split place p (ltb-false p place e))
