-- The words of pairs.
use Rattle.std.proofs.Common.{◌≡◌, ℕ, zero, suc, ◌+◌, ◌*◌, ◌<◌, List, [], ◌∷◌, length, get_or, refl, sym, ap, ◌∙◌, arith, subst}
use Rattle.agg_model.specs.Pairs.{IsBelow, KeysAscend}
use Rattle.word_file.specs.Paired as file
use Rattle.word_file.proofs.Ascents.{ascending_differ}
use Rattle.hashed_words.specs.Hashed.{value_at}
use Rattle.hashed_words.specs.PairedWords.{paired_words, keys_of, values_of}
use Rattle.hashed_words.proofs.Values.{two_on}

pub length-paired_words : (ps : List (List ℕ × List ℕ)) → length (paired_words ps) ≡ 2 * length ps
length-paired_words [] = refl
length-paired_words (p ∷ ps) = omega (arith, length-paired_words ps)

pub key_count-paired_words : (ps : List (List ℕ × List ℕ)) → file.key_count (paired_words ps) ≡ length ps
key_count-paired_words ps = omega (arith, length-paired_words ps)

pub IsPaired-paired_words : (ps : List (List ℕ × List ℕ)) → file.IsPaired (paired_words ps)
IsPaired-paired_words ps = omega (arith, length-paired_words ps)

key_of : (ps : List (List ℕ × List ℕ)) (place j : ℕ) → j ≡ 2 * place → get_or (paired_words ps) j [] ≡ get_or (keys_of ps) place []
key_of [] place j e = refl
key_of (p ∷ ps) zero j e = ap (λ (k : ℕ). get_or (paired_words (p ∷ ps)) k []) e
key_of (p ∷ ps) (suc place) j e = two_on p.0 p.1 (paired_words ps) j (2 * place) (omega arith) ∙ key_of ps place (2 * place) refl

value_of : (ps : List (List ℕ × List ℕ)) (place j : ℕ) → j ≡ 2 * place + 1 → get_or (paired_words ps) j [] ≡ get_or (values_of ps) place []
value_of [] place j e = refl
value_of (p ∷ ps) zero j e = ap (λ (k : ℕ). get_or (paired_words (p ∷ ps)) k []) e
value_of (p ∷ ps) (suc place) j e = two_on p.0 p.1 (paired_words ps) j (2 * place + 1) (omega arith) ∙ value_of ps place (2 * place + 1) refl

pub key_at-paired_words : (ps : List (List ℕ × List ℕ)) (place : ℕ) → file.key_at (paired_words ps) place ≡ get_or (keys_of ps) place []
key_at-paired_words ps place = key_of ps place (2 * place) refl

pub value_at-paired_words : (ps : List (List ℕ × List ℕ)) (place : ℕ) → value_at (paired_words ps) place ≡ get_or (values_of ps) place []
value_at-paired_words ps place = value_of ps place (2 * place + 1) refl

-- ---- the order of keys

length-keys_of : (ps : List (List ℕ × List ℕ)) → length (keys_of ps) ≡ length ps
length-keys_of [] = refl
length-keys_of (p ∷ ps) = ap suc (length-keys_of ps)

pub KeysAscend-at : (ks : List (List ℕ)) → KeysAscend ks → (p q : ℕ) → p < q → q < length ks → IsBelow (get_or ks p []) (get_or ks q [])
KeysAscend-at [] up p q h below = absurd (omega arith)
KeysAscend-at (k ∷ ks) up p zero h below = absurd (omega arith)
KeysAscend-at (k ∷ ks) up zero (suc q) h below = up.0 q [] (omega arith)
KeysAscend-at (k ∷ ks) up (suc p) (suc q) h below = KeysAscend-at ks up.1 p q (omega arith) (omega arith)

pub KeysAscend-paired_words : (ps : List (List ℕ × List ℕ)) → KeysAscend (keys_of ps) → file.KeysAscend (paired_words ps)
KeysAscend-paired_words ps up p q h below =
    let last : q < length (keys_of ps) = omega (arith, key_count-paired_words ps, length-keys_of ps) in
    subst (λ k. IsBelow k (file.key_at (paired_words ps) q)) (sym (key_at-paired_words ps p))
    (subst (IsBelow (get_or (keys_of ps) p [])) (sym (key_at-paired_words ps q)) (KeysAscend-at (keys_of ps) up p q h last))

pub KeysDiffer-paired_words : (ps : List (List ℕ × List ℕ)) → KeysAscend (keys_of ps) → file.KeysDiffer (paired_words ps)
KeysDiffer-paired_words ps up = ascending_differ (paired_words ps) (KeysAscend-paired_words ps up)
