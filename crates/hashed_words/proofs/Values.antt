-- The value word behind a key.
use Rattle.std.proofs.Common.{◌≡◌, ℕ, zero, suc, ◌+◌, ◌*◌, ◌<◌, Bool, true, false, cond, nat_eq, List, [], ◌∷◌, length, get_or, Option, Some, None, refl, ap, ◌∙◌, arith, subst, sym}
use Rattle.std.specs.Prelude.{IfNone}
use Rattle.std.specs.Cmp.Lexicographic.{pointwise, bytes_decides}
use Rattle.word_file.specs.Spelling.{TaggedWords}
use Rattle.word_file.specs.Paired.{KeysDiffer, key_at}
use Rattle.recsplit_index.specs.Keys.{IsKeyAt, IsNoKey}
use Rattle.hashed_words.specs.Hashed.{value_at, value_of, IsPairAt}

-- a place behind the first pair
pub two_on : (a b : List ℕ) (ws : List (List ℕ)) (j m : ℕ) → j ≡ suc (suc m) → get_or (a ∷ b ∷ ws) j [] ≡ get_or ws m []
two_on a b ws j m e = ap (λ j. get_or (a ∷ b ∷ ws) j []) e

-- a key that differs
unequal : (a b : List ℕ) (t : Bool) → pointwise nat_eq a b ≡ t → (a ≡ b → ⊥) → pointwise nat_eq a b ≡ false
unequal a b true e apart = absurd (apart ((bytes_decides a b).0 e))
unequal a b false e apart = e

value_of-missing : (words : List (List ℕ)) (key : List ℕ) → ((p j : ℕ) → j ≡ 2 * p → j + 1 < length words → get_or words j [] ≡ key → ⊥) → value_of words key ≡ None
value_of-missing [] key differs = refl
value_of-missing (k ∷ []) key differs = refl
value_of-missing (k ∷ value ∷ words) key differs =
    ap (λ t. cond t (Some value) (value_of words key)) (unequal k key (pointwise nat_eq k key) refl (differs 0 0 refl (omega arith)))
    ∙ value_of-missing words key (λ p j e more is. differs (p + 1) (suc (suc j)) (omega arith) (omega arith) is)

value_of-at : (words : List (List ℕ)) (key : List ℕ) (p j : ℕ) → j ≡ 2 * p → j + 1 < length words → get_or words j [] ≡ key
    → ((q i : ℕ) → i ≡ 2 * q → q < p → get_or words i [] ≡ key → ⊥) → value_of words key ≡ Some (get_or words (j + 1) [])
value_of-at [] key p j e more is differs = absurd (omega arith)
value_of-at (k ∷ []) key p j e more is differs = absurd (omega arith)
value_of-at (k ∷ value ∷ words) key zero j e more is differs =
    let first : j ≡ 0 = omega arith in
    let second : j + 1 ≡ 1 = omega arith in
    let same : k ≡ key = ap (λ i. get_or (k ∷ value ∷ words) i []) (sym first) ∙ is in
    ap (λ t. cond t (Some value) (value_of words key)) ((bytes_decides k key).1 same)
    ∙ ap (λ i. Some (get_or (k ∷ value ∷ words) i [])) (sym second)
value_of-at (k ∷ value ∷ words) key (suc p) j e more is differs =
    let back : j ≡ suc (suc (2 * p)) = omega arith in
    let next : j + 1 ≡ suc (suc (2 * p + 1)) = omega arith in
    ap (λ t. cond t (Some value) (value_of words key)) (unequal k key (pointwise nat_eq k key) refl (differs 0 0 refl (omega arith)))
    ∙ value_of-at words key p (2 * p) refl (omega arith) (sym (two_on k value words j (2 * p) back) ∙ is) (λ q i e' lt is'. differs (q + 1) (suc (suc i)) (omega arith) (omega arith) is')
    ∙ ap (λ w. Some w) (sym (two_on k value words (j + 1) (2 * p + 1) next))

pub value_of-none : (words : List (List ℕ)) (key : List ℕ) → IsNoKey words key → value_of words key ≡ None
value_of-none words key differs =
    value_of-missing words key (λ p j e more is. differs p (omega arith) (subst (λ i. get_or words i [] ≡ key) e is))

pub value_of-key : (words : List (List ℕ)) (key : List ℕ) (at : ℕ) → KeysDiffer words → (k : IsKeyAt words key at) → value_of words key ≡ Some (value_at words k.place)
value_of-key words key at differ k =
    value_of-at words key k.place (2 * k.place) refl (omega (arith, k.within)) k.key_is
    (λ q i e lt is.
    let first : key_at words q ≡ key = subst (λ i. get_or words i [] ≡ key) e is in
    let same : q ≡ k.place = differ q k.place (omega (arith, k.within)) k.within (first ∙ sym k.key_is) in
    absurd (omega arith))

pub pair_of_key : (words : List (List ℕ)) (key : List ℕ) (at : ℕ) (k : IsKeyAt words key at) → IsPairAt words at k.place
pair_of_key words key at k = record { within = k.within; offset = k.offset_is }

-- there is differs value where there is differs key
pub none_of : (words : List (List ℕ)) (key : List ℕ) (found : Option ℕ) → found ≡ None → IfNone found (IsNoKey words key) → value_of words key ≡ None
none_of words key found is none =
    let differs : IfNone {T = ℕ} None (IsNoKey words key) = subst (λ (o : Option ℕ). IfNone o (IsNoKey words key)) is none in value_of-none words key differs

pub value_found : (inside words : TaggedWords) (key value : List ℕ) (at : ℕ) → inside ≡ words → KeysDiffer inside.words → ((p : ℕ) → IsPairAt inside.words at p → value ≡ value_at inside.words p) → IsKeyAt words.words key at → Some value ≡ value_of words.words key
value_found inside words key value at is differ reads k =
    subst (λ (w : TaggedWords). IsKeyAt w.words key at → Some value ≡ value_of w.words key) is
    (λ k. ap (λ w. Some w) (reads k.place (pair_of_key inside.words key at k)) ∙ sym (value_of-key inside.words key at differ k))
    k
