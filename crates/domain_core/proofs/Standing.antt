-- Words that break no rule are those of pairs.
use Rattle.std.proofs.Common.{◌≡◌, ℕ, zero, suc, ◌+◌, ◌<◌, ◌≤◌, Bool, true, false, cond, nat_le, ◌&&◌, List, [], ◌∷◌, length, get_or, Option, Some, None, refl, sym, ap, ◌∙◌, arith, subst}
use Rattle.std.specs.Prelude.{All}
use Rattle.std.specs.Ordering.{is_lt, nat_cmp}
use Rattle.std.specs.Cmp.Lexicographic.{slice_cmp}
use Rattle.std.specs.declared.cmp.Ordering.{Ordering}
use Rattle.std.specs.declared.cmp.Ordering.TheVariants.{Less, Equal, Greater}
use Rattle.std.proofs.lemmas.Bool.{leb-true, le-leb}
use Rattle.std.proofs.lemmas.List.Elements.{All-cons, All-nil}
use Rattle.agg_model.specs.declared.contents.Pair.{Pair}
use Rattle.agg_model.specs.declared.limits.TheConstants.{KEY_MOST, VALUE_MOST}
use Rattle.agg_model.specs.Pairs.{IsBelow, KeysAscend, pair_keys, IsPair, ArePairs}
use Rattle.word_file.specs.Spelling.{AreShort}
use Rattle.hashed_words.specs.Rules.{bad_from, bad_place}
use Rattle.hashed_words.specs.PlainKeys.{is_above, is_plain_key, count_plain_value}
use Rattle.hashed_words.proofs.Walks.{bad_from-key, bad_from-lone, bad_from-pair}
use Rattle.domain_core.specs.KvFile.{words_of, pairs_in, ArePairWords}
use Rattle.domain_core.specs.KvRules.{kv_rules}
use Rattle.domain_core.proofs.Checked.{KeysAscend-next}

-- the keys ascend behind this one, where there is one
abbrev pub AscendBehind : Option (List ℕ) → List (List ℕ) → Type 0
AscendBehind None ks = KeysAscend ks
AscendBehind (Some k) ks = KeysAscend (k ∷ ks)

-- the words are those of pairs behind this key
record StandBehind (last : Option (List ℕ)) (words : List (List ℕ)) : Type 0 where
  paired : words ≡ words_of (pairs_in words)
  fit : All IsPair (pairs_in words)
  up : AscendBehind last (pair_keys (pairs_in words))

both : (a b : Bool) → a && b ≡ true → (a ≡ true) × (b ≡ true)
both true b e = (refl, e)
both false b e = absurd cc

and_both : (a b : Bool) → a ≡ true → b ≡ true → a && b ≡ true
and_both true b e h = h
and_both false b e h = absurd cc

less_of : (o : Ordering) → is_lt o ≡ true → o ≡ Less
less_of Less e = refl
less_of Equal e = absurd cc
less_of Greater e = absurd cc

none_behind : (last : Option (List ℕ)) → AscendBehind last []
none_behind None = tt
none_behind (Some k) = (All-nil (IsBelow k), tt)

behind_more : (last : Option (List ℕ)) (key : List ℕ) (ks : List (List ℕ)) → is_above last key ≡ true → KeysAscend (key ∷ ks) → AscendBehind last (key ∷ ks)
behind_more None key ks above up = up
behind_more (Some k) key ks above up = KeysAscend-next k key ks (less_of (slice_cmp nat_cmp k key) above) up

short_value : (counted sum : ℕ) (value : List ℕ) → count_plain_value counted value ≡ Some sum → length value ≤ VALUE_MOST
short_value counted sum value e = by_test (nat_le (length value) VALUE_MOST) refl
  where
    by_test : (t : Bool) → nat_le (length value) VALUE_MOST ≡ t → length value ≤ VALUE_MOST
    by_test true t = leb-true (length value) VALUE_MOST t
    by_test false t = let never : None ≡ Some sum = sym (ap (λ t. cond t (Some counted) None) t) ∙ e in absurd cc

-- one pair more in front
one_more : (last : Option (List ℕ)) (key value : List ℕ) (words : List (List ℕ)) → is_plain_key last key ≡ true → length value ≤ VALUE_MOST → StandBehind (Some key) words → StandBehind last (key ∷ value ∷ words)
one_more last key value words stands short rest =
    let parts = both (nat_le 1 (length key) && nat_le (length key) KEY_MOST) (is_above last key) stands in
    let lengths = both (nat_le 1 (length key)) (nat_le (length key) KEY_MOST) parts.0 in
    let pair : Pair = record { key = key; value = value } in
    record {
      paired = ap (λ ws. key ∷ value ∷ ws) rest.paired;
      fit = All-cons IsPair pair (pairs_in words) (record { not_empty = leb-true 1 (length key) lengths.0; key_within = leb-true (length key) KEY_MOST lengths.1; value_within = short }) rest.fit;
      up = behind_more last key (pair_keys (pairs_in words)) parts.1 rest.up;
    }

stand_behind : (last : Option (List ℕ)) (counted place : ℕ) (words : List (List ℕ)) → bad_from kv_rules last counted place words ≡ None → StandBehind last words
stand_behind last counted place [] e = record { paired = refl; fit = All-nil IsPair; up = none_behind last }
stand_behind last counted place (key ∷ []) e = by_test (is_plain_key last key) refl
  where
    by_test : (t : Bool) → is_plain_key last key ≡ t → StandBehind last (key ∷ [])
    by_test true t = let never : Some (place + 1) ≡ None = sym (bad_from-lone kv_rules last counted place key t) ∙ e in absurd cc
    by_test false t = let never : Some place ≡ None = sym (bad_from-key kv_rules last counted place key [] t) ∙ e in absurd cc
stand_behind last counted place (key ∷ value ∷ words) e =
    by_test (λ sum h. stand_behind (Some key) sum (place + 2) words h) (is_plain_key last key) refl
  where
    by_count : ((sum : ℕ) → bad_from kv_rules (Some key) sum (place + 2) words ≡ None → StandBehind (Some key) words) → (o : Option ℕ) → is_plain_key last key ≡ true → count_plain_value counted value ≡ o → StandBehind last (key ∷ value ∷ words)
    by_count more None t c = let never : Some (place + 1) ≡ None = sym (bad_from-pair kv_rules last counted place key value words None t c) ∙ e in absurd cc
    by_count more (Some sum) t c =
        one_more last key value words t (short_value counted sum value c) (more sum (sym (bad_from-pair kv_rules last counted place key value words (Some sum) t c) ∙ e))

    by_test : ((sum : ℕ) → bad_from kv_rules (Some key) sum (place + 2) words ≡ None → StandBehind (Some key) words) → (t : Bool) → is_plain_key last key ≡ t → StandBehind last (key ∷ value ∷ words)
    by_test more true t = by_count more (count_plain_value counted value) t refl
    by_test more false t = let never : Some place ≡ None = sym (bad_from-key kv_rules last counted place key (value ∷ words) t) ∙ e in absurd cc

pub stand_words : (words : List (List ℕ)) → bad_place kv_rules words ≡ None → ArePairWords words
stand_words words e =
    let all = stand_behind None 0 0 words e in record { paired = all.paired; are = record { ascend = all.up; fit = all.fit } }

-- ---- and the other way

above_of : (last : Option (List ℕ)) (key : List ℕ) (ks : List (List ℕ)) → AscendBehind last (key ∷ ks) → is_above last key ≡ true
above_of None key ks up = refl
above_of (Some k) key ks up = ap is_lt (up.0 0 [] (omega arith))

behind_of : (last : Option (List ℕ)) (key : List ℕ) (ks : List (List ℕ)) → AscendBehind last (key ∷ ks) → KeysAscend (key ∷ ks)
behind_of None key ks up = up
behind_of (Some k) key ks up = up.1

pairs_stand : (last : Option (List ℕ)) (place : ℕ) (ps : List Pair) → All IsPair ps → AscendBehind last (pair_keys ps) → bad_from kv_rules last 0 place (words_of ps) ≡ None
pairs_stand last place [] fit up = refl
pairs_stand last place (p ∷ ps) fit up =
    let first = fit 0 p (omega arith) in
    let lengths = and_both (nat_le 1 (length p.key)) (nat_le (length p.key) KEY_MOST) (le-leb 1 (length p.key) first.not_empty) (le-leb (length p.key) KEY_MOST first.key_within) in
    let stands = and_both (nat_le 1 (length p.key) && nat_le (length p.key) KEY_MOST) (is_above last p.key) lengths (above_of last p.key (pair_keys ps) up) in
    let counts : count_plain_value 0 p.value ≡ Some 0 = ap (λ t. cond t (Some 0) None) (le-leb (length p.value) VALUE_MOST first.value_within) in
    bad_from-pair kv_rules last 0 place p.key p.value (words_of ps) (Some 0) stands counts
    ∙ pairs_stand (Some p.key) (place + 2) ps (λ i d h. fit (suc i) d (omega arith)) (behind_of last p.key (pair_keys ps) up)

pub words_stand : (ps : List Pair) → ArePairs ps → bad_place kv_rules (words_of ps) ≡ None
words_stand ps are = pairs_stand None 0 ps are.fit are.ascend

short_words : (ps : List Pair) → All IsPair ps → AreShort (words_of ps)
short_words [] fit = tt
short_words (p ∷ ps) fit =
    let first = fit 0 p (omega arith) in
    (omega (arith, first.key_within), (omega (arith, first.value_within), short_words ps (λ i d h. fit (suc i) d (omega arith))))

pub are_short : (ps : List Pair) → ArePairs ps → AreShort (words_of ps)
are_short ps are = short_words ps are.fit
