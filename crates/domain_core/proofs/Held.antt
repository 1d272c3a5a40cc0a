-- What the words and the index of a file say of its pairs.
use Rattle.std.proofs.Common.{◌≡◌, ℕ, zero, suc, ◌+◌, ◌*◌, ◌<◌, ◌≤◌, ◌^◌, cond, nat_eq, slice_get, List, [], ◌∷◌, length, get_or, Some, None, refl, sym, ap, ◌∙◌, arith, subst}
use Rattle.std.specs.Cmp.Lexicographic.{pointwise}
use Rattle.std.proofs.lemmas.List.FromFn.{length-map-range_with_len, get_or-map-range_with_len}
use Rattle.std.proofs.lemmas.Option.{slice_get-get_or}
use Rattle.std.proofs.lemmas.Nat.{pow-add}
use Rattle.agg_model.specs.declared.contents.Pair.{Pair}
use Rattle.agg_model.specs.Pairs.{word_in}
use Rattle.word_file.specs.Spelling.{TaggedWords, spelling}
use Rattle.word_file.specs.Reading.{tagged}
use Rattle.word_file.specs.Paired as keys
use Rattle.word_file.proofs.Ascents.{ascending_differ}
use Rattle.btree_index.specs.Keys as places
use Rattle.btree_index.specs.Levels as btree
use Rattle.btree_index.specs.Levels.{levels}
use Rattle.btree_index.proofs.Spellings.{levels_suc}
use Rattle.btree_index.proofs.Seeks.{top_few}
use Rattle.hashed_words.specs.Hashed.{value_of, IsPairAt, accessor_bytes, form_of}
use Rattle.domain_core.specs.KvFile.{words_of, pairs_in, key_at, ArePairWords, IsHeld, IsFirstNotBelow, kv_spelling, bt_spelling, kvi_spelling, kvi_form, tagged_pairs}
use Rattle.domain_core.proofs.Words.{length-words_of, key_count-words_of, IsPaired-words_of, KeysAscend-words_of, key-words_of, value-words_of, key_at-get_or, first_not_below}

-- the value word behind a key word is the value of the key
value_of-words_of : (ps : List Pair) (key : List ℕ) → value_of (words_of ps) key ≡ word_in ps key
value_of-words_of [] key = refl
value_of-words_of (p ∷ ps) key = ap (λ o. cond (pointwise nat_eq p.key key) (Some p.value) o) (value_of-words_of ps key)

module _ (words : List (List ℕ)) (h : ArePairWords words) where
  pub held_paired : keys.IsPaired words
  held_paired = subst keys.IsPaired (sym h.paired) (IsPaired-words_of (pairs_in words))

  pub held_ascend : keys.KeysAscend words
  held_ascend = subst keys.KeysAscend (sym h.paired) (KeysAscend-words_of (pairs_in words) h.are.ascend)

  pub held_differ : keys.KeysDiffer words
  held_differ = ascending_differ words held_ascend

  pub held_keys : keys.key_count words ≡ length (pairs_in words)
  held_keys = ap keys.key_count h.paired ∙ key_count-words_of (pairs_in words)

  pub held_key : (place : ℕ) → get_or words (2 * place) [] ≡ key_at (pairs_in words) place
  held_key place = ap (λ ws. get_or ws (2 * place) []) h.paired ∙ key-words_of (pairs_in words) place (2 * place) refl

  pub held_value : (place : ℕ) (d : Pair) → place < length (pairs_in words) → get_or words (2 * place + 1) [] ≡ (get_or (pairs_in words) place d).value
  held_value place d below =
      ap (λ ws. get_or ws (2 * place + 1) []) h.paired ∙ value-words_of (pairs_in words) place (2 * place + 1) d refl below

  pub held_first : (key : List ℕ) (place : ℕ) → places.IsFirstNotBelow words key place → IsFirstNotBelow (pairs_in words) key place
  held_first key place first =
      first_not_below (pairs_in words) key place h.are.ascend (subst (λ ws. places.IsFirstNotBelow ws key place) h.paired first)

  pub held_word : (key : List ℕ) → value_of words key ≡ word_in (pairs_in words) key
  held_word key = ap (λ ws. value_of ws key) h.paired ∙ value_of-words_of (pairs_in words) key

  pub held_pair : (place : ℕ) (key value : List ℕ) → place < length (pairs_in words) → key ≡ get_or words (2 * place) [] → value ≡ get_or words (2 * place + 1) [] → slice_get (pairs_in words) place ≡ Some (record { key = key; value = value })
  held_pair place key value below key_is value_is =
      let pairs = pairs_in words in
      let none : Pair = record { key = []; value = [] } in
      slice_get-get_or pairs place none below
      ∙ (λ i. Some (record { key = sym (key_is ∙ held_key place ∙ key_at-get_or pairs place none below) i; value = sym (value_is ∙ held_value place none below) i }))

-- the texts of the files
module _ (file : TaggedWords) (h : ArePairWords file.words) where
  pub held_spelling : spelling file ≡ kv_spelling (tagged_pairs file.tag (pairs_in file.words))
  unfolding kv_spelling
  held_spelling = ap (λ ws. spelling (tagged file.tag ws)) h.paired

  pub held_bt : btree.spelling (keys.key_offsets file.words) ≡ bt_spelling (tagged_pairs file.tag (pairs_in file.words))
  unfolding bt_spelling
  held_bt = ap (λ ws. btree.spelling (keys.key_offsets ws)) h.paired

  pub held_kvi : accessor_bytes file.words ≡ kvi_spelling (tagged_pairs file.tag (pairs_in file.words))
  unfolding kvi_spelling
  held_kvi = ap accessor_bytes h.paired

  pub held_form : form_of file.words ≡ kvi_form (tagged_pairs file.tag (pairs_in file.words))
  unfolding kvi_form
  held_form = ap form_of h.paired

module _ (file : TaggedWords) (index : List ℕ) (h : IsHeld file index) where
  pub held_count : length index ≡ length (pairs_in file.words)
  held_count =
      ap length h.indexed
      ∙ length-map-range_with_len (keys.key_offset file.words) 0 (keys.key_count file.words)
      ∙ held_keys file.words h.words

  -- the offsets of the index are those of the keys
  pub held_place : (place at : ℕ) → place < length (pairs_in file.words) → at ≡ get_or index place 0 → IsPairAt file.words at place
  held_place place at below is = record {
    within = omega (arith, held_keys file.words h.words);
    offset =
        is
        ∙ ap (λ l. get_or l place 0) h.indexed
        ∙ get_or-map-range_with_len (keys.key_offset file.words) 0 (keys.key_count file.words) place place 0 (omega (arith, held_keys file.words h.words)) (omega arith);
  }

-- ---- how many binary digits a number of keys has

one_more : (j : ℕ) → suc j ≡ 1 + j
one_more j = omega arith

pow_16 : (j : ℕ) → 16 ^ j ≡ 2 ^ (4 * j)
pow_16 zero = refl
pow_16 (suc j) =
    let more : 4 * suc j ≡ 4 + 4 * j = omega arith in
    let one : 16 ^ suc j ≡ 16 * 16 ^ j = ap (λ k. 16 ^ k) (one_more j) ∙ pow-add 16 1 j in
    let four : 2 ^ (4 + 4 * j) ≡ 16 * 2 ^ (4 * j) = pow-add 2 4 (4 * j) in
    one ∙ ap (λ n. 16 * n) (pow_16 j) ∙ sym four ∙ ap (λ n. 2 ^ n) (sym more)

no_levels : (n : ℕ) → levels n ≡ 0 → n ≡ 0
no_levels zero e = refl
no_levels (suc m) e = absurd (omega (arith, levels_suc m))

positive : (k : ℕ) → 0 < 2 ^ k
positive zero = omega arith
positive (suc k) =
    let more : 2 ^ suc k ≡ 2 * 2 ^ k = ap (λ n. 2 ^ n) (one_more k) ∙ pow-add 2 1 k in
    let rest = positive k in omega arith

pub few_digits : (n height : ℕ) → n < 2 ^ 64 → levels n ≡ height → n < 2 ^ (4 * height + 1)
few_digits n zero small is = let none = no_levels n is in omega arith
few_digits n (suc j) small is =
    let few = top_few n j small is in
    let one : 16 ^ suc j ≡ 16 * 16 ^ j = ap (λ k. 16 ^ k) (one_more j) ∙ pow-add 16 1 j in
    let all : 16 * 16 ^ j ≡ 2 ^ (4 * suc j) = sym one ∙ pow_16 (suc j) in
    let twice : 2 ^ (4 * suc j + 1) ≡ 2 ^ (4 * suc j) * 2 = pow-add 2 (4 * suc j) 1 in
    let some = positive (4 * suc j) in
    omega (arith, few, all, twice, some)
