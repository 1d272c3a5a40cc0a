-- What a look for a key word finds.
use Rattle.std.proofs.Common.{◌≡◌, ℕ, ◌^◌, ◌<◌, ◌≤◌, Bool, true, false, cond, nat_eq, List, [], ◌∷◌, length, Some, None, refl, sym, ap, ◌∙◌, arith, eqb-true}
use Rattle.std.specs.Prelude.{All, ◌==◌, ◌&&◌}
use Rattle.std.specs.Cmp.{both_ways, first_so, second_so}
use Rattle.std.specs.Cmp.Lexicographic.{pointwise, bytes_decides}
use Rattle.std.proofs.lemmas.Bool.{and_from, eq-eqb}
use Rattle.std.proofs.lemmas.List.Elements.{All-head, All-tail}
use Rattle.agg_model.specs.declared.contents.Before.{Before}
use Rattle.word_file.specs.declared.tag.Tag.{Tag}
use Rattle.hashed_words.specs.Hashed.{value_of}
use Rattle.history_core.specs.Befores.{IsBefore, value_before}
use Rattle.history_core.specs.KeyWord.{key_word, key_in, number_in, words_of}
use Rattle.history_core.proofs.KeyWords.{key_in-key_word, number_in-key_word}

module _ (key : List ℕ) (tx : ℕ) (fits : tx < 2 ^ 64) where
  -- two key words are one where key and number are the same
  same_word : (b : Before) → b.tx < 2 ^ 64 → pointwise nat_eq (key_word b.key b.tx) (key_word key tx) ≡ (pointwise nat_eq b.key key && b.tx == tx)
  same_word b number =
      both_ways (pointwise nat_eq (key_word b.key b.tx) (key_word key tx)) (pointwise nat_eq b.key key && b.tx == tx)
      (λ e.
      let word = (bytes_decides (key_word b.key b.tx) (key_word key tx)).0 e in
      let keys : b.key ≡ key = sym (key_in-key_word b.key b.tx) ∙ ap key_in word ∙ key_in-key_word key tx in
      let numbers : b.tx ≡ tx = sym (number_in-key_word b.key b.tx number) ∙ ap number_in word ∙ number_in-key_word key tx fits in
      and_from _ _ ((bytes_decides b.key key).1 keys) (eq-eqb b.tx tx numbers))
      (λ e.
      let keys : b.key ≡ key = (bytes_decides b.key key).0 (first_so _ _ e) in
      let numbers : b.tx ≡ tx = eqb-true b.tx tx (second_so (pointwise nat_eq b.key key) _ e) in
      (bytes_decides (key_word b.key b.tx) (key_word key tx)).1 (λ i. key_word (keys i) (numbers i)))

  pub value_of-words_of : (tag : Tag) (bs : List Before) → All (IsBefore tag) bs → value_of (words_of bs) (key_word key tx) ≡ value_before bs key tx
  value_of-words_of tag [] fit = refl
  value_of-words_of tag (b ∷ bs) fit =
      let same = same_word b (All-head (IsBefore tag) b bs fit).number.fits in
      let rest = value_of-words_of tag bs (All-tail (IsBefore tag) b bs fit) in
      λ i. cond (same i) (Some b.value) (rest i)

-- a key over 64 bytes is in no file
pub value_before-long : (tag : Tag) (bs : List Before) (key : List ℕ) (tx : ℕ) → All (IsBefore tag) bs → 64 < length key → value_before bs key tx ≡ None
value_before-long tag [] key tx fit long = refl
value_before-long tag (b ∷ bs) key tx fit long =
    other-by b bs (pointwise nat_eq b.key key) refl (All-head (IsBefore tag) b bs fit).lengths.key_within
    ∙ value_before-long tag bs key tx (All-tail (IsBefore tag) b bs fit) long
  where
    other-by : (b : Before) (bs : List Before) (t : Bool) → pointwise nat_eq b.key key ≡ t → length b.key ≤ 64 → cond (pointwise nat_eq b.key key && b.tx == tx) (Some b.value) (value_before bs key tx) ≡ value_before bs key tx
    other-by b bs true e within = absurd (omega (arith, ap length ((bytes_decides b.key key).0 e)))
    other-by b bs false e within = ap (λ (t : Bool). cond (t && b.tx == tx) (Some b.value) (value_before bs key tx)) e
