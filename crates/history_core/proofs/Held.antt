-- What the words of a file say of its befores.
use Rattle.std.proofs.Common.{◌≡◌, ℕ, ◌+◌, ◌*◌, ◌<◌, ◌≤◌, List, [], length, get_or, slice_get, Some, refl, sym, ap, ◌∙◌, arith, subst}
use Rattle.std.proofs.lemmas.Option.{slice_get-get_or}
use Rattle.agg_model.specs.declared.contents.Before.{Before}
use Rattle.word_file.specs.declared.tag.Tag.{Tag}
use Rattle.word_file.specs.Spelling.{TaggedWords, spelling}
use Rattle.word_file.specs.Reading.{tagged}
use Rattle.word_file.specs.Paired.{IsPaired, KeysDiffer, key_count, key_at, key_offset}
use Rattle.hashed_words.specs.Hashed.{accessor_bytes, form_of, value_at, IsPairAt}
use Rattle.history_core.specs.Befores.{AreBefores}
use Rattle.history_core.specs.KeyWord.{key_word, key_in, number_in, words_of, befores_in}
use Rattle.history_core.specs.VFile.{TaggedBefores, tagged_befores, v_spelling, vi_spelling, vi_form, IsFileOf, IsHeld, IsRowAt}
use Rattle.history_core.proofs.KeyWords.{length-key_word, key_in-key_word, number_in-key_word}
use Rattle.history_core.proofs.Spelled.{key_count-words_of, IsPaired-words_of, KeysDiffer-words_of, befores_in-words_of, key-words_of, value-words_of}

module _ (words : TaggedWords) (bs : List Before) (is : IsFileOf words bs) where
  pub file_paired : IsPaired words.words
  file_paired = subst IsPaired (sym is.words_are) (IsPaired-words_of bs)

  pub file_differ : KeysDiffer words.words
  file_differ = subst KeysDiffer (sym is.words_are) (KeysDiffer-words_of words.tag bs is.are)

  pub file_befores : befores_in words.words ≡ bs
  file_befores = ap befores_in is.words_are ∙ befores_in-words_of words.tag bs is.are.fit

  pub file_held : IsHeld words
  file_held = subst (IsFileOf words) (sym file_befores) is

  pub file_value : tagged_befores words.tag (befores_in words.words) ≡ tagged_befores words.tag bs
  file_value = ap (tagged_befores words.tag) file_befores

  pub file_count : key_count words.words ≡ length bs
  file_count = ap key_count is.words_are ∙ key_count-words_of bs

  pub file_words : words ≡ tagged words.tag (words_of bs)
  file_words = ap (tagged words.tag) is.words_are

  pub file_spelling : spelling words ≡ v_spelling (tagged_befores words.tag bs)
  unfolding v_spelling
  file_spelling = ap spelling file_words

  pub file_accessor : accessor_bytes words.words ≡ vi_spelling (tagged_befores words.tag bs)
  unfolding vi_spelling
  file_accessor = ap accessor_bytes is.words_are

  pub file_form : form_of words.words ≡ vi_form (tagged_befores words.tag bs)
  file_form = ap form_of is.words_are

  -- a row is a pair of words
  pub row_pair : (at place : ℕ) → IsRowAt bs at place → IsPairAt words.words at place
  row_pair at place row = record {
    within = omega (arith, file_count, row.within);
    offset = row.offset ∙ ap (λ ws. key_offset ws place) (sym is.words_are);
  }

  row_word : (place : ℕ) (d : Before) → place < length bs → key_at words.words place ≡ key_word (get_or bs place d).key (get_or bs place d).tx
  row_word place d below = ap (λ ws. key_at ws place) is.words_are ∙ key-words_of bs place (2 * place) d refl below

  pub row_long : (place : ℕ) (word : List ℕ) → place < length bs → word ≡ key_at words.words place → 8 ≤ length word
  row_long place word below same =
      let d : Before = record { key = []; tx = 0; value = [] } in
      let b = get_or bs place d in
      omega (arith, ap length (same ∙ row_word place d below), length-key_word b.key b.tx)

  -- what is read there is the row
  pub row_read : (place : ℕ) (word value key : List ℕ) (tx : ℕ) → place < length bs → word ≡ key_at words.words place → value ≡ value_at words.words place → key ≡ key_in word → tx ≡ number_in word
      → slice_get bs place ≡ Some (record { key = key; tx = tx; value = value })
  row_read place word value key tx below word_is value_is key_is tx_is =
      let d : Before = record { key = []; tx = 0; value = [] } in
      let b = get_or bs place d in
      let same = word_is ∙ row_word place d below in
      let keys : key ≡ b.key = key_is ∙ ap key_in same ∙ key_in-key_word b.key b.tx in
      let numbers : tx ≡ b.tx = tx_is ∙ ap number_in same ∙ number_in-key_word b.key b.tx (is.are.fit place d below).number.fits in
      let values : value ≡ b.value =
      value_is ∙ ap (λ ws. value_at ws place) is.words_are ∙ value-words_of bs place (2 * place + 1) d refl below in
      slice_get-get_or bs place d below
      ∙ (λ i. Some (record { key = sym keys i; tx = sym numbers i; value = sym values i }))

-- words that are written for befores are a file of them
pub file_from : (tag : Tag) (words : TaggedWords) (bs : List Before) → AreBefores tag bs → words ≡ tagged tag (words_of bs) → IsFileOf words bs
file_from tag words bs are is = record {
  are = subst (λ t. AreBefores t bs) (sym (ap (λ (w : TaggedWords). w.tag) is)) are;
  words_are = ap (λ (w : TaggedWords). w.words) is;
}

module _ (tag : Tag) (f : TaggedBefores) (tag_is : f.tag ≡ tag) where
  pub v_spelling-words : v_spelling f ≡ spelling (tagged tag (words_of f.befores))
  unfolding v_spelling
  v_spelling-words = ap (λ (t : Tag). spelling (tagged t (words_of f.befores))) tag_is

  pub vi_spelling-words : vi_spelling f ≡ accessor_bytes (words_of f.befores)
  unfolding vi_spelling
  vi_spelling-words = refl

  pub read_back : AreBefores tag f.befores → (words : TaggedWords) → words ≡ tagged tag (words_of f.befores) → tagged_befores words.tag (befores_in words.words) ≡ f
  read_back are words is =
      ap (λ (w : TaggedWords). tagged_befores w.tag (befores_in w.words)) is
      ∙ ap (tagged_befores tag) (befores_in-words_of tag f.befores are.fit)
      ∙ ap (λ (t : Tag). tagged_befores t f.befores) (sym tag_is)
