-- Befores and the words that they are.
use Rattle.std.proofs.Common.{◌≡◌, ℕ, zero, suc, ◌+◌, ◌*◌, ◌^◌, ◌<◌, List, [], ◌∷◌, ◌++◌, length, get_or, refl, sym, ap, ◌∙◌, arith}
use Rattle.std.specs.Prelude.{All}
use Rattle.std.proofs.lemmas.List.Elements.{All-head, All-tail}
use Rattle.agg_model.specs.declared.contents.Before.{Before}
use Rattle.word_file.specs.declared.tag.Tag.{Tag}
use Rattle.word_file.specs.Spelling.{AreShort, IsPlace}
use Rattle.word_file.specs.Paired.{IsPaired, KeysDiffer, key_count, key_at}
use Rattle.hashed_words.proofs.Values.{two_on}
use Rattle.history_core.specs.Befores.{IsBefore, AreBefores}
use Rattle.history_core.specs.KeyWord.{key_word, key_in, number_in, before_in, words_of, befores_in}
use Rattle.history_core.specs.VFile.{IsRowAt}
use Rattle.history_core.proofs.KeyWords.{length-key_word, key_in-key_word, number_in-key_word}
use Rattle.history_core.proofs.Orders.{one_place}

pub length-words_of : (bs : List Before) → length (words_of bs) ≡ 2 * length bs
length-words_of [] = refl
length-words_of (b ∷ bs) = omega (arith, length-words_of bs)

pub words_of-append : (bs cs : List Before) → words_of (bs ++ cs) ≡ words_of bs ++ words_of cs
words_of-append [] cs = refl
words_of-append (b ∷ bs) cs = λ i. key_word b.key b.tx ∷ b.value ∷ words_of-append bs cs i

pub key_count-words_of : (bs : List Before) → key_count (words_of bs) ≡ length bs
key_count-words_of bs = omega (arith, length-words_of bs)

pub IsPaired-words_of : (bs : List Before) → IsPaired (words_of bs)
IsPaired-words_of bs = omega (arith, length-words_of bs)

pub key-words_of : (bs : List Before) (place j : ℕ) (d : Before) → j ≡ 2 * place → place < length bs
    → get_or (words_of bs) j [] ≡ key_word (get_or bs place d).key (get_or bs place d).tx
key-words_of [] place j d e h = absurd (omega arith)
key-words_of (b ∷ bs) zero j d e h = ap (λ j. get_or (words_of (b ∷ bs)) j []) e
key-words_of (b ∷ bs) (suc place) j d e h =
    two_on (key_word b.key b.tx) b.value (words_of bs) j (2 * place) (omega arith)
    ∙ key-words_of bs place (2 * place) d refl (omega arith)

pub value-words_of : (bs : List Before) (place j : ℕ) (d : Before) → j ≡ 2 * place + 1 → place < length bs → get_or (words_of bs) j [] ≡ (get_or bs place d).value
value-words_of [] place j d e h = absurd (omega arith)
value-words_of (b ∷ bs) zero j d e h = ap (λ j. get_or (words_of (b ∷ bs)) j []) e
value-words_of (b ∷ bs) (suc place) j d e h =
    two_on (key_word b.key b.tx) b.value (words_of bs) j (2 * place + 1) (omega arith)
    ∙ value-words_of bs place (2 * place + 1) d refl (omega arith)

-- what a key word and its value say again
pub before_in-key_word : (b : Before) → b.tx < 2 ^ 64 → before_in (key_word b.key b.tx) b.value ≡ b
before_in-key_word b fits =
    let key = key_in-key_word b.key b.tx in
    let tx = number_in-key_word b.key b.tx fits in
    λ i. record { key = key i; tx = tx i; value = b.value }

module _ (tag : Tag) where
  pub befores_in-words_of : (bs : List Before) → All (IsBefore tag) bs → befores_in (words_of bs) ≡ bs
  befores_in-words_of [] fit = refl
  befores_in-words_of (b ∷ bs) fit =
      let here = before_in-key_word b (All-head (IsBefore tag) b bs fit).number.fits in
      let rest = befores_in-words_of bs (All-tail (IsBefore tag) b bs fit) in
      λ i. here i ∷ rest i

  pub AreShort-words_of : (bs : List Before) → All (IsBefore tag) bs → AreShort (words_of bs)
  AreShort-words_of [] fit = tt
  AreShort-words_of (b ∷ bs) fit =
      let here = All-head (IsBefore tag) b bs fit in
      (omega (arith, here.lengths.key_within, length-key_word b.key b.tx), (omega (arith, here.lengths.value_within), AreShort-words_of bs (All-tail (IsBefore tag) b bs fit)))

  -- the key and the number at a place are those of its key word
  pub said_at : (bs : List Before) (place : ℕ) (d : Before) → All (IsBefore tag) bs → place < length bs → (key_in (key_at (words_of bs) place) ≡ (get_or bs place d).key) × (number_in (key_at (words_of bs) place) ≡ (get_or bs place d).tx)
  said_at bs place d fit below =
      let b = get_or bs place d in
      let word = key-words_of bs place (2 * place) d refl below in
      (ap key_in word ∙ key_in-key_word b.key b.tx, ap number_in word ∙ number_in-key_word b.key b.tx (fit place d below).number.fits)

  pub KeysDiffer-words_of : (bs : List Before) → AreBefores tag bs → KeysDiffer (words_of bs)
  KeysDiffer-words_of bs are p q below within same =
      let d : Before = record { key = []; tx = 0; value = [] } in
      let first : p < length bs = omega (arith, key_count-words_of bs) in
      let second : q < length bs = omega (arith, key_count-words_of bs) in
      let one = said_at bs p d are.fit first in
      let other = said_at bs q d are.fit second in
      one_place bs d are.ascend p q first second (sym one.0 ∙ ap key_in same ∙ other.0) (sym one.1 ∙ ap number_in same ∙ other.1)

-- the key word at a place of the words starts a row
pub row_of_place : (bs : List Before) (at place : ℕ) → IsPlace (words_of bs) at (2 * place) → IsRowAt bs at place
row_of_place bs at place p = record { within = omega (arith, p.within, length-words_of bs); offset = p.offset }
