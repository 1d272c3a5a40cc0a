-- The words of files as inputs of a walk.
use Rattle.std.proofs.Common.{AllPairs, ◌≡◌, ℕ, zero, suc, ◌+◌, ◌<◌, ◌≤◌, ◌^◌, List, [], ◌∷◌, ◌++◌, map, length, get_or, take, refl, arith, sym, ◌∙◌, ap, subst}
use Rattle.std.specs.Prelude.{All, Option, Some, None, is_some, true}
use Rattle.std.specs.Borrow.{Bor}
use Rattle.std.specs.Option.{option_copied}
use Rattle.std.specs.Ordering.{nat_cmp, ordering_then}
use Rattle.std.specs.declared.cmp.Ordering.TheVariants.{Less}
use Rattle.std.proofs.lemmas.List.{get_or-map, length-map, map-append, take_more}
use Rattle.std.proofs.lemmas.List.Elements.{All-nil, All-cons, All-head, All-tail, All-push}
use Rattle.agg_model.specs.declared.entity.FileKind.TheVariants.{Kv, V, Ef}
use Rattle.agg_model.specs.declared.contents.Pair.{Pair}
use Rattle.agg_model.specs.declared.contents.Before.{Before}
use Rattle.agg_model.specs.declared.contents.Times.{Times}
use Rattle.agg_model.specs.Pairs.{IsBelow, KeysAscend, ArePairs, pair_keys}
use Rattle.domain_core.specs.KvFile.{words_of, pairs_in}
use Rattle.domain_core.proofs.Words.{pairs_in-words_of}
use Rattle.elias_fano.specs.Spelling.{spelling}
use Rattle.word_file.specs.declared.tag.Tag.{Tag}
use Rattle.history_core.specs.Befores.{order_of, IsEarlier, IsBefore, AreBefores}
use Rattle.history_core.specs.KeyWord as history
use Rattle.history_core.specs.KeyWord.{key_word, key_in, number_in}
use Rattle.history_core.proofs.KeyWords.{length-key_word, key_in-key_word, number_in-key_word}
use Rattle.inverted_index.specs.EfFile as index
use Rattle.inverted_index.specs.EfFile.{IsTimes, AreLists, IsTextOf, numbers_in, list_keys}
use Rattle.inverted_index.proofs.TextLaws.{listable, text_of_numbers, numbers_in-spelling}
use Rattle.inverted_index.proofs.ListWords.{IsFew, few-each}
use Rattle.merge_files.specs.Walks.{before_pair, times_pair, word_order, IsAhead, AreBehind, WordsRise, IsKeyWord, IsText, IsWordPair, IsInput}
use Rattle.merge_files.proofs.Ascents.{below-earlier}

-- words that are pairs are those of the pairs that they are
module _ (words : List (List ℕ)) (pairs : List Pair) (are : words ≡ words_of pairs) where
  pub pairs-are : pairs_in words ≡ pairs
  pairs-are = ap pairs_in are ∙ pairs_in-words_of pairs

  pub are-pairs : words ≡ words_of (pairs_in words)
  are-pairs = are ∙ sym (ap words_of pairs-are)

-- ---- a `.kv` file

behind-below : (k : List ℕ) (ks : List (List ℕ)) → All (IsBelow k) ks → AreBehind Kv k ks
unfolding word_order order_of
behind-below k [] all = tt
behind-below k (l ∷ ks) all = (below-earlier k l [] [] (All-head (IsBelow k) l ks all), behind-below k ks (All-tail (IsBelow k) l ks all))

keys-rise : (ks : List (List ℕ)) → KeysAscend ks → WordsRise Kv ks
keys-rise [] up = tt
keys-rise (k ∷ ks) up = (behind-below k ks up.0, keys-rise ks up.1)

pub kv-input : (pairs : List Pair) → ArePairs pairs → IsInput Kv pairs
kv-input pairs are = record {
  rise = keys-rise (pair_keys pairs) are.ascend;
  fit = λ i p below. record { key = tt; value = λ is. absurd cc };
}

-- ---- a `.v` file

pub before-words : (bs : List Before) → history.words_of bs ≡ words_of (map before_pair bs)
before-words [] = refl
before-words (b ∷ bs) = λ i. key_word b.key b.tx ∷ b.value ∷ before-words bs i

module _ (tag : Tag) where
  ahead-earlier : (b c : Before) → IsBefore tag b → IsBefore tag c → IsEarlier b c → IsAhead V (key_word b.key b.tx) (key_word c.key c.tx)
  unfolding word_order order_of
  ahead-earlier b c one other before =
      (λ i. order_of (key_in-key_word b.key b.tx i) (number_in-key_word b.key b.tx one.number.fits i) (key_in-key_word c.key c.tx i) (number_in-key_word c.key c.tx other.number.fits i))
      ∙ before

  behind-earlier : (b : Before) (cs : List Before) → IsBefore tag b → All (IsBefore tag) cs → All (IsEarlier b) cs → AreBehind V (key_word b.key b.tx) (pair_keys (map before_pair cs))
  behind-earlier b [] fits fit all = tt
  behind-earlier b (c ∷ cs) fits fit all =
      (ahead-earlier b c fits (All-head (IsBefore tag) c cs fit) (All-head (IsEarlier b) c cs all), behind-earlier b cs fits (All-tail (IsBefore tag) c cs fit) (All-tail (IsEarlier b) c cs all))

  rows-rise : (bs : List Before) → All (IsBefore tag) bs → AllPairs IsEarlier bs → WordsRise V (pair_keys (map before_pair bs))
  rows-rise [] fit up = tt
  rows-rise (b ∷ bs) fit up = (
    behind-earlier b bs (All-head (IsBefore tag) b bs fit) (All-tail (IsBefore tag) b bs fit) (λ i z below. up 0 (suc i) z (omega arith) (omega arith)),
    rows-rise bs (All-tail (IsBefore tag) b bs fit) (λ i j d lt within. up (suc i) (suc j) d (omega arith) (omega arith)),
  )

  word-fits : (b : Before) → IsBefore tag b → IsWordPair V (before_pair b)
  word-fits b fits =
      let key = key_in-key_word b.key b.tx in
      let number = number_in-key_word b.key b.tx fits.number.fits in
      record {
        key = (omega (arith, length-key_word b.key b.tx), λ i. key_word (sym key i) (sym number i));
        value = λ is. absurd cc;
      }

  words-fit : (bs : List Before) → All (IsBefore tag) bs → All (IsWordPair V) (map before_pair bs)
  words-fit [] fit = All-nil (IsWordPair V)
  words-fit (b ∷ bs) fit =
      All-cons (IsWordPair V) (before_pair b) (map before_pair bs) (word-fits b (All-head (IsBefore tag) b bs fit)) (words-fit bs (All-tail (IsBefore tag) b bs fit))

  pub v-input : (bs : List Before) → AreBefores tag bs → IsInput V (map before_pair bs)
  v-input bs are = record { rise = rows-rise bs are.fit are.ascend; fit = words-fit bs are.fit }

-- ---- an `.ef` file

pub times-words : (ts : List Times) → index.words_of ts ≡ words_of (map times_pair ts)
times-words [] = refl
times-words (t ∷ ts) = λ i. t.key ∷ spelling t.items ∷ times-words ts i

module _ (tag : Tag) where
  times-keys : (ts : List Times) → pair_keys (map times_pair ts) ≡ list_keys ts
  times-keys [] = refl
  times-keys (t ∷ ts) = λ i. t.key ∷ times-keys ts i

  behind-lists : (k : List ℕ) (ks : List (List ℕ)) → All (IsBelow k) ks → AreBehind Ef k ks
  unfolding word_order order_of
  behind-lists k [] all = tt
  behind-lists k (l ∷ ks) all = (below-earlier k l [] [] (All-head (IsBelow k) l ks all), behind-lists k ks (All-tail (IsBelow k) l ks all))

  lists-rise : (ks : List (List ℕ)) → KeysAscend ks → WordsRise Ef ks
  lists-rise [] up = tt
  lists-rise (k ∷ ks) up = (behind-lists k ks up.0, lists-rise ks up.1)

  is-text : (t : Times) → IsTimes tag t → IsFew t → IsText (spelling t.items)
  is-text t times few =
      let small : length t.items < 2 ^ 23 = few in
      subst (IsTextOf (spelling t.items)) (sym (numbers_in-spelling t.items (listable tag t.items times.numbers (omega (arith, small)))))
      (text_of_numbers tag t.items times.numbers small)

  texts-fit : (ts : List Times) → All (IsTimes tag) ts → All IsFew ts → All (IsWordPair Ef) (map times_pair ts)
  texts-fit [] fit few = All-nil (IsWordPair Ef)
  texts-fit (t ∷ ts) fit few =
      All-cons (IsWordPair Ef) (times_pair t) (map times_pair ts)
      (record { key = tt; value = λ is. is-text t (All-head (IsTimes tag) t ts fit) (All-head IsFew t ts few) })
      (texts-fit ts (All-tail (IsTimes tag) t ts fit) (All-tail IsFew t ts few))

  pub ef-input : (ts : List Times) → AreLists tag ts → IsInput Ef (map times_pair ts)
  ef-input ts are = record {
    rise = subst (WordsRise Ef) (sym (times-keys ts)) (lists-rise (list_keys ts) are.ascend);
    fit = texts-fit ts are.fit (few-each ts are.few);
  }

-- ---- groups, one after the other

module _ {Z G : Type 0} (value : Z → G) (groups : List Z) (n : ℕ) (z : Z) (within : n < length groups) (is : z ≡ get_or groups n z) where
  pub group-there : (P : G → Type 0) → All P (map value groups) → P (value z)
  group-there P all =
      subst P (get_or-map value groups n z (value z) within ∙ ap value (sym is)) (all n (value z) (omega (arith, within, length-map groups value)))

  pub groups-more : {A : Type 0} (of : G → A) → map of (map value (take (n + 1) groups)) ≡ map of (map value (take n groups)) ++ of (value z) ∷ []
  groups-more of =
      ap (λ zs. map of (map value zs)) (take_more groups n z within)
      ∙ (λ i. map of (map-append value (take n groups) (sym is i ∷ []) i))
      ∙ map-append of (map value (take n groups)) (value z ∷ [])

module _ {Z G : Type 0} (value : Z → G) (groups : List Z) (n : ℕ) (z : Z) (within : n < length groups) (is : z ≡ get_or groups n z) where
  pub all-more : (P : G → Type 0) → All P (map value (take n groups)) → P (value z) → All P (map value (take (n + 1) groups))
  all-more P all here =
      let more : map value (take (n + 1) groups) ≡ map value (take n groups) ++ value z ∷ [] =
      ap (map value) (take_more groups n z within) ∙ (λ i. map-append value (take n groups) (sym is i ∷ []) i) in
      subst (All P) (sym more) (All-push P (map value (take n groups)) (value z) all here)

pub some-copied : {A : Type 0} (o : Option (Bor A)) (p : Option A) → option_copied o ≡ p → is_some o ≡ true → is_some p ≡ true
some-copied None p is some = cc
some-copied (Some x) p is some = ap is_some (sym is)
