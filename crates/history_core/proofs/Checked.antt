-- Words that keep the rules of a `.v` file are befores, and befores keep them.
use Rattle.std.proofs.Common.{◌≡◌, ℕ, suc, ◌+◌, ◌-◌, ◌*◌, ◌^◌, ◌<◌, ◌≤◌, Bool, true, false, cond, nat_le, List, [], ◌∷◌, length, get_or, Option, Some, None, refl, sym, ap, ◌∙◌, arith, subst, leb-true, ltb-true, le-leb, lt-ltb}
use Rattle.std.specs.Prelude.{All, AllPairs, ◌&&◌}
use Rattle.std.specs.Ordering.{is_lt}
use Rattle.std.specs.Cmp.{first_so, second_so}
use Rattle.std.specs.declared.cmp.Ordering.{Ordering}
use Rattle.std.specs.declared.cmp.Ordering.TheVariants.{Less, Equal, Greater}
use Rattle.std.proofs.lemmas.Bool.{and_from}
use Rattle.std.proofs.lemmas.List.Elements.{All-cons, All-head, All-tail, All-nil}
use Rattle.std.proofs.lemmas.List.Kept.{AllPairs-cons}
use Rattle.std.proofs.lemmas.List.{length-take}
use Rattle.agg_model.specs.declared.contents.Before.{Before}
use Rattle.word_file.specs.declared.tag.Tag.{Tag}
use Rattle.file_numbers.proofs.Numbers.{AreBytes}
use Rattle.hashed_words.specs.Rules.{behind_value, bad_from, bad_place}
use Rattle.history_core.specs.Befores.{order_of, IsInside, IsEarlier, IsBefore, AreBefores}
use Rattle.history_core.specs.KeyWord.{key_word, key_in, number_in, before_in, words_of, befores_in}
use Rattle.history_core.specs.Rules.{is_inside, is_key_word, is_earlier, stands_behind, v_rules}
use Rattle.history_core.proofs.KeyWords.{length-key_word, key_in-key_word, number_in-key_word, key_word-said, number_in-below}
use Rattle.history_core.proofs.Orders.{earlier_chain}

is_lt-true : (r : Ordering) → is_lt r ≡ true → r ≡ Less
is_lt-true Less e = refl
is_lt-true Equal e = cc
is_lt-true Greater e = cc

-- ---- one key word

pub record IsKeyWord (tag : Tag) (word : List ℕ) : Type 0 where
  pub long : 9 ≤ length word
  pub within : length word ≤ 72
  pub inside : IsInside tag (number_in word)

pub is_inside-true : (tag : Tag) (tx : ℕ) → is_inside tag tx ≡ true → IsInside tag tx
unfolding is_inside
is_inside-true tag tx h = record {
  low = leb-true (tag.from * tag.step) tx (first_so _ _ h);
  high = ltb-true tx (tag.to * tag.step) (second_so (nat_le (tag.from * tag.step) tx) _ h);
}

pub is_inside-from : (tag : Tag) (tx : ℕ) → IsInside tag tx → is_inside tag tx ≡ true
unfolding is_inside
is_inside-from tag tx h =
    and_from _ _ (le-leb (tag.from * tag.step) tx h.low) (lt-ltb tx (tag.to * tag.step) h.high)

pub is_key_word-true : (tag : Tag) (word : List ℕ) → is_key_word tag word ≡ true → IsKeyWord tag word
unfolding is_key_word
is_key_word-true tag word h =
    let rest = second_so (nat_le 9 (length word)) _ h in
    record {
      long = leb-true 9 (length word) (first_so _ _ h);
      within = leb-true (length word) 72 (first_so _ _ rest);
      inside = is_inside-true tag (number_in word) (second_so (nat_le (length word) 72) _ rest);
    }

pub is_key_word-from : (tag : Tag) (word : List ℕ) → IsKeyWord tag word → is_key_word tag word ≡ true
unfolding is_key_word
is_key_word-from tag word h =
    and_from _ _ (le-leb 9 (length word) h.long)
    (and_from _ _ (le-leb (length word) 72 h.within) (is_inside-from tag (number_in word) h.inside))

pub is_earlier-true : (word other : List ℕ) → is_earlier word other ≡ true → IsEarlier (before_in word []) (before_in other [])
unfolding is_earlier order_of
is_earlier-true word other h = is_lt-true _ h

-- ---- one pair

module _ (tag : Tag) where
  -- what follows a pair that stands
  pair_passes-by : (place : ℕ) (rest : ℕ → Option ℕ) (t : Bool) (sum : Option ℕ) → t ≡ true → sum ≡ Some 0 → cond t (behind_value (place + 1) rest sum) (Some place) ≡ rest 0
  pair_passes-by place rest t sum is counts =
      ap (λ (t : Bool). cond t (behind_value (place + 1) rest sum) (Some place)) is
      ∙ ap (behind_value (place + 1) rest) counts

  -- a pair that stands, where nothing breaks a rule
  pub record Stood (word value : List ℕ) (last : Option (List ℕ)) : Type 0 where
    pub key : IsKeyWord tag word
    pub behind : stands_behind last word ≡ true
    pub within : length value ≤ 65535

  counted : (value : List ℕ) → length value ≤ 65535 → (v_rules tag).count_value 0 value ≡ Some 0
  unfolding v_rules
  counted value within = ap (λ (t : Bool). cond t (Some 0) None) (le-leb (length value) 65535 within)

  stands : (word : List ℕ) (last : Option (List ℕ)) → IsKeyWord tag word → stands_behind last word ≡ true → (v_rules tag).key_stands last word ≡ true
  unfolding v_rules
  stands word last key behind = and_from _ _ (is_key_word-from tag word key) behind

  pub pair_passes : (last : Option (List ℕ)) (place : ℕ) (word value : List ℕ) (words : List (List ℕ)) → Stood word value last → bad_from (v_rules tag) last 0 place (word ∷ value ∷ words) ≡ bad_from (v_rules tag) (Some word) 0 (place + 2) words
  pair_passes last place word value words h =
      pair_passes-by place (λ sum. bad_from (v_rules tag) (Some word) sum (place + 2) words) ((v_rules tag).key_stands last word) ((v_rules tag).count_value 0 value)
      (stands word last h.key h.behind)
      (counted value h.within)

  -- the other way round
  value_stands : (value : List ℕ) (t : Bool) → nat_le (length value) 65535 ≡ t → (place : ℕ) (rest : ℕ → Option ℕ) → behind_value (place + 1) rest (cond t (Some 0) None) ≡ None → (length value ≤ 65535) × (rest 0 ≡ None)
  value_stands value true e place rest none = (leb-true (length value) 65535 e, none)
  value_stands value false e place rest none = absurd cc

  key_stands : (t : Bool) (place : ℕ) (o : Option ℕ) → cond t o (Some place) ≡ None → (t ≡ true) × (o ≡ None)
  key_stands true place o none = (refl, none)
  key_stands false place o none = absurd cc

  pub stood_from : (last : Option (List ℕ)) (place : ℕ) (word value : List ℕ) (words : List (List ℕ)) → bad_from (v_rules tag) last 0 place (word ∷ value ∷ words) ≡ None
      → Stood word value last × (bad_from (v_rules tag) (Some word) 0 (place + 2) words ≡ None)
  unfolding v_rules
  stood_from last place word value words none =
      let rest = λ (sum : ℕ). bad_from (v_rules tag) (Some word) sum (place + 2) words in
      let word_is = key_stands (is_key_word tag word && stands_behind last word) place (behind_value (place + 1) rest (cond (nat_le (length value) 65535) (Some 0) None)) none in
      let value_is = value_stands value (nat_le (length value) 65535) refl place rest word_is.1 in (
        record {
          key = is_key_word-true tag word (first_so _ _ word_is.0);
          behind = second_so (is_key_word tag word) _ word_is.0;
          within = value_is.0;
        },
        value_is.1,
      )

  lone_stands : (last : Option (List ℕ)) (place : ℕ) (word : List ℕ) (t : Bool) → (v_rules tag).key_stands last word ≡ t → cond t (Some (place + 1)) (Some place) ≡ None → ⊥
  lone_stands last place word true e none = absurd cc
  lone_stands last place word false e none = absurd cc

  -- ---- befores keep the rules

  kept : (b : Before) → IsBefore tag b → IsKeyWord tag (key_word b.key b.tx)
  kept b fit = record {
    long = omega (arith, length-key_word b.key b.tx, fit.lengths.not_empty);
    within = omega (arith, length-key_word b.key b.tx, fit.lengths.key_within);
    inside = subst (IsInside tag) (sym (number_in-key_word b.key b.tx fit.number.fits)) fit.number.inside;
  }

  earlier_stands : (b c : Before) → b.tx < 2 ^ 64 → c.tx < 2 ^ 64 → IsEarlier b c → stands_behind (Some (key_word b.key b.tx)) (key_word c.key c.tx) ≡ true
  unfolding stands_behind is_earlier order_of
  earlier_stands b c one other less =
      let keys = key_in-key_word b.key b.tx in
      let numbers = number_in-key_word b.key b.tx one in
      let next = key_in-key_word c.key c.tx in
      let tx = number_in-key_word c.key c.tx other in
      let same : order_of (key_in (key_word b.key b.tx)) (number_in (key_word b.key b.tx)) (key_in (key_word c.key c.tx)) (number_in (key_word c.key c.tx)) ≡ Less =
      (λ i. order_of (keys i) (numbers i) (next i) (tx i)) ∙ less in
      and_from _ _ (le-leb 8 (length (key_word b.key b.tx)) (omega (arith, length-key_word b.key b.tx))) (ap is_lt same)

  -- the first of them stands behind the key word before
  abbrev StandsFirst : Option (List ℕ) → List Before → Type 0
  StandsFirst last [] = Unit {0}
  StandsFirst last (b ∷ bs) = stands_behind last (key_word b.key b.tx) ≡ true

  first_stands : (b : Before) (bs : List Before) → AllPairs IsEarlier (b ∷ bs) → All (IsBefore tag) (b ∷ bs) → StandsFirst (Some (key_word b.key b.tx)) bs
  first_stands b [] up fit = tt
  first_stands b (c ∷ bs) up fit = earlier_stands b c (fit 0 b (omega arith)).number.fits (fit 1 b (omega arith)).number.fits (up 0 1 b (omega arith) (omega arith))

  all_stand : (last : Option (List ℕ)) (place : ℕ) (bs : List Before) → AllPairs IsEarlier bs → All (IsBefore tag) bs → StandsFirst last bs → bad_from (v_rules tag) last 0 place (words_of bs) ≡ None
  all_stand last place [] up fit first = refl
  all_stand last place (b ∷ bs) up fit first =
      let here = All-head (IsBefore tag) b bs fit in
      pair_passes last place (key_word b.key b.tx) b.value (words_of bs) (record { key = kept b here; behind = first; within = here.lengths.value_within })
      ∙ all_stand (Some (key_word b.key b.tx)) (place + 2) bs (λ i j d lt within. up (suc i) (suc j) d (omega arith) (omega arith)) (All-tail (IsBefore tag) b bs fit) (first_stands b bs up fit)

  none_before : (bs : List Before) → StandsFirst None bs
  unfolding stands_behind
  none_before [] = tt
  none_before (b ∷ bs) = refl

  pub befores_keep : (bs : List Before) → AreBefores tag bs → bad_place (v_rules tag) (words_of bs) ≡ None
  befores_keep bs are = all_stand None 0 bs are.ascend are.fit (none_before bs)

  -- ---- words that keep the rules are befores

  -- what is known of words behind a key word
  record AreHeld (last : Option (List ℕ)) (words : List (List ℕ)) : Type 0 where
    are : AreBefores tag (befores_in words)
    words_are : words ≡ words_of (befores_in words)
    behind : (word : List ℕ) → last ≡ Some word → All (IsEarlier (before_in word [])) (befores_in words)

  stood_earlier : (word other : List ℕ) → stands_behind (Some word) other ≡ true → IsEarlier (before_in word []) (before_in other [])
  unfolding stands_behind
  stood_earlier word other h = is_earlier-true word other (second_so (nat_le 8 (length word)) _ h)

  said : (word value : List ℕ) → AreBytes word → IsKeyWord tag word → length value ≤ 65535 → IsBefore tag (before_in word value)
  unfolding key_in
  said word value bytes key within = record {
    lengths = record {
      not_empty = omega (arith, key.long, length-take (length word - 8) word);
      key_within = omega (arith, key.within, length-take (length word - 8) word);
      value_within = within;
    };
    number = record { fits = number_in-below word bytes; inside = key.inside };
  }

  held_pair : (last : Option (List ℕ)) (word value : List ℕ) (words : List (List ℕ)) → AreBytes word → Stood word value last → AreHeld (Some word) words → AreHeld last (word ∷ value ∷ words)
  held_pair last word value words bytes h rest =
      let here : Before = before_in word value in
      let above = rest.behind word refl in
      record {
        are = record {
          ascend = AllPairs-cons IsEarlier here (befores_in words) above rest.are.ascend;
          fit = All-cons (IsBefore tag) here (befores_in words) (said word value bytes h.key h.within) rest.are.fit;
        };
        words_are = λ i. sym (key_word-said word (omega (arith, h.key.long)) bytes) i ∷ value ∷ rest.words_are i;
        behind = λ before is.
            let less : IsEarlier (before_in before []) here = stood_earlier before word (subst (λ o. stands_behind o word ≡ true) is h.behind) in
            All-cons (IsEarlier (before_in before [])) here (befores_in words) less
            (λ i z below. earlier_chain (before_in before []) here (get_or (befores_in words) i z) less (above i z below));
      }

  held_all : (last : Option (List ℕ)) (place : ℕ) (words : List (List ℕ)) → All AreBytes words → bad_from (v_rules tag) last 0 place words ≡ None → AreHeld last words
  held_all last place [] bytes none = record {
    are = record { ascend = λ i j d lt within. absurd (omega arith); fit = All-nil (IsBefore tag) };
    words_are = refl;
    behind = λ word is. All-nil (IsEarlier (before_in word []));
  }
  held_all last place (word ∷ []) bytes none = absurd (lone_stands last place word ((v_rules tag).key_stands last word) refl none)
  held_all last place (word ∷ value ∷ words) bytes none =
      let stood = stood_from last place word value words none in
      let behind = All-tail AreBytes word (value ∷ words) bytes in
      held_pair last word value words (All-head AreBytes word (value ∷ words) bytes) stood.0
      (held_all (Some word) (place + 2) words (All-tail AreBytes value words behind) stood.1)

  pub words_keep : (words : List (List ℕ)) → All AreBytes words → bad_place (v_rules tag) words ≡ None → AreBefores tag (befores_in words) × (words ≡ words_of (befores_in words))
  words_keep words bytes none = let held = held_all None 0 words bytes none in (held.are, held.words_are)
