-- A text in which line feeds were looked for from some place on.
use Rattle.std.proofs.Common.{◌≡◌, ◌≢◌, ℕ, ◌+◌, ◌-◌, ◌<◌, ◌≤◌, List, length, get_or, take, drop, position, Some, None, refl, sym, ap, ◌∙◌, arith, length-take, length-drop, ⊎_elim}
use Rattle.std.specs.List.{slice_range, position_or_len}
use Rattle.std.proofs.lemmas.Bool.{ne_eqb, eqb-true, eq-eqb, lt-ltb, le-ltb, cases_lt}
use Rattle.std.proofs.lemmas.List.{get_or-drop, get_or-take, drop-drop}
use Rattle.std.proofs.lemmas.List.Sums.{position_or_len_is}
use Rattle.memchr.specs.Find.{IsFirstByte, is_byte}
use Rattle.line_words.specs.LineCut.{is_feed, piece_of, cut_at, next_cut, IsSearched}

-- no line feed stands among the first n bytes
abbrev pub HasNone : List ℕ → ℕ → Type 0
HasNone text n = (i : ℕ) → i < n → get_or text i 0 ≢ 10

-- the first line feed of a text, and a text without one
position-is : (text : List ℕ) (place : ℕ) → place < length text → HasNone text place → get_or text place 0 ≡ 10 → position is_feed text ≡ Some place
position-is text place within before here =
    let first : position_or_len is_feed text ≡ place =
    position_or_len_is is_feed text place 0 (omega arith) (λ k below. ne_eqb (get_or text k 0) 10 (before k below)) (λ _. eq-eqb (get_or text place 0) 10 here) in
    rw (first, lt-ltb place (length text) within) refl

position-none : (text : List ℕ) → HasNone text (length text) → position is_feed text ≡ None
position-none text none =
    let first : position_or_len is_feed text ≡ length text =
    position_or_len_is is_feed text (length text) 0 (omega arith) (λ k below. ne_eqb (get_or text k 0) 10 (none k below)) (λ past. absurd (omega arith)) in
    rw (first, le-ltb (length text) (length text) (omega arith)) refl

module _ (bytes : List ℕ) (start seen : ℕ) (searched : IsSearched bytes start seen) where
  -- the search goes on
  searched_to : (n : ℕ) → HasNone (drop seen bytes) n → (j : ℕ) → start ≤ j → j < seen + n → get_or bytes j 0 ≢ 10
  searched_to n ahead j from below =
      ⊎_elim
      (λ (before : j < seen). searched.none j from before)
      (λ (past : seen ≤ j).
      let place : seen + (j - seen) ≡ j = omega arith in
      let same : get_or (drop seen bytes) (j - seen) 0 ≡ get_or bytes j 0 = get_or-drop seen bytes (j - seen) 0 ∙ ap (λ k. get_or bytes k 0) place in
      λ is. ahead (j - seen) (omega arith) (same ∙ is))
      (cases_lt j seen)

  pub left_has_none : (n : ℕ) → HasNone (drop seen bytes) n → HasNone (drop start bytes) (seen + n - start)
  left_has_none n ahead i below = λ is.
      searched_to n ahead (start + i) (omega arith) (omega arith) (sym (get_or-drop start bytes i 0) ∙ is)

  pub missed : IsFirstByte (is_byte 10) (drop seen bytes) None → HasNone (drop seen bytes) (length (drop seen bytes))
  missed none i below = λ is. none i (omega arith) below (eq-eqb (get_or (drop seen bytes) i 0) 10 is)

  -- with no line feed, none of the bytes that are left is one
  pub none_left : IsFirstByte (is_byte 10) (drop seen bytes) None → (j : ℕ) → start ≤ j → j < length bytes → get_or bytes j 0 ≢ 10
  none_left none j from below =
      searched_to (length (drop seen bytes)) (missed none) j from (omega (arith, length-drop seen bytes, searched.within))

  pub nowhere_left : IsFirstByte (is_byte 10) (drop seen bytes) None → HasNone (drop start bytes) (length (drop start bytes))
  nowhere_left none =
      let whole : seen + length (drop seen bytes) - start ≡ length (drop start bytes) = omega (arith, length-drop seen bytes, length-drop start bytes, searched.within, searched.ordered) in
      rw whole at (left_has_none (length (drop seen bytes)) (missed none))

  pub next_cut-missed : (limit : ℕ) → IsFirstByte (is_byte 10) (drop seen bytes) None
      → next_cut (record { limit = limit; left = drop start bytes }) ≡ (None, take (limit + 1) (drop start bytes))
  unfolding next_cut
  next_cut-missed limit none =
      ap (cut_at limit (drop start bytes)) (position-none (drop start bytes) (nowhere_left none))

  pub next_cut-found : (limit k : ℕ) → IsFirstByte (is_byte 10) (drop seen bytes) (Some k)
      → next_cut (record { limit = limit; left = drop start bytes }) ≡ (Some (piece_of limit (slice_range bytes start (seen + k))), drop (seen + k + 1) bytes)
  unfolding next_cut
  next_cut-found limit k first =
      let within : k < length (drop seen bytes) = first.0.high in
      let ahead : HasNone (drop seen bytes) k = λ i below is. first.0.before i (omega arith) below (eq-eqb (get_or (drop seen bytes) i 0) 10 is) in
      let place : start + (seen + k - start) ≡ seen + k = omega (arith, searched.ordered) in
      let here : get_or (drop start bytes) (seen + k - start) 0 ≡ 10 =
      get_or-drop start bytes (seen + k - start) 0 ∙ ap (λ j. get_or bytes j 0) place ∙ sym (get_or-drop seen bytes k 0) ∙ eqb-true (get_or (drop seen bytes) k 0) 10 first.1 in
      let inside : seen + k - start < length (drop start bytes) = omega (arith, length-drop seen bytes, length-drop start bytes, searched.ordered) in
      let rest : drop (seen + k - start + 1) (drop start bytes) ≡ drop (seen + k + 1) bytes =
      drop-drop (seen + k - start + 1) start bytes ∙ ap (λ n. drop n bytes) {y = seen + k + 1} (omega (arith, searched.ordered)) in
      ap (cut_at limit (drop start bytes)) (position-is (drop start bytes) (seen + k - start) inside (left_has_none k ahead) here)
      ∙ ap (λ (left : List ℕ). (Some (piece_of limit (slice_range bytes start (seen + k))), left)) rest

  -- what is kept past the limit of a line that has no end yet
  pub IsSearched-kept : (n : ℕ) → IsFirstByte (is_byte 10) (drop seen bytes) None → IsSearched (take (start + n) bytes) start (length (take (start + n) bytes))
  IsSearched-kept n none = record {
    ordered = omega (arith, length-take (start + n) bytes, searched.ordered, searched.within);
    within = omega arith;
    none = λ i from below is.
        none_left none i from (omega (arith, length-take (start + n) bytes))
        (sym (get_or-take (start + n) bytes i 0 (omega (arith, length-take (start + n) bytes))) ∙ is);
  }
