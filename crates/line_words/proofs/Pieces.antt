-- The lines of a text, of which the first or the last is cut off.
use Rattle.std.proofs.Common.{◌≡◌, ℕ, ◌+◌, ◌<◌, ◌≤◌, suc, true, false, List, [], ◌∷◌, ◌++◌, length, get_or, take, drop, map, position, cond, eqb, ltb, Option, Some, None, refl, sym, ap, ◌∙◌, add-one, arith, append_assoc, append-nil, length-take, length-append, take_all, ⊎_elim}
use Rattle.std.specs.List.{position_or_len}
use Rattle.std.specs.Option.{option_to_list}
use Rattle.std.proofs.Math.Seq.{split_at}
use Rattle.std.proofs.lemmas.Bool.{ne_eqb, eqb-false, eqb-true, lt-ltb, ltb-false, cases_lt, cases_Bool}
use Rattle.std.proofs.lemmas.List.{get_or-take}
use Rattle.std.proofs.lemmas.List.Quantifiers.{position-Some}
use Rattle.std.proofs.lemmas.List.Sums.{fails_before_first}
use Rattle.line_words.specs.Lines.{lines_from, last_line}
use Rattle.line_words.specs.LineCut.{Uncut, Piece, TooLong, is_feed, piece_of, pieces_of, cut_at, next_cut, last_from, rest_cut}
use Rattle.line_words.proofs.Feeds.{HasNone}

tail_none : (b : ℕ) (text : List ℕ) → HasNone (b ∷ text) (length (b ∷ text)) → HasNone text (length text)
tail_none b text none i below = none (suc i) (omega arith)

-- bytes that are no line feeds join the line
lines_from-plain : (text carry later : List ℕ) → HasNone text (length text) → lines_from carry (text ++ later) ≡ lines_from (carry ++ text) later
lines_from-plain [] carry later none = ap (λ (c : List ℕ). lines_from c later) (sym (append-nil carry))
lines_from-plain (b ∷ text) carry later none =
    let other : eqb b 10 ≡ false = ne_eqb b 10 (none 0 (omega arith)) in
    rw other (lines_from-plain text (carry ++ b ∷ []) later (tail_none b text none)) ∙ ap (λ (c : List ℕ). lines_from c later) (append_assoc carry (b ∷ []) text)

-- a line feed ends it
lines_from-line : (line carry more : List ℕ) → HasNone line (length line) → lines_from carry (line ++ 10 ∷ more) ≡ (carry ++ line) ∷ lines_from [] more
lines_from-line line carry more none = lines_from-plain line carry (10 ∷ more) none

last_from-plain : (text carry : List ℕ) → HasNone text (length text) → last_from carry text ≡ carry ++ text
last_from-plain [] carry none = sym (append-nil carry)
last_from-plain (b ∷ text) carry none =
    let other : eqb b 10 ≡ false = ne_eqb b 10 (none 0 (omega arith)) in
    rw other (last_from-plain text (carry ++ b ∷ []) (tail_none b text none)) ∙ append_assoc carry (b ∷ []) text

pub last_from-feed : (front carry more : List ℕ) → last_from carry (front ++ 10 ∷ more) ≡ last_from [] more
last_from-feed [] carry more = refl
last_from-feed (b ∷ front) carry more =
    ⊎_elim (λ (is : eqb b 10 ≡ true). rw is (last_from-feed front [] more)) (λ (other : eqb b 10 ≡ false). rw other (last_from-feed front (carry ++ b ∷ []) more))
    (cases_Bool (eqb b 10))

pub last_from-whole : (text : List ℕ) → HasNone text (length text) → last_from [] text ≡ text
last_from-whole text none = last_from-plain text [] none

-- of a line past the limit it doesn't matter which bytes it has
piece_of-long : (limit : ℕ) (line : List ℕ) → limit < length line → piece_of limit line ≡ TooLong
piece_of-long limit line long = rw (lt-ltb limit (length line) long) refl

last_line-long : (limit : ℕ) (line : List ℕ) → limit < length line → map (piece_of limit) (last_line line) ≡ TooLong ∷ []
last_line-long limit [] long = absurd (omega arith)
last_line-long limit (b ∷ line) long = ap (λ (p : Piece). p ∷ []) (piece_of-long limit (b ∷ line) long)

same_if_long : (limit : ℕ) (later a b : List ℕ) → limit < length a → limit < length b → map (piece_of limit) (lines_from a later) ≡ map (piece_of limit) (lines_from b later)
same_if_long limit [] a b long_a long_b = last_line-long limit a long_a ∙ sym (last_line-long limit b long_b)
same_if_long limit (c ∷ later) a b long_a long_b =
    ⊎_elim
    (λ (is : eqb c 10 ≡ true). rw is (ap (λ (p : Piece). p ∷ map (piece_of limit) (lines_from [] later)) (piece_of-long limit a long_a ∙ sym (piece_of-long limit b long_b))))
    (λ (other : eqb c 10 ≡ false). rw other (same_if_long limit later (a ++ c ∷ []) (b ++ c ∷ []) (omega (arith, length-append a (c ∷ []))) (omega (arith, length-append b (c ∷ [])))))
    (cases_Bool (eqb c 10))

-- a text in which no line feed was found
none_from_position : (text : List ℕ) → position is_feed text ≡ None → HasNone text (length text)
none_from_position text none i below =
    ⊎_elim
    (λ (is : ltb (position_or_len is_feed text) (length text) ≡ true).
    let some : Some (position_or_len is_feed text) ≡ None = rw is at none in cc)
    (λ (past : ltb (position_or_len is_feed text) (length text) ≡ false).
    eqb-false (get_or text i 0) 10 (fails_before_first is_feed text i 0 (omega (arith, ltb-false (position_or_len is_feed text) (length text) past))))
    (cases_Bool (ltb (position_or_len is_feed text) (length text)))

-- what is cut off is the first line of the text, however it goes on
cut_at-lines : (limit : ℕ) (left later : List ℕ) (place : Option ℕ) → position is_feed left ≡ place
    → pieces_of limit (left ++ later) ≡ option_to_list (cut_at limit left place).0 ++ pieces_of limit ((cut_at limit left place).1 ++ later)
cut_at-lines limit left later None is =
    let none = none_from_position left is in
    ⊎_elim
    (λ (long : limit + 1 < length left).
    let kept : HasNone (take (limit + 1) left) (length (take (limit + 1) left)) =
    λ i below. let low : i < limit + 1 = omega (arith, length-take (limit + 1) left) in
    λ is. none i (omega arith) (sym (get_or-take (limit + 1) left i 0 low) ∙ is) in
    ap (map (piece_of limit)) (lines_from-plain left [] later none)
    ∙ same_if_long limit later left (take (limit + 1) left) (omega arith) (omega (arith, length-take (limit + 1) left))
    ∙ sym (ap (map (piece_of limit)) (lines_from-plain (take (limit + 1) left) [] later kept)))
    (λ (short : length left ≤ limit + 1). ap (λ (text : List ℕ). pieces_of limit (text ++ later)) (sym (take_all (limit + 1) left short)))
    (cases_lt (limit + 1) (length left))
cut_at-lines limit left later (Some k) is =
    let at = position-Some is_feed left k 0 is in
    let none : HasNone (take k left) (length (take k left)) =
    λ i below. let low : i < k = omega (arith, length-take k left) in
    λ is. eqb-false (get_or left i 0) 10 (at.2 i low) (sym (get_or-take k left i 0 low) ∙ is) in
    let parts : left ≡ take k left ++ 10 ∷ drop (k + 1) left =
    rw (← eqb-true (get_or left k 0) 10 at.1) (rw add-one (split_at left k 0 at.0)) in
    ap (λ (text : List ℕ). pieces_of limit (text ++ later)) parts
    ∙ ap (pieces_of limit) (append_assoc (take k left) (10 ∷ drop (k + 1) left) later)
    ∙ ap (map (piece_of limit)) (lines_from-line (take k left) [] (drop (k + 1) left ++ later) none)

pub next_cut-lines : (uncut : Uncut) (later : List ℕ)
    → pieces_of uncut.limit (uncut.left ++ later) ≡ option_to_list (next_cut uncut).0 ++ pieces_of uncut.limit ((next_cut uncut).1 ++ later)
unfolding next_cut
next_cut-lines uncut later = cut_at-lines uncut.limit uncut.left later (position is_feed uncut.left) refl

-- where nothing is cut off there is no line feed
cut_at-none : (limit : ℕ) (left : List ℕ) (place : Option ℕ) → (cut_at limit left place).0 ≡ None → place ≡ None
cut_at-none limit left None is = refl
cut_at-none limit left (Some k) is = cc

last_line-lines : (limit : ℕ) (line : List ℕ) → map (piece_of limit) (last_line line) ≡ option_to_list (cond (eqb (length line) 0) None (Some (piece_of limit line)))
last_line-lines limit [] = refl
last_line-lines limit (b ∷ line) = rw (ne_eqb (length (b ∷ line)) 0 (omega arith)) refl

-- one more line feed makes one line of all that is left
pub next_cut-feed : (uncut : Uncut) → (next_cut uncut).0 ≡ None → pieces_of uncut.limit (uncut.left ++ 10 ∷ []) ≡ piece_of uncut.limit uncut.left ∷ []
unfolding next_cut
next_cut-feed uncut is =
    let none = none_from_position uncut.left (cut_at-none uncut.limit uncut.left (position is_feed uncut.left) is) in
    ap (map (piece_of uncut.limit)) (lines_from-line uncut.left [] [] none)

-- then the last line is all that is left
pub rest_cut-lines : (uncut : Uncut) → (next_cut uncut).0 ≡ None → pieces_of uncut.limit uncut.left ≡ option_to_list (rest_cut uncut)
unfolding next_cut rest_cut
rest_cut-lines uncut is =
    let none = none_from_position uncut.left (cut_at-none uncut.limit uncut.left (position is_feed uncut.left) is) in
    ap (λ (text : List ℕ). pieces_of uncut.limit text) (sym (append-nil uncut.left))
    ∙ ap (map (piece_of uncut.limit)) (lines_from-plain uncut.left [] [] none)
    ∙ last_line-lines uncut.limit uncut.left
    ∙ ap (λ (line : List ℕ). option_to_list (cond (eqb (length line) 0) None (Some (piece_of uncut.limit line)))) (sym (last_from-whole uncut.left none))
