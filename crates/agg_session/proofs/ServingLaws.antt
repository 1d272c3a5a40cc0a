-- Laws of a text that comes in pieces and of what was written.
use Rattle.std.proofs.Common.{◌≡◌, ℕ, ◌+◌, ◌-◌, ◌<◌, ◌≤◌, Bool, true, false, List, [], ◌∷◌, ◌++◌, length, take, drop, Option, Some, None, IfSome, IfNone, is_some, cond, append_assoc, append-nil, ltb, get_or, refl, ap, subst, sym, ◌∙◌, arith, map, eqb, suc, length-append}
use Rattle.std.proofs.Math.Seq.{take-add}
use Rattle.std.proofs.lemmas.Grind.{common_steps}
use Rattle.std.proofs.lemmas.List.{length-drop, get_or-take}
use Rattle.std.proofs.lemmas.List.Quantifiers.{position-Some}
use Rattle.std.proofs.lemmas.List.Sums.{fails_before_first}
use Rattle.std.proofs.lemmas.Bool.{ltb-false}
use Rattle.std.specs.List.{position_or_len}
use Rattle.std.specs.List.{position}
use Rattle.std.specs.Option.{ForSome, option_to_list}
use Rattle.agg_outside.specs.declared.disk.Disk.{Ghosts as DiskGhosts}
use Rattle.line_words.specs.Lines.{lines_from}
use Rattle.line_words.specs.LineCut.{Uncut, Piece, is_feed, piece_of, cut_at, next_cut, rest_cut, pieces_of}
use Rattle.line_words.proofs.Pieces.{next_cut-lines, next_cut-feed, rest_cut-lines}
use Rattle.session_link.specs.declared.limits.Limits.{Limits}
use Rattle.session_link.specs.declared.session.Session.{Session}
use Rattle.agg_session.specs.declared.served.Served.{Served}
use Rattle.session_link.specs.State.{State}
use Rattle.agg_session.specs.Answer.{effect, replies, state_after, AreSettled, joined, but_last, ended_lines}
use Rattle.session_link.specs.Running.{Stands, HasEffect}
use Rattle.state_store.specs.Store.{steps_held}
use Rattle.agg_session.specs.Served.{IsServed, IsAnswered, HasAnswered}

pub whole_rest : (n : ℕ) (xs : List ℕ) → take (length xs - n) (drop n xs) ≡ drop n xs
whole_rest n xs = grind (arith, common_steps)

pub within_rest : (n count : ℕ) (xs piece : List ℕ) → piece ≡ drop n xs → n ≤ length xs → count ≤ length piece → n + count ≤ length xs
within_rest n count xs piece is h g = let k : count ≤ length (drop n xs) = rw is at g in grind (arith, common_steps)

pub put_more : (before text piece : List ℕ) (done count : ℕ) (now next : Option (List ℕ)) → piece ≡ drop done text → now ≡ Some (before ++ take done text) → IfSome now (λ b. next ≡ Some (b ++ take count piece)) → next ≡ Some (before ++ take (done + count) text)
put_more before text piece done count now next is written more =
    let P : Option (List ℕ) → Type 0 = λ o. IfSome o (λ b. next ≡ Some (b ++ take count piece)) in
    let here : next ≡ Some ((before ++ take done text) ++ take count piece) = subst P written more in
    here ∙ ap Some (append_assoc before (take done text) (take count piece) ∙ (λ i. before ++ (take done text ++ take count (is i))) ∙ ap (λ xs. before ++ xs) (sym (take-add done count text)))

-- ---- what a cut leaves

cut_at-shorter : (limit : ℕ) (left : List ℕ) (place : Option ℕ) → position is_feed left ≡ place → true ≡ is_some (cut_at limit left place).0 → length (cut_at limit left place).1 < length left
cut_at-shorter limit left None is some = cc
cut_at-shorter limit left (Some k) is some =
    let within = (position-Some is_feed left k 0 is).0 in
    simp length-drop (omega arith)

pub next_cut-shorter : (uncut : Uncut) → true ≡ is_some (next_cut uncut).0 → length (next_cut uncut).1 < length uncut.left
unfolding next_cut
next_cut-shorter uncut some = cut_at-shorter uncut.limit uncut.left (position is_feed uncut.left) refl some

cut_at-no_longer : (limit : ℕ) (left : List ℕ) (place : Option ℕ) → length (cut_at limit left place).1 ≤ length left
cut_at-no_longer limit left None = length_take limit left
  where
    length_take : (n : ℕ) (xs : List ℕ) → length (take (n + 1) xs) ≤ length xs
    length_take n xs = grind (arith, common_steps)
cut_at-no_longer limit left (Some k) = simp length-drop (omega arith)

pub next_cut-no_longer : (uncut : Uncut) → length (next_cut uncut).1 ≤ length uncut.left
unfolding next_cut
next_cut-no_longer uncut = cut_at-no_longer uncut.limit uncut.left (position is_feed uncut.left)

position-None-by : (xs : List ℕ) (i : ℕ) (t : Bool) → ltb (position_or_len is_feed xs) (length xs) ≡ t → cond t (Some (position_or_len is_feed xs)) None ≡ None → i < length xs → is_feed (get_or xs i 0) ≡ false
position-None-by xs i true is none within = cc
position-None-by xs i false is none within =
    fails_before_first is_feed xs i 0 (omega (arith, ltb-false (position_or_len is_feed xs) (length xs) is))

position-None : (xs : List ℕ) (i : ℕ) → position is_feed xs ≡ None → i < length xs → is_feed (get_or xs i 0) ≡ false
position-None xs i none within = position-None-by xs i (ltb (position_or_len is_feed xs) (length xs)) refl none within

position-take-by : (n : ℕ) (xs : List ℕ) (o : Option ℕ) → position is_feed (take n xs) ≡ o → position is_feed xs ≡ None → o ≡ None
position-take-by n xs None is none = refl
position-take-by n xs (Some k) is none =
    let at = position-Some is_feed (take n xs) k 0 is in
    let low : k < n = grind (arith, common_steps) in
    let within : k < length xs = grind (arith, common_steps) in
    let passes : is_feed (get_or xs k 0) ≡ true = ap is_feed (sym (get_or-take n xs k 0 low)) ∙ at.1 in
    let fails : is_feed (get_or xs k 0) ≡ false = position-None xs k none within in
    cc

cut_at-none : (limit : ℕ) (left : List ℕ) (place : Option ℕ) → (cut_at limit left place).0 ≡ None → place ≡ None
cut_at-none limit left None is = refl
cut_at-none limit left (Some k) is = cc

-- once nothing could be cut off, nothing can be
pub next_cut-none : (uncut : Uncut) → (next_cut uncut).0 ≡ None → (next_cut (record uncut { left = (next_cut uncut).1 })).0 ≡ None
unfolding next_cut
next_cut-none uncut none =
    let nowhere : position is_feed uncut.left ≡ None = cut_at-none uncut.limit uncut.left (position is_feed uncut.left) none in
    let left : (cut_at uncut.limit uncut.left (position is_feed uncut.left)).1 ≡ take (uncut.limit + 1) uncut.left =
    ap (λ p. (cut_at uncut.limit uncut.left p).1) nowhere in
    let still : position is_feed (cut_at uncut.limit uncut.left (position is_feed uncut.left)).1 ≡ None =
    ap (position is_feed) left ∙ position-take-by (uncut.limit + 1) uncut.left (position is_feed (take (uncut.limit + 1) uncut.left)) refl nowhere in
    ap (λ p. (cut_at uncut.limit (cut_at uncut.limit uncut.left (position is_feed uncut.left)).1 p).0) still

-- ---- lines one after another

joined-append : (texts : List (List ℕ)) (text : List ℕ) → joined (texts ++ text ∷ []) ≡ joined texts ++ text
joined-append [] text = append-nil text
joined-append (t ∷ texts) text = ap (λ rest. t ++ rest) (joined-append texts text) ∙ sym (append_assoc t (joined texts) text)

next_number : (n count : ℕ) → n + suc count ≡ (n + 1) + count
next_number n count = omega arith

state_after-one : (limits : Limits) (n : ℕ) (lines : List Piece) (p : Piece) (s : State) → state_after limits n (lines ++ p ∷ []) s ≡ (effect limits (n + length lines) p (state_after limits n lines s)).state
state_after-one limits n [] p s = ap (λ k. (effect limits k p s).state) (plus_none n)
  where
    plus_none : (k : ℕ) → k ≡ k + 0
    plus_none k = omega arith
state_after-one limits n (q ∷ lines) p s =
    let d : State = (effect limits n q s).state in
    state_after-one limits (n + 1) lines p d
    ∙ ap (λ k. (effect limits k p (state_after limits (n + 1) lines d)).state) (sym (next_number n (length lines)))

replies-one : (limits : Limits) (n : ℕ) (lines : List Piece) (p : Piece) (s : State) → replies limits n (lines ++ p ∷ []) s ≡ replies limits n lines s ++ (effect limits (n + length lines) p (state_after limits n lines s)).reply ∷ []
replies-one limits n [] p s = ap (λ k. (effect limits k p s).reply ∷ []) (plus_none n)
  where
    plus_none : (k : ℕ) → k ≡ k + 0
    plus_none k = omega arith
replies-one limits n (q ∷ lines) p s =
    let d : State = (effect limits n q s).state in
    ap (λ (rs : List (List ℕ)). (effect limits n q s).reply ∷ rs)
    (replies-one limits (n + 1) lines p d
    ∙ ap (λ k. replies limits (n + 1) lines d ++ (effect limits k p (state_after limits (n + 1) lines d)).reply ∷ []) (sym (next_number n (length lines))))

-- what lines say of steps holds while more are in files
pub settled-more : (limits : Limits) (n : ℕ) (lines : List Piece) (s : State) (few many : ℕ) → few ≤ many → AreSettled limits n lines s few → AreSettled limits n lines s many
settled-more limits n [] s few many more all = tt
settled-more limits n (p ∷ lines) s few many more all =
    (up all.0 more, settled-more limits (n + 1) lines (effect limits n p s).state few many more all.1)
  where
    up : {a b c : ℕ} → a ≤ b → b ≤ c → a ≤ c
    up h g = omega arith

settled-one : (limits : Limits) (n : ℕ) (lines : List Piece) (p : Piece) (s : State) (steps : ℕ) → AreSettled limits n lines s steps → (effect limits (n + length lines) p (state_after limits n lines s)).settled ≤ steps → AreSettled limits n (lines ++ p ∷ []) s steps
settled-one limits n [] p s steps all one = (subst (λ k. (effect limits k p s).settled ≤ steps) (no_more n) one, tt)
  where
    no_more : (k : ℕ) → k + 0 ≡ k
    no_more k = omega arith
settled-one limits n (q ∷ lines) p s steps all one =
    let d : State = (effect limits n q s).state in (
      all.0,
      settled-one limits (n + 1) lines p d steps all.1
          (subst (λ k. (effect limits k p (state_after limits (n + 1) lines d)).settled ≤ steps) (next_number n (length lines)) one),
    )

-- ---- the lines that have their line feed

but_last-append : {A : Type 0} (xs : List A) (y : A) (ys : List A) → but_last (xs ++ y ∷ ys) ≡ xs ++ but_last (y ∷ ys)
but_last-append [] y ys = refl
but_last-append (x ∷ []) y ys = refl
but_last-append (x ∷ z ∷ xs) y ys = ap (λ rest. x ∷ rest) (but_last-append (z ∷ xs) y ys)

-- a line that has its line feed is the first of some
record HasFirst (limit : ℕ) (lines : List (List ℕ)) : Type 0 where
  pub first : Piece
  pub others : List Piece
  pub are : map (piece_of limit) lines ≡ first ∷ others

has_first-by : (limit b : ℕ) (carry : List ℕ) (later : List (List ℕ)) (more : List (List ℕ)) (t : Bool) → HasFirst limit more → HasFirst limit (cond t (carry ∷ later) more)
has_first-by limit b carry later more true some = record { first = piece_of limit carry; others = map (piece_of limit) later; are = refl }
has_first-by limit b carry later more false some = some

has_first : (limit : ℕ) (text carry : List ℕ) → HasFirst limit (lines_from carry (text ++ 10 ∷ []))
has_first limit [] carry = record { first = piece_of limit carry; others = []; are = refl }
has_first limit (b ∷ text) carry =
    has_first-by limit b carry (lines_from [] (text ++ 10 ∷ [])) (lines_from (carry ++ b ∷ []) (text ++ 10 ∷ [])) (eqb b 10) (has_first limit text (carry ++ b ∷ []))

-- Where lines go before those of what is left, however the text goes on, they go before its ended lines.
pub ended_lines-split : (limit : ℕ) (text left : List ℕ) (lines : List Piece) → ((later : List ℕ) → pieces_of limit (text ++ later) ≡ lines ++ pieces_of limit (left ++ later)) → ended_lines limit text ≡ lines ++ ended_lines limit left
ended_lines-split limit text left lines cuts =
    let some : HasFirst limit (lines_from [] (left ++ 10 ∷ [])) = has_first limit left [] in
    ap but_last (cuts (10 ∷ []))
    ∙ ap (λ (ps : List Piece). but_last (lines ++ ps)) some.are
    ∙ but_last-append lines some.first some.others
    ∙ ap (λ (ps : List Piece). lines ++ but_last ps) (sym some.are)

-- once nothing can be cut off, no line has its line feed
pub ended_lines-none : (limit : ℕ) (uncut : Uncut) → uncut.limit ≡ limit → (next_cut uncut).0 ≡ None → ended_lines limit uncut.left ≡ []
ended_lines-none limit uncut is none =
    subst (λ n. ended_lines n uncut.left ≡ []) is (ap but_last (next_cut-feed uncut none))

-- ---- what a cutting gives

-- nothing was cut off: the lines of what is left stay
left_same : (limit : ℕ) (cut new : Uncut) → cut.limit ≡ limit → new ≡ record cut { left = (next_cut cut).1 } → (next_cut cut).0 ≡ None → (later : List ℕ) → pieces_of limit (cut.left ++ later) ≡ pieces_of limit (new.left ++ later)
left_same limit cut new is cut_is none later =
    subst (λ n. pieces_of n (cut.left ++ later) ≡ pieces_of n (new.left ++ later)) is
    (next_cut-lines cut later
    ∙ ap (λ (o : Option Piece). option_to_list o ++ pieces_of cut.limit ((next_cut cut).1 ++ later)) none
    ∙ ap (λ (u : Uncut). pieces_of cut.limit (u.left ++ later)) (sym cut_is))

-- a line was cut off: it is the first of what was left
pub left_less : (limit : ℕ) (cut new : Uncut) (p : Piece) → cut.limit ≡ limit → new ≡ record cut { left = (next_cut cut).1 } → (next_cut cut).0 ≡ Some p → (later : List ℕ) → pieces_of limit (cut.left ++ later) ≡ p ∷ pieces_of limit (new.left ++ later)
left_less limit cut new p is cut_is some later =
    subst (λ n. pieces_of n (cut.left ++ later) ≡ p ∷ pieces_of n (new.left ++ later)) is
    (next_cut-lines cut later
    ∙ ap (λ (o : Option Piece). option_to_list o ++ pieces_of cut.limit ((next_cut cut).1 ++ later)) some
    ∙ ap (λ (u : Uncut). p ∷ pieces_of cut.limit (u.left ++ later)) (sym cut_is))

-- ---- what is answered

-- one more line is answered, and its reply written
module _ {D K : Type 0} (disk : DiskGhosts D) (limits : Limits) (session after : Session D K) (first out now : Option (List ℕ)) (start : State) (lines : List Piece) (p : Piece) (number : ℕ) (reply : List ℕ) where
  pub answered_one : number ≡ length lines → steps_held session.store ≤ steps_held after.store → (all : HasAnswered disk limits session first out start lines) → HasEffect disk after reply (effect limits (number + 1) p (state_after limits 1 lines start)) → ForSome out (λ b. now ≡ Some (b ++ reply)) → HasAnswered disk limits after first now start (lines ++ p ∷ [])
  answered_one count more all steps put =
      let s : State = state_after limits 1 lines start in
      let at : number + 1 ≡ 1 + length lines = omega (arith, count) in
      let told : reply ≡ (effect limits (1 + length lines) p s).reply = steps.told ∙ ap (λ n. (effect limits n p s).reply) at in
      record {
        settled = settled-one limits 1 lines p start (steps_held after.store)
            (settled-more limits 1 lines start (steps_held session.store) (steps_held after.store) more all.settled)
            (subst (λ n. (effect limits n p s).settled ≤ steps_held after.store) at steps.settled);
        stands = subst (Stands disk after) (ap (λ n. (effect limits n p s).state) at ∙ sym (state_after-one limits 1 lines p start)) steps.stands;
        written = λ before is.
            put (before ++ joined (replies limits 1 lines start)) (all.written before is)
            ∙ ap Some
            (append_assoc before (joined (replies limits 1 lines start)) reply
            ∙ ap (λ rest. before ++ rest)
            (sym (joined-append (replies limits 1 lines start) reply)
            ∙ ap (λ r. joined (replies limits 1 lines start ++ r ∷ [])) told
            ∙ ap joined (sym (replies-one limits 1 lines p start))));
      }

-- nothing was cut off: what was answered stays so
pub answered_same : {D K : Type 0} (disk : DiskGhosts D) (limits : Limits) (old new : Served D K) (first out : Option (List ℕ)) (start : State) (text : List ℕ) → IsServed limits old → new.cut ≡ record old.cut { left = (next_cut old.cut).1 } → (next_cut old.cut).0 ≡ None → new.session ≡ old.session → new.lines ≡ old.lines → IsAnswered disk limits old first out start text → IsAnswered disk limits new first out start text
answered_same disk limits old new first out start text served cut none session lines all = record {
  lines = all.lines;
  cuts = λ later. all.cuts later ∙ ap (λ (ps : List Piece). all.lines ++ ps) (left_same limits.line old.cut new.cut served.limit cut none later);
  count = lines ∙ all.count;
  all = subst (λ (s : Session _ _). HasAnswered disk limits s first out start all.lines) (sym session) all.all;
}

answered_more-by : {D K : Type 0} (disk : DiskGhosts D) (limits : Limits) (old new : Served D K) (o : Option Piece) (reply : List ℕ) (first out now : Option (List ℕ)) (start : State) (text : List ℕ) → IsServed limits old → new.cut ≡ record old.cut { left = (next_cut old.cut).1 } → (next_cut old.cut).0 ≡ o → true ≡ is_some o → new.lines ≡ old.lines + 1 → steps_held old.session.store ≤ steps_held new.session.store → (all : IsAnswered disk limits old first out start text) → IfSome o (λ piece. HasEffect disk new.session reply (effect limits (old.lines + 1) piece (state_after limits 1 all.lines start))) → ForSome out (λ b. now ≡ Some (b ++ reply)) → IsAnswered disk limits new first now start text
answered_more-by disk limits old new None reply first out now start text served cut is some lines more all steps put = cc
answered_more-by disk limits old new (Some p) reply first out now start text served cut is some lines more all steps put = record {
  lines = all.lines ++ p ∷ [];
  cuts = λ later.
      all.cuts later ∙ ap (λ (ps : List Piece). all.lines ++ ps) (left_less limits.line old.cut new.cut p served.limit cut is later)
      ∙ sym (append_assoc all.lines (p ∷ []) (pieces_of limits.line (new.cut.left ++ later)));
  count = omega (arith, lines, all.count, length-append all.lines (p ∷ []));
  all = answered_one disk limits old.session new.session first out now start all.lines p old.lines reply all.count more all.all steps put;
}

-- a line was cut off and its reply written
pub answered_more : {D K : Type 0} (disk : DiskGhosts D) (limits : Limits) (old new : Served D K) (reply : List ℕ) (first out now : Option (List ℕ)) (start : State) (text : List ℕ) → IsServed limits old → new.cut ≡ record old.cut { left = (next_cut old.cut).1 } → true ≡ is_some (next_cut old.cut).0 → new.lines ≡ old.lines + 1 → steps_held old.session.store ≤ steps_held new.session.store → ((s : State) → Stands disk old.session s → IfSome (next_cut old.cut).0 (λ piece. HasEffect disk new.session reply (effect limits (old.lines + 1) piece s))) → ForSome out (λ b. now ≡ Some (b ++ reply)) → IsAnswered disk limits old first out start text → IsAnswered disk limits new first now start text
answered_more disk limits old new reply first out now start text served cut some lines more exact put all =
    answered_more-by disk limits old new (next_cut old.cut).0 reply first out now start text served cut refl some lines more all (exact (state_after limits 1 all.lines start) all.all.stands) put

pub none_there : {A : Type 0} (o : Option A) → false ≡ is_some o → o ≡ None
none_there None e = refl
none_there (Some x) e = cc

pub if_none : {A : Type 0} (o : Option A) (P : Type 0) → o ≡ None → IfNone o P → P
if_none None P e h = h
if_none (Some x) P e h = cc

pub if_some : {A : Type 0} (o : Option A) (P : A → Type 0) (x : A) → o ≡ Some x → IfSome o P → P x
if_some None P x e h = cc
if_some (Some y) P x e h = let same : y ≡ x = cc in subst P same h

-- ---- a piece that came

pub answered_pushed : {D K : Type 0} (disk : DiskGhosts D) (limits : Limits) (old new : Served D K) (piece : List ℕ) (first out : Option (List ℕ)) (start : State) (text : List ℕ) → new.cut ≡ record old.cut { left = old.cut.left ++ piece } → new.session ≡ old.session → new.lines ≡ old.lines → IsAnswered disk limits old first out start text → IsAnswered disk limits new first out start (text ++ piece)
answered_pushed disk limits old new piece first out start text cut session lines all =
    let left : new.cut.left ≡ old.cut.left ++ piece = ap (λ (u : Uncut). u.left) cut in
    let grown : (later : List ℕ) → old.cut.left ++ (piece ++ later) ≡ new.cut.left ++ later = λ later.
    sym (append_assoc old.cut.left piece later) ∙ ap (λ l. l ++ later) (sym left) in
    record {
      lines = all.lines;
      cuts = λ later.
          ap (pieces_of limits.line) (append_assoc text piece later) ∙ all.cuts (piece ++ later)
          ∙ ap (λ t. all.lines ++ pieces_of limits.line t) (grown later);
      count = lines ∙ all.count;
      all = subst (λ (s : Session _ _). HasAnswered disk limits s first out start all.lines) (sym session) all.all;
    }

-- ---- the last line

-- the lines of a text that goes on no more
pub whole_text : (limit : ℕ) (text left : List ℕ) (lines : List Piece) → ((later : List ℕ) → pieces_of limit (text ++ later) ≡ lines ++ pieces_of limit (left ++ later)) → pieces_of limit text ≡ lines ++ pieces_of limit left
whole_text limit text left lines cuts =
    ap (pieces_of limit) (sym (append-nil text)) ∙ cuts [] ∙ ap (λ t. lines ++ pieces_of limit t) (append-nil left)

pub last_piece : (limit : ℕ) (cut : Uncut) (o : Option Piece) → cut.limit ≡ limit → (next_cut cut).0 ≡ None → rest_cut cut ≡ o → pieces_of limit cut.left ≡ option_to_list o
last_piece limit cut o is none rest =
    subst (λ n. pieces_of n cut.left ≡ option_to_list o) is (rest_cut-lines cut none ∙ ap option_to_list rest)

pub finished_same : {D K : Type 0} (disk : DiskGhosts D) (limits : Limits) (old : Served D K) (session : Session D K) (first out : Option (List ℕ)) (start : State) (text : List ℕ) → IsServed limits old → (next_cut old.cut).0 ≡ None → false ≡ is_some (rest_cut old.cut) → session ≡ old.session → IsAnswered disk limits old first out start text → HasAnswered disk limits session first out start (pieces_of limits.line text)
finished_same disk limits old session first out start text served none rest is all =
    let whole : pieces_of limits.line text ≡ all.lines =
    whole_text limits.line text old.cut.left all.lines all.cuts
    ∙ ap (λ (ps : List Piece). all.lines ++ ps) (last_piece limits.line old.cut None served.limit none (none_there (rest_cut old.cut) rest))
    ∙ append-nil all.lines in
    subst (λ (ps : List Piece). HasAnswered disk limits session first out start ps) (sym whole)
    (subst (λ (s : Session _ _). HasAnswered disk limits s first out start all.lines) (sym is) all.all)

finished_more-by : {D K : Type 0} (disk : DiskGhosts D) (limits : Limits) (old : Served D K) (session : Session D K) (o : Option Piece) (reply : List ℕ) (first out now : Option (List ℕ)) (start : State) (text : List ℕ) → IsServed limits old → (next_cut old.cut).0 ≡ None → rest_cut old.cut ≡ o → true ≡ is_some o → steps_held old.session.store ≤ steps_held session.store → (all : IsAnswered disk limits old first out start text) → IfSome o (λ piece. HasEffect disk session reply (effect limits (old.lines + 1) piece (state_after limits 1 all.lines start))) → ForSome out (λ b. now ≡ Some (b ++ reply)) → HasAnswered disk limits session first now start (pieces_of limits.line text)
finished_more-by disk limits old session None reply first out now start text served none is some more all steps put = cc
finished_more-by disk limits old session (Some p) reply first out now start text served none is some more all steps put =
    let whole : pieces_of limits.line text ≡ all.lines ++ p ∷ [] =
    whole_text limits.line text old.cut.left all.lines all.cuts
    ∙ ap (λ (ps : List Piece). all.lines ++ ps) (last_piece limits.line old.cut (Some p) served.limit none is) in
    subst (λ (ps : List Piece). HasAnswered disk limits session first now start ps) (sym whole)
    (answered_one disk limits old.session session first out now start all.lines p old.lines reply all.count more all.all steps put)

pub finished_more : {D K : Type 0} (disk : DiskGhosts D) (limits : Limits) (old : Served D K) (session : Session D K) (reply : List ℕ) (first out now : Option (List ℕ)) (start : State) (text : List ℕ) → IsServed limits old → (next_cut old.cut).0 ≡ None → true ≡ is_some (rest_cut old.cut) → steps_held old.session.store ≤ steps_held session.store → ((s : State) → Stands disk old.session s → IfSome (rest_cut old.cut) (λ piece. HasEffect disk session reply (effect limits (old.lines + 1) piece s))) → ForSome out (λ b. now ≡ Some (b ++ reply)) → IsAnswered disk limits old first out start text → HasAnswered disk limits session first now start (pieces_of limits.line text)
finished_more disk limits old session reply first out now start text served none some more exact put all =
    finished_more-by disk limits old session (rest_cut old.cut) reply first out now start text served none refl some more all (exact (state_after limits 1 all.lines start) all.all.stands) put
