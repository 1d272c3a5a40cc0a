-- Laws of a text that is answered in part.
use Rattle.std.proofs.Common.{◌≡◌, inl, inr, ℕ, ◌+◌, ◌≤◌, true, List, [], ◌∷◌, ◌++◌, length, take, drop, Option, Some, None, IfSome, is_some, append_assoc, append-nil, refl, ap, subst, sym, ◌∙◌}
use Rattle.std.proofs.lemmas.List.{take-append-drop}
use Rattle.std.specs.Option.{ForSome}
use Rattle.agg_outside.specs.declared.disk.Disk.{Ghosts as DiskGhosts}
use Rattle.line_words.specs.LineCut.{Uncut, Piece, next_cut, rest_cut, pieces_of}
use Rattle.session_link.specs.declared.limits.Limits.{Limits}
use Rattle.session_link.specs.declared.session.Session.{Session}
use Rattle.state_store.specs.declared.store.Store.{Store}
use Rattle.agg_model.specs.ChangeList.{ChangeList}
use Rattle.agg_session.specs.declared.served.Served.{Served}
use Rattle.session_link.specs.State.{State}
use Rattle.agg_session.specs.Answer.{effect, replies, state_after, AreSettled, joined, ended_lines, IsBegun, BeginsWith}
use Rattle.session_link.specs.Running.{StillHas, Stands, HasEffect, EndsAt}
use Rattle.state_store.specs.Store.{Holds, steps_held}
use Rattle.session_link.proofs.StoreLaws.{kept}
use Rattle.agg_session.specs.Served.{IsServed, IsAnswered, HasAnswered, HasStopped}
use Rattle.agg_session.specs.Written.{BeginsToPut}
use Rattle.agg_session.proofs.ServingLaws.{ended_lines-split, ended_lines-none, left_less, whole_text, last_piece, settled-more}

-- where a line wasn't worked on, if there was one
pub ends_before : {D K : Type 0} (disk : DiskGhosts D) (store : Store D K) (list : ChangeList) (o : Option Piece) (after : Piece → ChangeList) → Holds disk store list → IfSome o (λ p. EndsAt disk store list (after p))
ends_before disk store list None after holds = tt
ends_before disk store list (Some p) after holds = inl (kept disk store list holds)

-- the next line is not worked on, whatever it is
pub not_begun : (limits : Limits) (n : ℕ) (rest : List Piece) (s : State) → IsBegun limits n rest s [] s.list
not_begun limits n [] s = (refl, refl)
not_begun limits n (p ∷ rest) s = inl (refl, refl)

module _ {D K : Type 0} (disk : DiskGhosts D) (limits : Limits) (store : Store D K) (first out now : Option (List ℕ)) (start : State) (lines : List Piece) where
  -- between two lines
  pub stopped_between : (session : Session D K) (whole rest : List Piece) → whole ≡ lines ++ rest → store ≡ session.store → now ≡ out → HasAnswered disk limits session first out start lines → HasStopped disk limits store first now start whole
  stopped_between session whole rest is same quiet all = record {
    answered = lines;
    rest = rest;
    lines_are = is;
    part = [];
    list = (state_after limits 1 lines start).list;
    begun = not_begun limits (length lines + 1) rest (state_after limits 1 lines start);
    written = λ before told. quiet ∙ all.written before told ∙ ap Some (sym (append-nil (before ++ joined (replies limits 1 lines start))));
    settled = subst (λ (x : Store D K). AreSettled limits 1 lines start (steps_held x)) (sym same) all.settled;
    kept = subst (λ (x : Store D K). StillHas disk x (state_after limits 1 lines start).list) (sym same) (kept disk session.store (state_after limits 1 lines start).list all.stands.list);
  }

  -- within a line that couldn't be worked on to its end
  pub stopped_within : (session : Session D K) (p : Piece) (number : ℕ) (whole rest : List Piece) → steps_held session.store ≤ steps_held store → whole ≡ lines ++ p ∷ rest → number ≡ length lines → now ≡ out → HasAnswered disk limits session first out start lines → EndsAt disk store (state_after limits 1 lines start).list (effect limits (number + 1) p (state_after limits 1 lines start)).state.list → HasStopped disk limits store first now start whole
  stopped_within session p number whole rest more is count quiet all (inl same) = record {
    answered = lines;
    rest = p ∷ rest;
    lines_are = is;
    part = [];
    list = (state_after limits 1 lines start).list;
    begun = inl (refl, refl);
    written = λ before told. quiet ∙ all.written before told ∙ ap Some (sym (append-nil (before ++ joined (replies limits 1 lines start))));
    settled = settled-more limits 1 lines start (steps_held session.store) (steps_held store) more all.settled;
    kept = same;
  }
  stopped_within session p number whole rest more is count quiet all (inr after) = record {
    answered = lines;
    rest = p ∷ rest;
    lines_are = is;
    part = [];
    list = (effect limits (number + 1) p (state_after limits 1 lines start)).state.list;
    begun = inr (
      ((effect limits (length lines + 1) p (state_after limits 1 lines start)).reply, refl),
      ap (λ n. (effect limits (n + 1) p (state_after limits 1 lines start)).state.list) count,
    );
    written = λ before told. quiet ∙ all.written before told ∙ ap Some (sym (append-nil (before ++ joined (replies limits 1 lines start))));
    settled = settled-more limits 1 lines start (steps_held session.store) (steps_held store) more all.settled;
    kept = after;
  }

-- so much of a reply stands behind what stood there, where the sink told at first
record IsPutPart (first now : Option (List ℕ)) (texts : List (List ℕ)) (reply : List ℕ) : Type 0 where
  pub part : List ℕ
  pub begins : BeginsWith part reply
  pub written : ForSome first (λ before. now ≡ Some ((before ++ joined texts) ++ part))

put_part : (first out now : Option (List ℕ)) (texts : List (List ℕ)) (reply : List ℕ) → ForSome first (λ before. out ≡ Some (before ++ joined texts)) → ForSome out (λ b. BeginsToPut b reply now) → IsPutPart first now texts reply
put_part None out now texts reply written put = record { part = []; begins = (reply, refl); written = λ before told. cc }
put_part (Some b) out now texts reply written put =
    let begun : BeginsToPut (b ++ joined texts) reply now = put (b ++ joined texts) (written b refl) in
    record {
      part = take begun.count reply;
      begins = (drop begun.count reply, sym (take-append-drop begun.count reply));
      written = λ before told. let same : b ≡ before = cc in begun.written ∙ ap (λ x. Some ((x ++ joined texts) ++ take begun.count reply)) same;
    }

-- within the reply of a line
stopped_putting : {D K : Type 0} (disk : DiskGhosts D) (limits : Limits) (session after : Session D K) (first out now : Option (List ℕ)) (start : State) (lines : List Piece) (p : Piece) (number : ℕ) (reply : List ℕ) (whole rest : List Piece) → steps_held session.store ≤ steps_held after.store → whole ≡ lines ++ p ∷ rest → number ≡ length lines → HasAnswered disk limits session first out start lines → HasEffect disk after reply (effect limits (number + 1) p (state_after limits 1 lines start)) → ForSome out (λ b. BeginsToPut b reply now) → HasStopped disk limits after.store first now start whole
stopped_putting disk limits session after first out now start lines p number reply whole rest more is count all steps put =
    let s : State = state_after limits 1 lines start in
    let w : IsPutPart first now (replies limits 1 lines start) reply = put_part first out now (replies limits 1 lines start) reply all.written put in
    let told : reply ≡ (effect limits (length lines + 1) p s).reply = steps.told ∙ ap (λ n. (effect limits (n + 1) p s).reply) count in
    record {
      answered = lines;
      rest = p ∷ rest;
      lines_are = is;
      part = w.part;
      list = (effect limits (length lines + 1) p s).state.list;
      begun = inr (subst (BeginsWith w.part) told w.begins, refl);
      written = w.written;
      settled = settled-more limits 1 lines start (steps_held session.store) (steps_held after.store) more all.settled;
      kept = subst (λ n. StillHas disk after.store (effect limits (n + 1) p s).state.list) count (kept disk after.store _ steps.stands.list);
    }

-- ---- where a call ends

-- before a line is cut off, or where nothing more could be taken in
pub stops_before : {D K : Type 0} (disk : DiskGhosts D) (limits : Limits) (old : Served D K) (store : Store D K) (first out now : Option (List ℕ)) (start : State) (text piece : List ℕ) → store ≡ old.session.store → now ≡ out → IsAnswered disk limits old first out start text → HasStopped disk limits store first now start (ended_lines limits.line (text ++ piece))
stops_before disk limits old store first out now start text piece same quiet all =
    let cuts : (later : List ℕ) → pieces_of limits.line ((text ++ piece) ++ later) ≡ all.lines ++ pieces_of limits.line ((old.cut.left ++ piece) ++ later) = λ later.
    ap (pieces_of limits.line) (append_assoc text piece later) ∙ all.cuts (piece ++ later)
    ∙ ap (λ t. all.lines ++ pieces_of limits.line t) (sym (append_assoc old.cut.left piece later)) in
    stopped_between disk limits store first out now start all.lines old.session (ended_lines limits.line (text ++ piece)) (ended_lines limits.line (old.cut.left ++ piece))
    (ended_lines-split limits.line (text ++ piece) (old.cut.left ++ piece) all.lines cuts) same quiet all.all

-- the ended lines of a text of which one more was cut off
ended_lines-more : (limit : ℕ) (text left rest : List ℕ) (lines : List Piece) (p : Piece) → ((later : List ℕ) → pieces_of limit (text ++ later) ≡ lines ++ pieces_of limit (left ++ later)) → ((later : List ℕ) → pieces_of limit (left ++ later) ≡ p ∷ pieces_of limit (rest ++ later)) → ended_lines limit text ≡ lines ++ p ∷ ended_lines limit rest
ended_lines-more limit text left rest lines p cuts less =
    ended_lines-split limit text left lines cuts
    ∙ ap (λ (ps : List Piece). lines ++ ps) (ended_lines-split limit left rest (p ∷ []) less)

module _ {D K : Type 0} (disk : DiskGhosts D) (limits : Limits) (old : Served D K) (first out now : Option (List ℕ)) (start : State) (text : List ℕ) where
  stops_line-by : (store : Store D K) (new : Uncut) (o : Option Piece) → IsServed limits old → new ≡ record old.cut { left = (next_cut old.cut).1 } → (next_cut old.cut).0 ≡ o → true ≡ is_some o → steps_held old.session.store ≤ steps_held store → now ≡ out → (all : IsAnswered disk limits old first out start text) → IfSome o (λ p. EndsAt disk store (state_after limits 1 all.lines start).list (effect limits (old.lines + 1) p (state_after limits 1 all.lines start)).state.list) → HasStopped disk limits store first now start (ended_lines limits.line text)
  stops_line-by store new None served cut is some more quiet all ends = cc
  stops_line-by store new (Some p) served cut is some more quiet all ends =
      stopped_within disk limits store first out now start all.lines old.session p old.lines (ended_lines limits.line text) (ended_lines limits.line new.left) more
      (ended_lines-more limits.line text old.cut.left new.left all.lines p all.cuts (left_less limits.line old.cut new p served.limit cut is)) all.count quiet all.all ends

  -- a line was cut off that couldn't be worked on to its end
  pub stops_line : (store : Store D K) (new : Uncut) → IsServed limits old → new ≡ record old.cut { left = (next_cut old.cut).1 } → true ≡ is_some (next_cut old.cut).0 → steps_held old.session.store ≤ steps_held store → now ≡ out → ((s : State) → Stands disk old.session s → IfSome (next_cut old.cut).0 (λ p. EndsAt disk store s.list (effect limits (old.lines + 1) p s).state.list)) → IsAnswered disk limits old first out start text → HasStopped disk limits store first now start (ended_lines limits.line text)
  stops_line store new served cut some more quiet err all =
      stops_line-by store new (next_cut old.cut).0 served cut refl some more quiet all (err (state_after limits 1 all.lines start) all.all.stands)

  stops_put-by : (after : Session D K) (new : Uncut) (reply : List ℕ) (o : Option Piece) → IsServed limits old → new ≡ record old.cut { left = (next_cut old.cut).1 } → (next_cut old.cut).0 ≡ o → true ≡ is_some o → steps_held old.session.store ≤ steps_held after.store → (all : IsAnswered disk limits old first out start text) → IfSome o (λ p. HasEffect disk after reply (effect limits (old.lines + 1) p (state_after limits 1 all.lines start))) → ForSome out (λ b. BeginsToPut b reply now) → HasStopped disk limits after.store first now start (ended_lines limits.line text)
  stops_put-by after new reply None served cut is some more all steps put = cc
  stops_put-by after new reply (Some p) served cut is some more all steps put =
      stopped_putting disk limits old.session after first out now start all.lines p old.lines reply (ended_lines limits.line text) (ended_lines limits.line new.left) more
      (ended_lines-more limits.line text old.cut.left new.left all.lines p all.cuts (left_less limits.line old.cut new p served.limit cut is)) all.count all.all steps put

  -- its reply couldn't be written to its end
  pub stops_put : (after : Session D K) (new : Uncut) (reply : List ℕ) → IsServed limits old → new ≡ record old.cut { left = (next_cut old.cut).1 } → true ≡ is_some (next_cut old.cut).0 → steps_held old.session.store ≤ steps_held after.store → ((s : State) → Stands disk old.session s → IfSome (next_cut old.cut).0 (λ p. HasEffect disk after reply (effect limits (old.lines + 1) p s))) → ForSome out (λ b. BeginsToPut b reply now) → IsAnswered disk limits old first out start text → HasStopped disk limits after.store first now start (ended_lines limits.line text)
  stops_put after new reply served cut some more exact put all =
      stops_put-by after new reply (next_cut old.cut).0 served cut refl some more all (exact (state_after limits 1 all.lines start) all.all.stands) put

  last_line : (all : IsAnswered disk limits old first out start text) (p : Piece) → IsServed limits old → (next_cut old.cut).0 ≡ None → rest_cut old.cut ≡ Some p → pieces_of limits.line text ≡ all.lines ++ p ∷ []
  last_line all p served none rest =
      whole_text limits.line text old.cut.left all.lines all.cuts
      ∙ ap (λ (ps : List Piece). all.lines ++ ps) (last_piece limits.line old.cut (Some p) served.limit none rest)

  stops_last-by : (store : Store D K) (o : Option Piece) → IsServed limits old → (next_cut old.cut).0 ≡ None → rest_cut old.cut ≡ o → true ≡ is_some o → steps_held old.session.store ≤ steps_held store → now ≡ out → (all : IsAnswered disk limits old first out start text) → IfSome o (λ p. EndsAt disk store (state_after limits 1 all.lines start).list (effect limits (old.lines + 1) p (state_after limits 1 all.lines start)).state.list) → HasStopped disk limits store first now start (pieces_of limits.line text)
  stops_last-by store None served none is some more quiet all ends = cc
  stops_last-by store (Some p) served none is some more quiet all ends =
      stopped_within disk limits store first out now start all.lines old.session p old.lines (pieces_of limits.line text) [] more
      (last_line all p served none is) all.count quiet all.all ends

  -- the same of the last line
  pub stops_last : (store : Store D K) → IsServed limits old → (next_cut old.cut).0 ≡ None → true ≡ is_some (rest_cut old.cut) → steps_held old.session.store ≤ steps_held store → now ≡ out → ((s : State) → Stands disk old.session s → IfSome (rest_cut old.cut) (λ p. EndsAt disk store s.list (effect limits (old.lines + 1) p s).state.list)) → IsAnswered disk limits old first out start text → HasStopped disk limits store first now start (pieces_of limits.line text)
  stops_last store served none some more quiet err all =
      stops_last-by store (rest_cut old.cut) served none refl some more quiet all (err (state_after limits 1 all.lines start) all.all.stands)

  stops_last_put-by : (after : Session D K) (reply : List ℕ) (o : Option Piece) → IsServed limits old → (next_cut old.cut).0 ≡ None → rest_cut old.cut ≡ o → true ≡ is_some o → steps_held old.session.store ≤ steps_held after.store → (all : IsAnswered disk limits old first out start text) → IfSome o (λ p. HasEffect disk after reply (effect limits (old.lines + 1) p (state_after limits 1 all.lines start))) → ForSome out (λ b. BeginsToPut b reply now) → HasStopped disk limits after.store first now start (pieces_of limits.line text)
  stops_last_put-by after reply None served none is some more all steps put = cc
  stops_last_put-by after reply (Some p) served none is some more all steps put =
      stopped_putting disk limits old.session after first out now start all.lines p old.lines reply (pieces_of limits.line text) [] more
      (last_line all p served none is) all.count all.all steps put

  pub stops_last_put : (after : Session D K) (reply : List ℕ) → IsServed limits old → (next_cut old.cut).0 ≡ None → true ≡ is_some (rest_cut old.cut) → steps_held old.session.store ≤ steps_held after.store → ((s : State) → Stands disk old.session s → IfSome (rest_cut old.cut) (λ p. HasEffect disk after reply (effect limits (old.lines + 1) p s))) → ForSome out (λ b. BeginsToPut b reply now) → IsAnswered disk limits old first out start text → HasStopped disk limits after.store first now start (pieces_of limits.line text)
  stops_last_put after reply served none some more exact put all =
      stops_last_put-by after reply (rest_cut old.cut) served none refl some more all (exact (state_after limits 1 all.lines start) all.all.stands) put

-- between two takes, all lines that have their line feed are answered
pub all_ended : {D K : Type 0} (disk : DiskGhosts D) (limits : Limits) (served : Served D K) (first out : Option (List ℕ)) (start : State) (text : List ℕ) → IsServed limits served → (next_cut served.cut).0 ≡ None → IsAnswered disk limits served first out start text → HasAnswered disk limits served.session first out start (ended_lines limits.line text)
all_ended disk limits served first out start text sound none all =
    let whole : ended_lines limits.line text ≡ all.lines =
    ended_lines-split limits.line text served.cut.left all.lines all.cuts
    ∙ ap (λ (ps : List Piece). all.lines ++ ps) (ended_lines-none limits.line served.cut sound.limit none)
    ∙ append-nil all.lines in
    subst (λ (ps : List Piece). HasAnswered disk limits served.session first out start ps) (sym whole) all.all
