-- How far a text has been answered.
use Rattle.std.specs.Prelude.{◌≡◌, ◌⊎◌, ℕ, ◌+◌, ◌<◌, ◌≤◌, true, List, [], ◌++◌, length, IsSomeAnd, Option, Some, Result}
use Rattle.std.specs.Prelude.{is_some, IfSome, IfNone, IfOk, OnErr}
use Rattle.std.specs.Option.{ForSome}
use Rattle.agg_outside.specs.declared.disk.Disk.{Ghosts as DiskGhosts}
use Rattle.line_words.specs.LineCut.{Piece, pieces_of}
use Rattle.state_store.specs.declared.stop.Stop.{Stop}
use Rattle.state_store.specs.declared.store.Store.{Store}
use Rattle.state_store.specs.Store.{steps_held}
use Rattle.session_link.specs.declared.limits.Limits.{Limits}
use Rattle.agg_session.specs.declared.served.Served.{Served}
use Rattle.session_link.specs.declared.session.Session.{Session}
use Rattle.session_link.specs.State.{State}
use Rattle.agg_session.specs.Answer.{effect, replies, state_after, AreSettled, joined, ended_lines, IsPartway}
use Rattle.session_link.specs.Running.{IsSession, Stands, HasEffect, StillHas, EndsAt, KeepsDevices}

-- Fewer transactions were opened than lines were answered, so that their numbers can be counted, and the epoch is
-- one above the lines at most.
pub record IsServed {D K : Type 0} (limits : Limits) (served : Served D K) : Type 0 where
  pub session : IsSession limits served.session
  pub limit : served.cut.limit ≡ limits.line
  pub opens : served.session.link.opens ≤ served.lines
  pub epoch : served.session.store.hot.epoch ≤ served.lines + 1

-- What a line that may have been cut off gets: the text of its reply, where there was one, and else
-- nothing is done.
pub record IsReplied {D K : Type 0} (disk : DiskGhosts D) (limits : Limits) (number : ℕ)
    (piece : Option Piece) (old new : Session D K) (result : Result (Option (List ℕ)) Stop) : Type 0 where
  pub found : IfOk result (λ text. is_some text ≡ is_some piece)
  pub none : IfOk result (λ text. IfNone text (new ≡ old))
  pub exact : (s : State) → Stands disk old s →
      IfOk result (λ text. IfSome text (λ t.
      IfSome piece (λ p. HasEffect disk new t (effect limits number p s))))
  pub err_found : OnErr result (true ≡ is_some piece)
  pub err : (s : State) → Stands disk old s →
      OnErr result (IfSome piece (λ p. EndsAt disk new.store s.list (effect limits number p s).state.list))
  pub devices : KeepsDevices disk old.store new.store result

-- The lines are answered from a start: their replies stand in the sink behind what it had at first,
-- where it tells, the session stands for the state after them, and the steps that they say are in files.
pub record HasAnswered {D K : Type 0} (disk : DiskGhosts D) (limits : Limits)
    (session : Session D K) (first out : Option (List ℕ)) (start : State) (lines : List Piece) : Type 0 where
  pub stands : Stands disk session (state_after limits 1 lines start)
  pub written : ForSome first (λ before. out ≡ Some (before ++ joined (replies limits 1 lines start)))
  pub settled : AreSettled limits 1 lines start (steps_held session.store)

-- Of a text that comes in pieces these lines are answered, and its others, however it goes on, are
-- those of what the cut has left.
pub record IsAnswered {D K : Type 0} (disk : DiskGhosts D) (limits : Limits)
    (served : Served D K) (first out : Option (List ℕ)) (start : State) (text : List ℕ) : Type 0 where
  pub lines : List Piece
  pub cuts : (later : List ℕ) →
      pieces_of limits.line (text ++ later) ≡ lines ++ pieces_of limits.line (served.cut.left ++ later)
  pub count : served.lines ≡ length lines
  pub all : HasAnswered disk limits served.session first out start lines

-- The lines are answered up to somewhere, and the store is left with the list that was come to.
abbrev pub HasStopped : {D K : Type 0} → DiskGhosts D → Limits → Store D K → Option (List ℕ) →
    Option (List ℕ) → State → List Piece → Type 0
HasStopped disk limits store first out start lines =
    IsPartway limits start lines first out (steps_held store) (StillHas disk store)

-- the text is what was taken of a source, where it tells
abbrev pub IsTaken : Option (List ℕ) → List ℕ → Option (List ℕ) → Type 0
IsTaken before text after = ForSome before (λ input. IsSomeAnd after (λ rest. input ≡ text ++ rest))

-- nothing is left, where the source tells
abbrev pub IsAtEnd : Option (List ℕ) → Option (List ℕ) → Type 0
IsAtEnd before after = ForSome before (λ _. after ≡ Some [])

-- the lines that may be worked on: those that have their line feed, and at the end the last one too
abbrev pub AreDue : ℕ → List ℕ → Option (List ℕ) → Option (List ℕ) → List Piece → Type 0
AreDue limit text before after lines =
    (lines ≡ ended_lines limit text) ⊎ (IsAtEnd before after × (lines ≡ pieces_of limit text))

-- `count` bytes came of a source, none only where none is left, and all lines are answered that now have
-- their line feed.
pub record Takes {D K : Type 0} (disk : DiskGhosts D) (limits : Limits) (old now : Served D K)
    (out_old out : Option (List ℕ)) (left_old left : Option (List ℕ)) (count : ℕ) : Type 0 where
  pub piece : List ℕ
  pub counted : length piece ≡ count
  pub is_taken : IsTaken left_old piece left
  pub none : count ≡ 0 → IsAtEnd left_old left
  pub answers : (start : State) (first : Option (List ℕ)) (text : List ℕ) →
      IsAnswered disk limits old first out_old start text →
      IsAnswered disk limits now first out start (text ++ piece)

-- At most `room` bytes came of a source, and the lines are answered in part that now have their line
-- feed.
pub record TakesPart {D K : Type 0} (disk : DiskGhosts D) (limits : Limits) (room : ℕ)
    (old now : Served D K) (out_old out : Option (List ℕ)) (left_old left : Option (List ℕ)) : Type 0 where
  pub piece : List ℕ
  pub within : length piece ≤ room
  pub is_taken : IsTaken left_old piece left
  pub answers : (start : State) (first : Option (List ℕ)) (text : List ℕ) →
      IsAnswered disk limits old first out_old start text →
      HasStopped disk limits now.session.store first out start (ended_lines limits.line (text ++ piece))

-- A source was taken up to here, and all lines that have their line feed are answered.
pub record Progress {D K : Type 0} (disk : DiskGhosts D) (limits : Limits)
    (old now : Served D K) (out_old out : Option (List ℕ)) (left_old left : Option (List ℕ)) (taken : ℕ) : Type 0 where
  pub text : List ℕ
  pub is_taken : IsTaken left_old text left
  pub counted : length text ≡ taken
  pub answers : (start : State) (first : Option (List ℕ)) → IsAnswered disk limits old first out_old start [] →
      IsAnswered disk limits now first out start text

-- A source was taken to its end, and all lines of it are answered.
pub record ServesAll {D K : Type 0} (disk : DiskGhosts D) (limits : Limits)
    (old now : Served D K) (out_old out : Option (List ℕ)) (left_old left : Option (List ℕ)) : Type 0 where
  pub text : List ℕ
  pub is_taken : IsTaken left_old text left
  pub all : IsAtEnd left_old left
  pub within : length text < limits.bytes
  pub answers : (start : State) (first : Option (List ℕ)) → IsAnswered disk limits old first out_old start [] →
      HasAnswered disk limits now.session first out start (pieces_of limits.line text)

-- A source was taken in part, and all lines that have their line feed are answered.
pub record ServesEnded {D K : Type 0} (disk : DiskGhosts D) (limits : Limits)
    (old now : Served D K) (out_old out : Option (List ℕ)) (left_old left : Option (List ℕ)) : Type 0 where
  pub text : List ℕ
  pub is_taken : IsTaken left_old text left
  pub within : length text ≤ limits.bytes
  pub answers : (start : State) (first : Option (List ℕ)) → IsAnswered disk limits old first out_old start [] →
      HasAnswered disk limits now.session first out start (ended_lines limits.line text)

-- A source was taken in part, and its lines are answered in part.
pub record ServesPart {D K : Type 0} (disk : DiskGhosts D) (limits : Limits)
    (old now : Served D K) (out_old out : Option (List ℕ)) (left_old left : Option (List ℕ)) : Type 0 where
  pub text : List ℕ
  pub is_taken : IsTaken left_old text left
  pub within : length text ≤ limits.bytes
  pub lines : List Piece
  pub due : AreDue limits.line text left_old left lines
  pub answers : (start : State) (first : Option (List ℕ)) → IsAnswered disk limits old first out_old start [] →
      HasStopped disk limits now.session.store first out start lines

-- as many bytes as may be were taken
abbrev pub EndsLong : ℕ → List ℕ → Option (List ℕ) → Type 0
EndsLong most input left = IsSomeAnd left (λ rest. length input ≡ most + length rest)

-- no more bytes than may be were taken, where the source tells
abbrev pub TakesAtMost : ℕ → Option (List ℕ) → Option (List ℕ) → Type 0
TakesAtMost most before after = ForSome before (λ input. IsSomeAnd after (λ rest. length input ≤ most + length rest))

-- fewer bytes than may be were taken
abbrev pub TakesFewer : ℕ → Option (List ℕ) → Option (List ℕ) → Type 0
TakesFewer most before after = ForSome before (λ input. IsSomeAnd after (λ rest. length input < most + length rest))
