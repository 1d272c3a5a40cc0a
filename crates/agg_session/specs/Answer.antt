-- The replies of a session to a text, and the state after it.
use Rattle.std.specs.Prelude.{◌≡◌, ◌⊎◌, ◌≤◌, ℕ, ◌+◌, List, [], ◌∷◌, ◌++◌, length}
use Rattle.std.specs.Prelude.{Option, Some}
use Rattle.std.specs.Option.{ForSome}
use Rattle.agg_model.specs.ChangeList.{ChangeList}
use Rattle.line_words.specs.declared.reply.Reply.TheVariants as says
use Rattle.line_words.specs.LineCut.{Piece, Whole, TooLong, pieces_of}
use Rattle.session_link.specs.declared.limits.Limits.{Limits}
use Rattle.session_link.specs.State.{State, replied, starting}
use Rattle.session_link.specs.Effects.{Effect, effect_of, short_effect}

-- a line as it is cut off: one that is too long is refused
unfoldable pub effect : Limits → ℕ → Piece → State → Effect
effect limits number TooLong s = effect_of (replied s (says.ErrLong number))
effect limits number (Whole line) s = short_effect limits number line s

-- the replies to lines, one for each, of which the first has the number
abbrev pub replies : Limits → ℕ → List Piece → State → List (List ℕ)
replies limits number [] s = []
replies limits number (line ∷ lines) s =
    (effect limits number line s).reply ∷ replies limits (number + 1) lines (effect limits number line s).state

-- the state after lines
abbrev pub state_after : Limits → ℕ → List Piece → State → State
state_after limits number [] s = s
state_after limits number (line ∷ lines) s = state_after limits (number + 1) lines (effect limits number line s).state

-- none of the lines says of more first steps that they are in files
abbrev pub AreSettled : Limits → ℕ → List Piece → State → ℕ → Type 0
AreSettled limits number [] s steps = Unit {0}
AreSettled limits number (line ∷ lines) s steps =
    ((effect limits number line s).settled ≤ steps)
    × AreSettled limits (number + 1) lines (effect limits number line s).state steps

-- texts one after another
abbrev pub joined : List (List ℕ) → List ℕ
joined [] = []
joined (text ∷ texts) = text ++ joined texts

-- all replies of a session over the list to a text
abbrev pub answer : Limits → ChangeList → List ℕ → List ℕ
answer limits list text = joined (replies limits 1 (pieces_of limits.line text) (starting list))

-- the list after a text
abbrev pub after : Limits → ChangeList → List ℕ → ChangeList
after limits list text = (state_after limits 1 (pieces_of limits.line text) (starting list)).list

-- all but the last
abbrev pub but_last : {A : Type 0} → List A → List A
but_last [] = []
but_last (x ∷ []) = []
but_last (x ∷ y ∷ xs) = x ∷ but_last (y ∷ xs)

-- the lines of a text that have their line feed: those of the text with one more, but for the last
abbrev pub ended_lines : ℕ → List ℕ → List Piece
ended_lines limit text = but_last (pieces_of limit (text ++ 10 ∷ []))

-- the text begins with the part
abbrev pub BeginsWith : List ℕ → List ℕ → Type 0
BeginsWith part text = (more : List ℕ) × (text ≡ part ++ more)

-- the first of the lines, which has the number, was not worked on; or it was, and the part is what
-- was written of its reply
abbrev pub IsBegun : Limits → ℕ → List Piece → State → List ℕ → ChangeList → Type 0
IsBegun limits number [] s part list = (part ≡ []) × (list ≡ s.list)
IsBegun limits number (line ∷ lines) s part list =
    ((part ≡ []) × (list ≡ s.list))
    ⊎ (BeginsWith part (effect limits number line s).reply × (list ≡ (effect limits number line s).state.list))

-- Lines from a start on are answered up to somewhere: the first of them whole, the next one in part or
-- not at all. What is written stands behind what the sink had at first, where it tells. The first `steps`
-- steps are in files, as the whole answers say, and the list that was come to is kept.
pub record IsPartway (limits : Limits) (start : State) (lines : List Piece) (first out : Option (List ℕ)) (steps : ℕ)
    (IsKept : ChangeList → Type 0) : Type 0 where
  pub answered : List Piece
  pub rest : List Piece
  pub lines_are : lines ≡ answered ++ rest
  pub part : List ℕ
  pub list : ChangeList
  pub begun : IsBegun limits (length answered + 1) rest (state_after limits 1 answered start) part list
  pub written : ForSome first (λ before. out ≡ Some ((before ++ joined (replies limits 1 answered start)) ++ part))
  pub settled : AreSettled limits 1 answered start steps
  pub kept : IsKept list
