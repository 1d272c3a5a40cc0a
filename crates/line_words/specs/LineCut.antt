-- A text that comes in pieces, cut into lines.
use Rattle.std.specs.Prelude.{◌≢◌, ℕ, ◌+◌, ◌<◌, ◌≤◌, ◌==◌, Bool, nat_lt, if◌then◌else◌, List, [], ◌∷◌, ◌++◌, length, slice_index, take, drop, map, position, Option, Some, None}
use Rattle.line_words.specs.Lines.{lines_of, without_cr}
use Rattle.line_words.specs.declared.line_cut.Cutting.{Cutting}
use Rattle.line_words.specs.declared.line_cut.Cutting.TheVariants as cutting

-- the limit, and the bytes that came and aren't cut off yet, of which those past the limit of a line may be missing
pub record Uncut : Type 0 where
  pub limit : ℕ
  pub left : List ℕ

-- a line without the carriage return at its end, or one that is longer than the limit with it
pub data Piece : Type 0 where
  Whole : List ℕ → Piece
  TooLong : Piece

abbrev pub is_feed : ℕ → Bool
is_feed b = b == 10

-- what a line is cut off as
abbrev pub piece_of : ℕ → List ℕ → Piece
piece_of limit line = if nat_lt limit (length line) then TooLong else Whole (without_cr line)

-- all lines of a text
abbrev pub pieces_of : ℕ → List ℕ → List Piece
pieces_of limit text = map (piece_of limit) (lines_of text)

-- what is cut off at the place of a line feed, and what is left; with none, one byte past the limit is kept
abbrev pub cut_at : ℕ → List ℕ → Option ℕ → Option Piece × List ℕ
cut_at limit left None = (None, take (limit + 1) left)
cut_at limit left (Some place) = (Some (piece_of limit (take place left)), drop (place + 1) left)

-- the first line that has its line feed
unfoldable pub next_cut : Uncut → Option Piece × List ℕ
next_cut uncut = cut_at uncut.limit uncut.left (position is_feed uncut.left)

-- what stands behind the last line feed of a text that began with the bytes `carry`
abbrev pub last_from : List ℕ → List ℕ → List ℕ
last_from carry [] = carry
last_from carry (b ∷ bytes) = if is_feed b then last_from [] bytes else last_from (carry ++ b ∷ []) bytes

-- the last line, which has no line feed, where it has bytes
unfoldable pub rest_cut : Uncut → Option Piece
rest_cut uncut =
    let line = last_from [] uncut.left in
    if length line == 0 then None else Some (piece_of uncut.limit line)

-- what a cutting shows
abbrev pub cut_of : Cutting → Option Piece
cut_of (cutting.Line line) = Some (Whole line.now)
cut_of cutting.Long = Some TooLong
cut_of cutting.NotYet = None

-- the bytes from `start` on are left, and no line feed stands among those below `seen`
pub record IsSearched (bytes : List ℕ) (start seen : ℕ) : Type 0 where
  pub ordered : start ≤ seen
  pub within : seen ≤ length bytes
  pub none : (i : ℕ) → start ≤ i → i < seen → slice_index bytes i ≢ 10
