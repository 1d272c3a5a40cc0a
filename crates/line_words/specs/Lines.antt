-- The lines of a text of bytes.
use Rattle.std.specs.Prelude.{ℕ, ◌==◌, if◌then◌else◌, List, [], ◌∷◌, ◌++◌}

-- a last line that has no line feed is a line where it has bytes
abbrev pub last_line : List ℕ → List (List ℕ)
last_line [] = []
last_line (b ∷ bytes) = (b ∷ bytes) ∷ []

-- the lines of a text whose first line began with the bytes `carry`; 10 is the line feed
abbrev pub lines_from : List ℕ → List ℕ → List (List ℕ)
lines_from carry [] = last_line carry
lines_from carry (b ∷ bytes) = if b == 10 then carry ∷ lines_from [] bytes else lines_from (carry ++ b ∷ []) bytes

-- the text cut at each line feed, with carriage returns still in
abbrev pub lines_of : List ℕ → List (List ℕ)
lines_of text = lines_from [] text

-- the bytes without one carriage return (13) at the end
abbrev pub without_cr : List ℕ → List ℕ
without_cr [] = []
without_cr (b ∷ []) = if b == 13 then [] else b ∷ []
without_cr (b ∷ c ∷ bytes) = b ∷ without_cr (c ∷ bytes)
