-- The lines of replies.
use Rattle.std.specs.Prelude.{ℕ, List, [], ◌∷◌, ◌++◌, codes, decimal, Option, Some, None}
use Rattle.hex.specs.Hex.{encode_lower}
use Rattle.agg_model.specs.declared.page.PageRow.{PageRow}
use Rattle.line_words.specs.declared.reply.Reply.{Reply}
use Rattle.line_words.specs.declared.reply.Reply.TheVariants as reply

-- a word and its number, with a space between them
abbrev pub with_number : List ℕ → ℕ → List ℕ
with_number text n = text ++ codes " " ++ decimal n

-- a word and the bytes of a key or a value, in hex
abbrev pub with_bytes : List ℕ → List ℕ → List ℕ
with_bytes text bytes = text ++ codes " " ++ encode_lower bytes

-- `-` is no value
abbrev pub with_value : List ℕ → Option (List ℕ) → List ℕ
with_value text None = text ++ codes " -"
with_value text (Some value) = with_bytes text value

-- a line for each file
abbrev pub file_lines : List (List ℕ) → List ℕ
file_lines [] = []
file_lines (name ∷ names) = codes "file " ++ name ++ 10 ∷ file_lines names

-- a line for each row of a page
abbrev pub row_line : PageRow → List ℕ
row_line row = with_value (with_bytes (codes "row") row.key) row.value

abbrev pub row_lines : List PageRow → List ℕ
row_lines [] = []
row_lines (row ∷ rows) = row_line row ++ 10 ∷ row_lines rows

-- a line for each number of a page
abbrev pub time_lines : List ℕ → List ℕ
time_lines [] = []
time_lines (n ∷ ns) = with_number (codes "at") n ++ 10 ∷ time_lines ns

-- the last line of a page: the first key, or number, that wasn't given
abbrev pub rows_end : Option (List ℕ) → List ℕ
rows_end None = codes "end"
rows_end (Some key) = with_bytes (codes "more") key

abbrev pub times_end : Option ℕ → List ℕ
times_end None = codes "end"
times_end (Some n) = with_number (codes "more") n

-- the text of a reply, without its last line feed
unfoldable pub reply_line : Reply → List ℕ
reply_line reply.Ok = codes "ok"
reply_line (reply.Committed count next) = with_number (with_number (codes "committed") count) next
reply_line (reply.Opened tx next) = with_number (with_number (codes "opened") tx) next
reply_line (reply.Value value) = with_bytes (codes "value") value
reply_line reply.NoValue = codes "none"
reply_line (reply.Rows rows more) = row_lines rows ++ rows_end more
reply_line (reply.Times numbers more) = time_lines numbers ++ times_end more
reply_line (reply.Files names) = file_lines names ++ codes "end"
reply_line (reply.ErrLong line) = with_number (codes "err long") line
reply_line (reply.ErrSyntax line) = with_number (codes "err syntax") line
reply_line (reply.ErrLength length) = with_number (codes "err length") length
reply_line reply.ErrEntity = codes "err entity"
reply_line (reply.ErrFar far got) = with_number (with_number (codes "err far") far) got
reply_line (reply.ErrOrder last got) = with_number (with_number (codes "err order") last) got
reply_line reply.ErrNotx = codes "err notx"
reply_line reply.ErrLimit = codes "err limit"
reply_line reply.ErrEmpty = codes "err empty"
reply_line (reply.ErrTx tx) = with_number (codes "err tx") tx
reply_line (reply.ErrOpen most) = with_number (codes "err open") most

-- with that line feed (10)
abbrev pub reply_text : Reply → List ℕ
reply_text r = reply_line r ++ 10 ∷ []
