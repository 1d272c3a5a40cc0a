use Rattle.std.proofs.Common.{◌≡◌, ◌++◌, drop}
use Rattle.line_words.specs.Replies.{row_lines}
use Rattle.line_words.proofs.reply.row_lines.Given as goal

-- the lines so far, and those of the rows that are left
abbrev pub invariant-loop-row : goal.invariant-loop-row
invariant-loop-row l = l.text.items ++ row_lines (drop l.row-index l.row-items) ≡ row_lines l.rows
