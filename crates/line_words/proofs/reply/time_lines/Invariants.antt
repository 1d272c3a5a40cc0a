use Rattle.std.proofs.Common.{◌≡◌, ◌++◌, drop}
use Rattle.line_words.specs.Replies.{time_lines}
use Rattle.line_words.proofs.reply.time_lines.Given as goal

-- the lines so far, and those of the numbers that are left
abbrev pub invariant-loop-number : goal.invariant-loop-number
invariant-loop-number l = l.text.items ++ time_lines (drop l.number-index l.number-items) ≡ time_lines l.numbers
