use Rattle.std.proofs.Common.{◌≡◌, ◌++◌, drop}
use Rattle.line_words.specs.Replies.{file_lines}
use Rattle.line_words.proofs.reply.with_files.Given as goal

-- the lines so far, and those of the names that are left
abbrev pub invariant-loop-name : goal.invariant-loop-name
invariant-loop-name l = l.text.items ++ file_lines (drop l.name-index l.name-items) ≡ file_lines l.names
