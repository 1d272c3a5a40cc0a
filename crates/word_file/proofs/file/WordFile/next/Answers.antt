use Rattle.std.proofs.Common.{◌+◌, List, ℕ, length, drop, ap, ◌∙◌}
use Rattle.word_file.specs.Reading.{said_length}
use Rattle.word_file.proofs.Places.{held_read, held_end, held_next, next_some, next_none, placed}
use Rattle.word_file.proofs.file.WordFile.next.Goals as goal

pub end_at-end-requires : goal.end_at-end-requires
end_at-end-requires c =
    let v = c.args.self.now in
    let read = held_read v c.self.invariant c.self.view_is c.args.at c.requires.0 c.requires.1 in
    rw c.as_slice-bytes.ensures read.within

pub returns-then-end-bytes-clause-value : goal.returns-then-end-bytes-clause-value
returns-then-end-bytes-clause-value c = λ i p.
    let v = c.args.self.now in
    let after = c.end_at-end.ensures ∙ ap (λ (b : List ℕ). c.args.at + (4 + said_length (drop c.args.at b))) c.as_slice-bytes.ensures ∙ held_next v c.self.invariant c.self.view_is c.args.at i p in
    let whole = ap length c.as_slice-bytes.ensures ∙ held_end v c.self.invariant c.self.view_is in
    next_some v.words i c.end_at-end.result (length c.as_slice-bytes.result.now) p.within after whole c.if-end-bytes.true

pub returns-else-end-bytes-clause-value : goal.returns-else-end-bytes-clause-value
returns-else-end-bytes-clause-value c = λ i p.
    let v = c.args.self.now in
    let after = c.end_at-end.ensures ∙ ap (λ (b : List ℕ). c.args.at + (4 + said_length (drop c.args.at b))) c.as_slice-bytes.ensures ∙ held_next v c.self.invariant c.self.view_is c.args.at i p in
    let whole = ap length c.as_slice-bytes.ensures ∙ held_end v c.self.invariant c.self.view_is in
    next_none v.words i c.end_at-end.result (length c.as_slice-bytes.result.now) after whole c.if-end-bytes.false

pub returns-then-end-bytes-clause-place : goal.returns-then-end-bytes-clause-place
returns-then-end-bytes-clause-place c = λ i p. placed _ c.args.self.now.words (i + 1) (returns-then-end-bytes-clause-value c i p)
