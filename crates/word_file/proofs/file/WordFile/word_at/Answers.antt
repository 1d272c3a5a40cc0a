use Rattle.std.proofs.Common.{List, ℕ, drop, take, ap, ◌∙◌}
use Rattle.word_file.specs.Reading.{said_length}
use Rattle.word_file.proofs.Bodies.{place_is}
use Rattle.word_file.proofs.Places.{held_read}
use Rattle.word_file.proofs.file.WordFile.word_at.Goals as goal

pub word_in-requires : goal.word_in-requires
word_in-requires g c =
    rw c.as_slice-bytes.ensures (held_read c.args.self.now c.self.invariant c.self.view_is c.args.at c.requires.0 c.requires.1).within

pub returns-clause-word : goal.returns-clause-word
returns-clause-word g c = λ i p.
    let seen = λ (b : List ℕ). take (said_length (drop c.args.at b)) (drop 4 (drop c.args.at b)) in
    c.word_in.ensures ∙ ap seen c.as_slice-bytes.ensures ∙ (held_read c.args.self.now c.self.invariant c.self.view_is c.args.at i p).word_is

pub returns-clause-place : goal.returns-clause-place
returns-clause-place g c = place_is c.args.self.now.words c.args.at
