use Rattle.std.proofs.Common.{◌<◌, ◌^◌, ℕ, List, sym, ap, ◌∙◌, subst, arith}
use Rattle.hashed_words.specs.Hashed.{value_of}
use Rattle.history_core.specs.KeyWord.{key_word, befores_in}
use Rattle.history_core.proofs.Found.{value_before-long, value_of-words_of}
use Rattle.history_core.proofs.Held.{file_count}
use Rattle.history_core.proofs.parts.look_up.Goals as goal

pub returns-then-key-clause-value : goal.returns-then-key-clause-value
returns-then-key-clause-value g c =
    let words = c.args.file.now in
    sym (value_before-long words.tag (befores_in words.words) c.args.key.now c.args.tx c.requires.are.fit (omega arith))

pub returns-clause-value : goal.returns-clause-value
returns-clause-value g c =
    let words = c.args.file.now in
    c.value.ensures.value
    ∙ ap (value_of words.words) c.put_key_word.ensures
    ∙ ap (λ (ws : List (List ℕ)). value_of ws (key_word c.args.key.now c.args.tx)) c.requires.words_are
    ∙ value_of-words_of c.args.key.now c.args.tx (omega arith) words.tag (befores_in words.words) c.requires.are.fit

pub returns-clause-plain_steps : goal.returns-clause-plain_steps
returns-clause-plain_steps g c =
    λ digits few.
    let words = c.args.file.now in
    c.value.ensures.plain_steps digits (subst (λ (n : ℕ). n < 2 ^ digits) (sym (file_count words (befores_in words.words) c.requires)) few)
