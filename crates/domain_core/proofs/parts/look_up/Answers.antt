use Rattle.std.proofs.Common.{ℕ, ◌+◌, ◌*◌, ◌<◌, ◌≤◌, ◌^◌, length, refl, sym, ap, ◌∙◌, arith, subst}
use Rattle.word_file.specs.Spelling.{TaggedWords}
use Rattle.word_file.specs.Paired.{key_count}
use Rattle.btree_index.specs.Levels.{levels}
use Rattle.domain_core.specs.KvFile.{pairs_in}
use Rattle.domain_core.proofs.Held.{held_keys, held_word, few_digits}
use Rattle.domain_core.proofs.parts.look_up.Goals as goal

pub returns-clause-value : goal.returns-clause-value
returns-clause-value g c = c.value.ensures.value ∙ held_word c.args.words.now.words c.requires c.args.key.now

pub returns-clause-plain_steps : goal.returns-clause-plain_steps
returns-clause-plain_steps g c = λ digits few.
    c.value.ensures.plain_steps digits (subst (λ n. n < 2 ^ digits) (sym (held_keys c.args.words.now.words c.requires)) few)

pub returns-clause-steps : goal.returns-clause-steps
returns-clause-steps g c =
    let words = c.args.words.now.words in
    let count = length (pairs_in words) in
    let keys = held_keys words c.requires in
    let small : count < 2 ^ 64 = omega (arith, keys, ap (λ (w : TaggedWords). length w.words) c.words.ensures, c.count-count.ensures.fits.count) in
    let digits = 4 * levels count + 1 in
    let few : key_count words < 2 ^ digits = subst (λ n. n < 2 ^ digits) (sym keys) (few_digits count (levels count) small refl) in
    omega (arith, c.value.ensures.plain_steps digits few)
