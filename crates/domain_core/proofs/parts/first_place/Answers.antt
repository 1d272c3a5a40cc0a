use Rattle.std.proofs.Common.{◌+◌, ◌*◌, ◌≤◌, sym, ap, ◌∙◌, subst}
use Rattle.word_file.specs.Spelling.{TaggedWords}
use Rattle.word_file.specs.Paired as keys
use Rattle.btree_index.specs.Keys as places
use Rattle.btree_index.specs.Levels.{levels}
use Rattle.domain_core.proofs.Held.{held_ascend, held_keys, held_first}
use Rattle.domain_core.proofs.parts.first_place.Goals as goal

pub seek-requires-clause-ascending : goal.seek-requires-clause-ascending
seek-requires-clause-ascending g c =
    subst (λ (w : TaggedWords). keys.KeysAscend w.words) (sym c.words.ensures) (held_ascend c.args.words.now.words c.requires.words)

pub returns-clause-place : goal.returns-clause-place
returns-clause-place g c =
    held_first c.args.words.now.words c.requires.words c.args.key.now c.seek.result
    (subst (λ (w : TaggedWords). places.IsFirstNotBelow w.words c.args.key.now c.seek.result) c.words.ensures c.seek.ensures.place)

pub returns-clause-steps : goal.returns-clause-steps
returns-clause-steps g c =
    subst (λ n. c.seek.new.steps ≤ c.args.steps.now + (8 * levels n + 2)) (ap (λ (w : TaggedWords). keys.key_count w.words) c.words.ensures ∙ held_keys c.args.words.now.words c.requires.words) c.seek.ensures.steps
