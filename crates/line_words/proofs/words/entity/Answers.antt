use Rattle.std.proofs.Common.{◌≡◌, Some, None, refl}
use Rattle.line_words.proofs.Names.{entity_of_word-found, entity_of_word-none}
use Rattle.line_words.proofs.words.entity.Goals as goal

pub returns-in-Some : goal.returns-in-Some
returns-in-Some c = rw (entity_of_word-found c.args.word.now c.in-Some.entity c.in-Some.ensures.found) refl

pub returns-in-None : goal.returns-in-None
returns-in-None c =
    rw (entity_of_word-none c.args.word.now (λ e is. let both : None ≡ Some e = c.in-None.ensures.only e is in cc)) refl
