use Rattle.std.proofs.Common.{◌≡◌, Some, sym, ◌∙◌, subst}
use Rattle.std.specs.Option.{option_copied}
use Rattle.merge_files.specs.Seen.{HasSame, HasNone}
use Rattle.merge_files.specs.Walks.{IsKeyWord, IsKnown}
use Rattle.merge_files.proofs.Choices.{same-seen, behind-seen}
use Rattle.merge_files.proofs.least.look.Goals as goal

pub returns-in-Equal : goal.returns-in-Equal
returns-in-Equal c =
    let kind = c.args.kind in
    let word = c.in-Some.word.now in
    let known = c.in-Some-least.known.now in
    let is_key : IsKeyWord kind known = subst (λ o. IsKnown kind (option_copied o)) c.in-Some-least.is c.requires.least in
    subst (λ o. HasSame kind (option_copied o) c.args.input.now) (sym c.in-Some-least.is)
    (same-seen kind c.args.input.now word c.in-Some._value.now c.in-Some.ensures c.requires.input known is_key (sym c.word_order.ensures ∙ c.in-Equal.is))

pub returns-in-Greater : goal.returns-in-Greater
returns-in-Greater c =
    let kind = c.args.kind in
    let word = c.in-Some.word.now in
    let known = c.in-Some-least.known.now in
    subst (λ o. HasNone kind (option_copied o) c.args.input.now) (sym c.in-Some-least.is)
    (behind-seen kind c.args.input.now word c.in-Some._value.now c.in-Some.ensures c.requires.input known (sym c.word_order.ensures ∙ c.in-Greater.is))
