use Rattle.std.proofs.Common.{sym, ◌∙◌}
use Rattle.inverted_index.specs.Climbing.{climbs}
use Rattle.inverted_index.proofs.TextLaws.{read_is, text_passes, text_fails, no_text}
use Rattle.inverted_index.proofs.numbers.read_text.Goals as goal

pub returns-in_default-clause-none : goal.returns-in_default-clause-none
returns-in_default-clause-none c =
    no_text c.args.tag c.args.text.now c.requires (λ items can e. c.in_default.ensures.only items can e)

pub returns-then-list_climbs-clause-found : goal.returns-then-list_climbs-clause-found
returns-then-list_climbs-clause-found c =
    let list = c.in-Ok.list in
    let says = c.in-Ok.ensures.found in
    let climb = sym (c.list_climbs.ensures ∙ (λ i. climbs (c.first_of.ensures i) (c.end_of.ensures i) list)) ∙ c.if-list_climbs.true in
    (text_passes c.args.tag c.args.text.now list says.0 says.1 climb, read_is c.args.text.now list says.0 says.1)

pub returns-else-list_climbs-clause-none : goal.returns-else-list_climbs-clause-none
returns-else-list_climbs-clause-none c =
    let list = c.in-Ok.list in
    let says = c.in-Ok.ensures.found in
    let climb = sym (c.list_climbs.ensures ∙ (λ i. climbs (c.first_of.ensures i) (c.end_of.ensures i) list)) ∙ c.if-list_climbs.false in
    text_fails c.args.tag c.args.text.now list says.0 says.1 climb
