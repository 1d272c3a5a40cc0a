use Rattle.std.proofs.Common.{List, ℕ, Some, ◌<◌, ◌^◌, ap, sym, subst, ◌∙◌}
use Rattle.inverted_index.specs.EfFile.{lists_in}
use Rattle.inverted_index.proofs.ListWords.{are_counted, held_found, held_missing}
use Rattle.inverted_index.proofs.parts.list_in.Goals as goal

pub opened-requires : goal.opened-requires
opened-requires g c =
    let f = held_found c.args.held.now c.requires c.args.key.now c.in-Some.text.now c.in-Some.ensures.value in
    (f.items, f.text_of)

pub returns-in-Some-clause-numbers : goal.returns-in-Some-clause-numbers
returns-in-Some-clause-numbers g c =
    let f = held_found c.args.held.now c.requires c.args.key.now c.in-Some.text.now c.in-Some.ensures.value in
    ap (λ (items : List ℕ). Some items) (c.opened.ensures f.items f.text_of) ∙ f.is

pub returns-in-Some-clause-plain_steps : goal.returns-in-Some-clause-plain_steps
returns-in-Some-clause-plain_steps g c = λ digits few.
    let counted = are_counted c.args.held.now (lists_in c.args.held.now.words) c.requires in
    c.in-Some.ensures.plain_steps digits (subst (λ (n : ℕ). n < 2 ^ digits) (sym counted) few)

pub returns-in-None-clause-numbers : goal.returns-in-None-clause-numbers
returns-in-None-clause-numbers g c = held_missing c.args.held.now c.requires c.args.key.now c.in-None.ensures.value

pub returns-in-None-clause-plain_steps : goal.returns-in-None-clause-plain_steps
returns-in-None-clause-plain_steps g c = λ digits few.
    let counted = are_counted c.args.held.now (lists_in c.args.held.now.words) c.requires in
    c.in-None.ensures.plain_steps digits (subst (λ (n : ℕ). n < 2 ^ digits) (sym counted) few)
