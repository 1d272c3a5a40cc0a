use Rattle.std.proofs.Common.{◌++◌, ◌∷◌, sym, ◌∙◌}
use Rattle.agg_model.specs.Entity.{entity_name}
use Rattle.merge_ranges.specs.Name.{range_and_kind}
use Rattle.merge_ranges.proofs.NameLaws.{entity_name-without, spelled-parts, from_small, to_small}
use Rattle.merge_ranges.proofs.Names.{joined}
use Rattle.merge_ranges.proofs.name.read_any.Goals as goal

pub returns-in_default-clause-only : goal.returns-in_default-clause-only
returns-in_default-clause-only c = λ n is same.
    absurd (c.in_default.ensures.only (entity_name n.entity ++ 46 ∷ range_and_kind n.range n.kind) (sym same ∙ spelled-parts n))

pub returns-in_default-cut_at-clause-only : goal.returns-in_default-cut_at-clause-only
returns-in_default-cut_at-clause-only c = λ n is same.
    let first = c.in-Some.ensures.only (entity_name n.entity ++ 46 ∷ range_and_kind n.range n.kind) (sym same ∙ spelled-parts n) in
    absurd (c.in_default-cut_at.ensures.only (entity_name n.entity) (range_and_kind n.range n.kind) (entity_name-without n.entity) first)

pub returns-clause-found : goal.returns-clause-found
returns-clause-found c =
    joined c.args.text.now c.in-Some.rest.now c.in-Some-cut_at.entity.now c.in-Some-cut_at.tail.now c.name_of.result
    c.in-Some.ensures.found c.in-Some-cut_at.ensures.found c.name_of.ensures.entity c.name_of.ensures.tail

pub returns-clause-only : goal.returns-clause-only
returns-clause-only c = λ n is same.
    let first = c.in-Some.ensures.only (entity_name n.entity ++ 46 ∷ range_and_kind n.range n.kind) (sym same ∙ spelled-parts n) in
    let second = c.in-Some-cut_at.ensures.only (entity_name n.entity) (range_and_kind n.range n.kind) (entity_name-without n.entity) first in
    c.name_of.ensures.only n (from_small n is) (to_small n is) (sym second.0) (sym second.1)
