use Rattle.std.proofs.Common.{◌≡◌, ◌++◌, List, Option, [], ◌∷◌, None, Some, length, subst, sym, ap, ◌∙◌}
use Rattle.recsplit_index.specs.declared.nodes.Parts.{Parts}
use Rattle.recsplit_index.specs.declared.keys.HashedKey.{HashedKey}
use Rattle.recsplit_index.specs.Nodes.{node}
use Rattle.recsplit_index.specs.Parts.{IsPart, AreParts, nodes_in}
use Rattle.recsplit_index.proofs.PartLists.{lists_in, is_empty, is_one, no_group, one_fails, one_held}
use Rattle.recsplit_index.proofs.parts.only_part.Goals as goal

pub returns-in_default : goal.returns-in_default
returns-in_default c =
    let none = sym c.in_default.ensures.value in
    subst (λ (l : List Parts). AreParts (Some l) (nodes_in c.args.tries (lists_in c.args.groups.now))) (sym c.new-parts.ensures.items) (no_group c.args.tries (lists_in c.args.groups.now) (is_empty c.args.groups.now none))

pub returns-in_default-2 : goal.returns-in_default-2
returns-in_default-2 c =
    let one = is_one c.args.groups.now c.in-Some.group.now c.requires.few (sym c.in-Some.ensures.value) in
    let group = c.in-Some.group.now.items in
    let part : IsPart None (node (length group) c.args.tries 0 group) =
    subst (λ (o : Option Parts). IsPart o (node (length group) c.args.tries 0 group)) c.in_default-2.is
    (subst (λ (l : List HashedKey). IsPart c.in_ok-part.field-0 (node (length l) c.args.tries 0 l)) c.as_slice.ensures.value c.in_ok-part.ensures) in
    one_fails c.args.tries group (lists_in c.args.groups.now) one part

pub returns : goal.returns
returns c =
    let one = is_one c.args.groups.now c.in-Some.group.now c.requires.few (sym c.in-Some.ensures.value) in
    let group = c.in-Some.group.now.items in
    let part : IsPart (Some c.in-Some-2.part) (node (length group) c.args.tries 0 group) =
    subst (λ (o : Option Parts). IsPart o (node (length group) c.args.tries 0 group)) c.in-Some-2.is
    (subst (λ (l : List HashedKey). IsPart c.in_ok-part.field-0 (node (length l) c.args.tries 0 l)) c.as_slice.ensures.value c.in_ok-part.ensures) in
    let items : c.push.new.self.items ≡ c.in-Some-2.part ∷ [] = c.in_ok-push.ensures.items ∙ ap (λ (l : List Parts). l ++ c.in-Some-2.part ∷ []) c.new-parts.ensures.items in
    subst (λ (l : List Parts). AreParts (Some l) (nodes_in c.args.tries (lists_in c.args.groups.now))) (sym items) (one_held c.args.tries group (lists_in c.args.groups.now) c.in-Some-2.part one part)
