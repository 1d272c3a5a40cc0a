use Rattle.std.proofs.Common.{◌≡◌, ◌<◌, ◌^◌, List, ℕ, length, subst, sym, ap, ◌∙◌, arith}
use Rattle.std.specs.List.Sorted.{IsNonDecreasing}
use Rattle.elias_fano.specs.Spelling.{spelling}
use Rattle.inverted_index.proofs.Climbs.{nondecreasing}
use Rattle.inverted_index.proofs.TextLaws.{text_of_numbers}
use Rattle.inverted_index.proofs.build.push_list.Goals as goal

pub encode-requires-clause-ascends : goal.encode-requires-clause-ascends
encode-requires-clause-ascends c =
    subst IsNonDecreasing (sym c.as_slice.ensures) (nondecreasing c.args.list.now.items c.requires.times.numbers.ascend)

pub push-requires-2 : goal.push-requires-2
push-requires-2 c =
    let text = text_of_numbers c.args.writer.now.tag c.args.list.now.items c.requires.times.numbers c.requires.few in
    let is : c.as_slice-3.result.now ≡ spelling c.args.list.now.items = c.as_slice-3.ensures ∙ c.in_ok-text.ensures ∙ ap spelling c.as_slice.ensures in
    subst (λ (x : List ℕ). length x < 2 ^ 32) (sym is) text.short
