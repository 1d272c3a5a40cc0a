use Rattle.std.proofs.Common.{◌-◌, length, true, arith, rules}
use Rattle.std.proofs.lemmas.List.Sorted.{non_decreasing_from_is_sorted}
use Rattle.bench_parts.proofs.lists.text_of.Goals as goal

pub encode-requires-clause-ascends : goal.encode-requires-clause-ascends
encode-requires-clause-ascends c = non_decreasing_from_is_sorted c.args.items.now true c.if-not-is_sorted.ensures.cases

pub returns : goal.returns
returns c =
    let items = c.args.items.now in
    let ascends = non_decreasing_from_is_sorted items true c.if-not-is_sorted.ensures.cases in
    (items, (record { some = search rules; few = search rules; small = omega (arith, c.type_inv.items (length items - 1)); ascends = ascends }, c.in_ok-encode.ensures))
