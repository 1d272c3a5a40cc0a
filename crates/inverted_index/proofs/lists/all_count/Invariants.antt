use Rattle.std.proofs.Common.{◌≡◌, drop}
use Rattle.std.specs.Option.{option_copied}
use Rattle.inverted_index.specs.EfRules.{are_lists, are_lists_from}
use Rattle.inverted_index.proofs.lists.all_count.Given as goal

abbrev pub invariant-loop-list : goal.invariant-loop-list
invariant-loop-list l = are_lists_from l.tag (option_copied l.last) l.counted (drop l.list-index l.lists) ≡ are_lists l.tag l.lists
