use Rattle.std.proofs.Common.{ℕ, ◌==◌, ◌∙◌, sym}
use Rattle.std.proofs.lemmas.List.Sorted.{list_any-IsPermutation}
use Rattle.memory_side.proofs.CallLists.{found_is}
use Rattle.memory_side.proofs.calls.stands_in.Goals as goal

pub returns : goal.returns
returns c =
    let fails = c.args.fails.now in
    let ascending = c.args.ascending.now in
    let number = c.args.number in
    c.is_ok.ensures.value
    ∙ found_is ascending number c.binary_search.result c.requires.sorted c.binary_search.ensures.position
    ∙ sym (list_any-IsPermutation (λ (other : ℕ). other == number) fails ascending c.requires.same)
