use Rattle.std.proofs.Common.{List, ◌≡◌, sym, ap, ◌∙◌, subst}
use Rattle.inverted_index.specs.EfFile.{AreLists}
use Rattle.inverted_index.specs.EfRules.{are_lists}
use Rattle.inverted_index.proofs.FittingLists.{are_lists-true, are_lists-from}
use Rattle.inverted_index.proofs.lists.are_lists.Goals as goal

pub returns : goal.returns
returns c =
    let is = c.all_count.ensures ∙ ap (are_lists c.args.tag) c.as_slice.ensures in
    (λ e. are_lists-true c.args.tag c.args.lists.now (sym is ∙ e), λ are. is ∙ are_lists-from c.args.tag c.args.lists.now are)
