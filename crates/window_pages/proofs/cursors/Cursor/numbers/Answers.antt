use Rattle.std.proofs.Common.{sym, ap, subst, ◌∙◌}
use Rattle.inverted_index.specs.EfFile.{TaggedLists}
use Rattle.std.specs.Option.{option_copied}
use Rattle.window_pages.specs.Places.{Place, IsPlaced, is_at}
use Rattle.window_pages.proofs.Places.{at-place, stands-numbers}
use Rattle.window_pages.proofs.cursors.Cursor.numbers.Goals as goal

pub returns : goal.returns
returns c =
    let f = c.ef-ef.result.now in
    let k = c.args.key.now in
    let p = c.args.self.now in
    let next = option_copied c.self.inside.next in
    let here = sym c.is_at.ensures ∙ c.if-not-is_at.false in
    let placed = subst (λ (h : TaggedLists). IsPlaced h.lists next c.self.inside.at) (sym c.ef-ef.ensures) c.self.invariant in
    let there = at-place f.lists next c.self.inside.at k placed (ap (λ (q : Place). is_at q.next k) c.self.view_is ∙ here) in
    stands-numbers p f.lists c.self.inside.at k c.pair_at-numbers.result.0.now c.pair_at-numbers.result.1
    (ap (λ (h : TaggedLists). h.lists) c.ef-ef.ensures ∙ ap (λ (q : Place). q.group.ef.lists) c.self.view_is)
    c.words-held.ensures.lists.ascend here there c.pair_at-numbers.ensures
