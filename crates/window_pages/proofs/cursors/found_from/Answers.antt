use Rattle.std.proofs.Common.{sym, subst, ◌∙◌}
use Rattle.inverted_index.specs.EfFile.{TaggedLists, words_of}
use Rattle.recsplit_index.specs.Keys.{IsKeyAt}
use Rattle.window_pages.proofs.KeyWalks.{order, below-is, start-key}
use Rattle.window_pages.proofs.cursors.found_from.Goals as goal

pub key_from-requires : goal.key_from-requires
key_from-requires c =
    let f = c.ef-ef.result.now in
    let low = below-is (order c.args.key.now c.args.first.now) (sym c.is_below.ensures ∙ c.if-not-is_below.false) in
    let there = subst (λ (h : TaggedLists). IsKeyAt (words_of h.lists) c.args.key.now c.args.at) (sym c.ef-ef.ensures) c.requires in
    start-key f.lists c.args.first.now c.args.key.now c.args.at c.words-held.ensures.lists.ascend low there
