use Rattle.std.proofs.Common.{◌+◌, ◌-◌, length, drop, sym, ap, ◌∙◌}
use Rattle.std.specs.Int.{div_ceil}
use Rattle.recsplit_index.specs.Hash.{hash_from, taken_in}
use Rattle.recsplit_index.proofs.Hashes.{piece_more, piece_none}
use Rattle.recsplit_index.proofs.hash.hash_from.Goals as goal

pub loop-at-preserved : goal.loop-at-preserved
loop-at-preserved c =
    let key = c.args.key.now in
    let at = c.loop-at.at in
    ap (λ h. hash_from (div_ceil (length key - (at + 8)) 8) h (drop (at + 8) key)) (c.take_in-hash.ensures ∙ ap (taken_in c.loop-at.hash) c.piece_at.ensures)
    ∙ sym (piece_more c.args.start at c.loop-at.hash key c.loop-at-test.true) ∙ c.loop-at.invariant

pub returns : goal.returns
returns c = sym (piece_none c.loop-at.at c.loop-at.hash c.args.key.now c.loop-at-test.false) ∙ c.loop-at.invariant
