use Rattle.std.proofs.Common.{sym, ◌∙◌}
use Rattle.window_pages.proofs.KeyWalks.{walked-found, walked-there, walked-out, walked-on}
use Rattle.window_pages.proofs.lists.key_from.Goals as goal

pub returns-then-not-is_below-clause-next : goal.returns-then-not-is_below-clause-next
returns-then-not-is_below-clause-next c =
    let w = c.loop-pair.invariant.walked in
    walked-found c.args.ef.now.lists c.args.first.now c.loop-pair.at c.loop-pair._pair w c.pair_at-numbers.result.0.now c.pair_at-numbers.result.1
    (c.pair_at-numbers.ensures w.place w.pair) (sym c.is_below.ensures ∙ c.if-not-is_below.true)

pub returns-then-not-is_below-clause-there : goal.returns-then-not-is_below-clause-there
returns-then-not-is_below-clause-there c =
    let w = c.loop-pair.invariant.walked in
    walked-there c.args.ef.now.lists c.args.first.now c.loop-pair.at c.loop-pair._pair w c.pair_at-numbers.result.0.now c.pair_at-numbers.result.1
    (c.pair_at-numbers.ensures w.place w.pair)

pub returns-in_default-clause-next : goal.returns-in_default-clause-next
returns-in_default-clause-next c =
    let w = c.loop-pair.invariant.walked in
    walked-out c.args.ef.now.lists c.args.first.now c.loop-pair.at c.loop-pair._pair w c.pair_at-numbers.result.0.now c.pair_at-numbers.result.1
    (c.pair_at-numbers.ensures w.place w.pair) (sym c.is_below.ensures ∙ c.if-not-is_below.false) (c.in_default.ensures.none w.place w.pair)

pub loop-pair-preserved : goal.loop-pair-preserved
loop-pair-preserved c =
    let w = c.loop-pair.invariant.walked in
    record {
      ends = c.loop-pair.invariant.ends;
      walked =
          walked-on c.args.ef.now.lists c.args.first.now c.loop-pair.at c.loop-pair._pair w c.pair_at-numbers.result.0.now c.pair_at-numbers.result.1 c.in-Some.behind
          (c.pair_at-numbers.ensures w.place w.pair) (sym c.is_below.ensures ∙ c.if-not-is_below.false) (c.in-Some.ensures.some w.place w.pair);
    }
