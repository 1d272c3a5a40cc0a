use Rattle.std.proofs.Common.{ℕ, ◌++◌, ap, sym, ◌∙◌}
use Rattle.bit_store.specs.Rice.{rice_code}
use Rattle.recsplit_index.proofs.Placements.{puts_few, puts_no_leaf, puts_leaf}
use Rattle.recsplit_index.proofs.nodes.put_leaf.Goals as goal

pub returns-then-keys-lt2 : goal.returns-then-keys-lt2
returns-then-keys-lt2 c = puts_few c.args.tries c.args.depth c.args.keys.now c.args.out.now.codes c.args.out.now.offsets.items c.put_all.new.offsets.items c.if-keys-lt2.true c.in_ok-put_all.ensures

pub returns-in_default : goal.returns-in_default
returns-in_default c = puts_no_leaf c.args.tries c.args.depth c.args.keys.now c.args.out.now.codes c.args.out.now.offsets.items c.if-keys-lt2.false (sym c.in_default.is ∙ c.leaf_seed.ensures.first)

pub returns : goal.returns
returns c =
    puts_leaf c.args.tries c.args.depth c.args.keys.now c.in-Some.seed c.parameter.result c.args.out.now.codes c.args.out.now.offsets.items c.push.new.self c.put_by_position.new.offsets.items c.if-keys-lt2.false (sym c.in-Some.is ∙ c.leaf_seed.ensures.first)
    c.parameter.ensures.value (c.in_ok-push.ensures.ok ∙ ap (λ (s : ℕ). c.args.out.now.codes ++ rice_code c.parameter.result s) c.from.ensures) c.in_ok-put_by_position.ensures
