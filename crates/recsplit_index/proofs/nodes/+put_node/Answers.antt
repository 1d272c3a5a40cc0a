use Rattle.std.proofs.Common.{◌++◌, ◌+◌, ◌-◌, ◌<◌, ◌≤◌, Bool, subst, ℕ, length, ap, sym, ◌∙◌, arith}
use Rattle.std.proofs.lemmas.Result.{IfOk-weaker}
use Rattle.bit_store.specs.Rice.{rice_code}
use Rattle.recsplit_index.specs.Nodes.{node, PutsNode}
use Rattle.recsplit_index.proofs.Placements.{puts_node_leaf, puts_no_split, puts_no_left, puts_split, left_some, left_length, both_lengths}
use Rattle.recsplit_index.proofs.nodes.+put_node.Goals as goal

pub returns-then-keys-le8 : goal.returns-then-keys-le8
returns-then-keys-le8 t c = λ splits enough.
    IfOk-weaker c.put_leaf.result _ _ (λ placed puts. puts_node_leaf splits c.args.tries c.args.depth c.args.keys.now placed c.args.out.now.codes c.args.out.now.offsets.items c.put_leaf.new.out.codes c.put_leaf.new.out.offsets.items c.if-keys-le8.true puts) c.put_leaf.ensures

pub returns-in_default : goal.returns-in_default
returns-in_default t c = λ splits enough. puts_no_split splits c.args.tries c.args.depth c.args.keys.now c.args.out.now.codes c.args.out.now.offsets.items enough c.if-keys-le8.false (sym c.in_default.is ∙ c.split_seed.ensures.first)

pub put_node-requires : goal.put_node-requires
put_node-requires t c =
    let keys = c.args.keys.now in
    let less : length c.as_slice.result.now < length keys = omega (arith, ap length c.as_slice.ensures.value, ap length c.in_ok-left.ensures.left, left_length c.args.depth keys c.in-Some.seed c.in-Some.ensures.works, (left_some (length keys) c.if-keys-le8.false).1) in
    (omega (arith, less, c.decreases), (c.requires.tries, omega (arith, less, c.requires.deep)))

pub returns-then-not-branch : goal.returns-then-not-branch
returns-then-not-branch t c = λ splits enough.
    puts_no_left splits c.args.tries c.args.depth c.args.keys.now c.as_slice.result.now c.in-Some.seed c.push.new.self c.args.out.now.codes c.args.out.now.offsets.items c.put_node.new.out.codes c.put_node.new.out.offsets.items enough c.if-keys-le8.false
    (sym c.in-Some.is ∙ c.split_seed.ensures.first) c.in-Some.ensures.works (c.as_slice.ensures.value ∙ c.in_ok-left.ensures.left)
    (λ more fits. subst (λ (b : Bool). PutsNode b (node more c.args.tries (c.args.depth + 1) c.as_slice.result.now) c.push.new.self c.args.out.now.offsets.items c.put_node.new.out.codes c.put_node.new.out.offsets.items) c.if-not-branch.true (c.in_ok-put_node.ensures more fits))

pub put_node-requires-2 : goal.put_node-requires-2
put_node-requires-2 t c =
    let keys = c.args.keys.now in
    let less : length c.as_slice-2.result.now < length keys =
    omega (arith, ap length c.as_slice-2.ensures.value, ap length c.in_ok-left.ensures.right, left_length c.args.depth keys c.in-Some.seed c.in-Some.ensures.works, both_lengths c.args.depth keys c.in-Some.seed, (left_some (length keys) c.if-keys-le8.false).0)
    in
    (omega (arith, less, c.decreases), (c.requires.tries, omega (arith, less, c.requires.deep)))

pub returns : goal.returns
returns t c = λ splits enough.
    let keys = c.args.keys.now in
    let fits : length c.as_slice-2.result.now ≤ splits - 1 =
    omega (arith, enough, ap length c.as_slice-2.ensures.value, ap length c.in_ok-left.ensures.right, left_length c.args.depth keys c.in-Some.seed c.in-Some.ensures.works, both_lengths c.args.depth keys c.in-Some.seed, (left_some (length keys) c.if-keys-le8.false).0)
    in
    IfOk-weaker c.put_node-2.result (λ (placed : Bool). PutsNode placed (node (splits - 1) c.args.tries (c.args.depth + 1) c.as_slice-2.result.now) c.put_node.new.out.codes c.put_node.new.out.offsets.items c.put_node-2.new.out.codes c.put_node-2.new.out.offsets.items) _
    (λ placed puts.
    puts_split splits c.args.tries c.args.depth keys c.as_slice.result.now c.as_slice-2.result.now c.in-Some.seed c.parameter.result placed c.args.out.now.codes c.push.new.self c.args.out.now.offsets.items c.put_node.new.out.codes c.put_node.new.out.offsets.items
    c.put_node-2.new.out.codes c.put_node-2.new.out.offsets.items enough c.if-keys-le8.false (sym c.in-Some.is ∙ c.split_seed.ensures.first) c.in-Some.ensures.works (c.as_slice.ensures.value ∙ c.in_ok-left.ensures.left)
    (c.as_slice-2.ensures.value ∙ c.in_ok-left.ensures.right) c.parameter.ensures.value (c.in_ok-push.ensures.ok ∙ ap (λ (s : ℕ). c.args.out.now.codes ++ rice_code c.parameter.result s) c.from.ensures)
    (λ more less. subst (λ (b : Bool). PutsNode b (node more c.args.tries (c.args.depth + 1) c.as_slice.result.now) c.push.new.self c.args.out.now.offsets.items c.put_node.new.out.codes c.put_node.new.out.offsets.items) c.if-not-branch.false (c.in_ok-put_node.ensures more less))
    puts)
    (c.put_node-2.ensures (splits - 1) fits)
