use Rattle.std.proofs.Common.{◌≡◌, ap, subst, ◌∙◌, arith, length}
use Rattle.std.specs.Prelude.{IfSome}
use Rattle.std.proofs.lemmas.List.Elements.{All-pop}
use Rattle.turn_cell.specs.Passes.{IsAtRest, knowledge_of}
use Rattle.bench_turns.proofs.Counts.{one_joined}
use Rattle.bench_turns.proofs.threads.join_all.Goals as goal

pub loop-pass-preserved : goal.loop-pass-preserved
loop-pass-preserved c =
    let before = c.loop-pass.invariant in
    let joined = c.join.ensures.joined in
    let less = c.in-Some.ensures.len in
    let popped = All-pop (λ p. IsAtRest c.args.cell.now p × (length (knowledge_of p).mine ≡ c.args.count)) _ _ _ c.pop.ensures.items before.5 in
    let last = subst (λ r. IfSome r (λ p. IsAtRest c.args.cell.now p × (length (knowledge_of p).mine ≡ c.args.count))) c.in-Some.is popped.1 in
    let one = one_joined (knowledge_of c.loop-pass.zero) (knowledge_of c.in-Some.pass) (knowledge_of c.join.new.pass) c.args.count joined before.4 last.1 in
    let size = one.0 in
    let sum = before.3 in
    let out = before.2 in
    let left = ap (λ k. k.out) joined in (
      c.join.ensures.rest,
      (ap (λ k. k.number) joined ∙ before.1.0, ap (λ k. k.mine) joined ∙ before.1.1),
      omega arith,
      omega arith,
      one.1,
      popped.0,
    )
