use Rattle.std.proofs.Common.{arith, sym, ap, ◌∙◌, length, ◌-◌, ◌^◌, ◌<◌}
use Rattle.std.proofs.lemmas.List.{drop_all}
use Rattle.bit_store.specs.Counts.{number_in}
use Rattle.bit_store.proofs.Texts.{number_in-nil}
use Rattle.bit_store.proofs.Views.{few_below, few_more}
use Rattle.bit_store.proofs.view.few.Goals as goal

pub loop-k-init : goal.loop-k-init
loop-k-init c = sym (ap number_in (drop_all (length c.args.bytes.now - 0) c.args.bytes.now (omega arith)) ∙ number_in-nil)

pub overflow_mul-number : goal.overflow_mul-number
overflow_mul-number c =
    let small : c.loop-k.number < 2 ^ 56 = few_below c.args.bytes.now c.loop-k.number c.loop-k.k (λ i. omega (arith, c.type_inv.bytes i)) c.requires c.loop-k-test.true c.loop-k.invariant in
    record { fits = omega arith }

pub overflow_add-number : goal.overflow_add-number
overflow_add-number c =
    let small : c.loop-k.number < 2 ^ 56 = few_below c.args.bytes.now c.loop-k.number c.loop-k.k (λ i. omega (arith, c.type_inv.bytes i)) c.requires c.loop-k-test.true c.loop-k.invariant in
    record { fits = omega (arith, c.type_inv.bytes (length c.args.bytes.now - 1 - c.loop-k.k), c.from.ensures) }

pub loop-k-preserved : goal.loop-k-preserved
loop-k-preserved c = rw c.from.ensures (few_more c.args.bytes.now c.loop-k.number c.loop-k.k (λ i. omega (arith, c.type_inv.bytes i)) c.loop-k-test.true c.loop-k.invariant)
