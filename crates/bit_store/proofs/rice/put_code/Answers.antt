use Rattle.std.proofs.Common.{◌≡◌, ◌++◌, ap, subst, ◌∙◌, List, Bool}
use Rattle.std.specs.Prelude.{OnOk, replicate, ◌/◌, ◌^◌, false}
use Rattle.bit_store.specs.Bits.{low_bits}
use Rattle.bit_store.proofs.Codes.{parts_of_code}
use Rattle.bit_store.proofs.rice.put_code.Goals as goal

pub returns-clause-ok : goal.returns-clause-ok
returns-clause-ok c =
    let bits = c.args.bits.now in
    let before : c.push.new.self ≡ (bits ++ replicate (c.args.value / 2 ^ c.args.r) false) ++ low_bits 1 1 = c.in_ok-push.ensures.ok ∙ ap (λ bs. bs ++ low_bits 1 1) c.in_ok-push_zeros.ensures.ok in
    let after = ap (λ bs. bs ++ low_bits c.args.r c.args.value) before ∙ parts_of_code bits c.args.r c.args.value in
    subst (λ (bs : List Bool). OnOk c.push-2.result (c.push-2.new.self ≡ bs)) after c.push-2.ensures.ok
