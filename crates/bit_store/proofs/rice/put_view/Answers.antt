use Rattle.std.proofs.Common.{◌≡◌, ◌+◌, ◌-◌, ◌≤◌, ◌++◌, List, Bool, length, take, ap, ◌∙◌, arith}
use Rattle.std.proofs.lemmas.List.{take_all}
use Rattle.bit_store.specs.Bits.{low_bits}
use Rattle.bit_store.proofs.Codes.{piece_put}
use Rattle.bit_store.proofs.rice.put_view.Goals as goal

pub loop-at-preserved : goal.loop-at-preserved
loop-at-preserved c =
    let at = c.loop-at.at in
    let w = c.min-width.result in
    let le : at + w ≤ length c.args.others.now = omega (arith, c.min-width.ensures, c.len-len.ensures, c.loop-at-test.true) in
    (le, c.in_ok-push.ensures.ok ∙ ap (λ (l : List Bool). l ++ low_bits w c.field.result) c.loop-at.invariant.1 ∙ piece_put c.args.bits.now c.args.others.now at w c.field.result le c.field.ensures)

pub returns-clause-ok : goal.returns-clause-ok
returns-clause-ok c =
    c.loop-at.invariant.1 ∙ ap (λ (l : List Bool). c.args.bits.now ++ l) (take_all c.loop-at.at c.args.others.now (omega (arith, c.loop-at-test.false, c.len-len.ensures)))
