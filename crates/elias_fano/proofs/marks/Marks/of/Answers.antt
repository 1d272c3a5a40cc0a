use Rattle.std.proofs.Common.{◌≡◌, ◌+◌, ◌-◌, ◌*◌, ◌/◌, ◌∙◌, ℕ, take, replicate, sym, ap, refl, arith}
use Rattle.std.proofs.lemmas.List.{length-take, length-set}
use Rattle.bit_store.specs.Bits.{ones_of}
use Rattle.bit_store.proofs.Numbers.{ones_of-le}
use Rattle.bit_store.proofs.Views.{ones_of-nil}
use Rattle.elias_fano.proofs.Marked.{first_mark, more_marks, place_on}
use Rattle.elias_fano.proofs.marks.Marks.of.Goals as goal

pub loop-used-init : goal.loop-used-init
loop-used-init c = record {
  some = omega arith;
  most = omega arith;
  size = refl;
  place = omega arith;
  within = omega arith;
  counted = sym ones_of-nil;
  ones = first_mark (replicate 512 0) (c.len-len.result / 32768 * 64 + 64) c.args.upper.now refl;
}

pub overflow_add-total : goal.overflow_add-total
overflow_add-total c =
    let bits = c.args.upper.now in
    let to : ℕ = c.loop-used.at + (c.len-len.result / 32768 * 64 + 64) in
    record { fits = omega (arith, c.ones_between-total.ensures, c.loop-used.invariant.counted, ones_of-le (take to bits), length-take to bits, c.requires) }

pub loop-used-preserved : goal.loop-used-preserved
loop-used-preserved c =
    let bits = c.args.upper.now in
    let block : ℕ = c.len-len.result / 32768 * 64 + 64 in
    let used : ℕ = c.loop-used.used in
    let next : used ≡ used + 1 - 1 = omega arith in
    let on : c.loop-used.at + block ≡ used * block = place_on used block c.loop-used.at c.loop-used.invariant.some c.loop-used.invariant.place in
    let counted : c.loop-used.total + c.ones_between-total.result ≡ ones_of (take (c.loop-used.at + block) bits) = omega (arith, c.ones_between-total.ensures, c.loop-used.invariant.counted) in
    record {
      some = omega arith;
      most = omega (arith, c.loop-used-test.true);
      size = length-set c.loop-used.ones used (c.loop-used.total + c.ones_between-total.result) ∙ c.loop-used.invariant.size;
      place = on ∙ ap (λ k. k * block) next;
      within = omega (arith, c.if-block-len.true, c.len-len.ensures);
      counted = counted;
      ones = more_marks c.loop-used.ones used block (c.loop-used.total + c.ones_between-total.result) bits (omega (arith, c.loop-used.invariant.size, c.loop-used-test.true)) (counted ∙ ap (λ n. ones_of (take n bits)) on) c.loop-used.invariant.ones;
    }
