use Rattle.std.proofs.Common.{◌+◌, ◌≡◌, ◌≤◌, take, drop, length, arith}
use Rattle.std.proofs.lemmas.List.{length-take}
use Rattle.bit_store.specs.Bits.{bits_of, number_of, ones_of}
use Rattle.bit_store.proofs.Numbers.{ones_of-le}
use Rattle.bit_store.proofs.Views.{aligned_word, ones_field}
use Rattle.bit_store.proofs.view.whole_ones.Goals as goal

pub overflow_add-total : goal.overflow_add-total
overflow_add-total c =
    let bits = take c.args.len (bits_of c.args.bytes.now) in
    let inside : c.loop-at.at + 64 ≤ c.args.len = omega (arith, c.loop-at-test.true, c.requires.inside) in
    let word : c.word_at.result ≡ number_of (take 64 (drop c.loop-at.at bits)) = aligned_word c.args.bytes.now c.loop-at.at c.args.len c.word_at.result (λ i. omega (arith, c.type_inv.bytes i)) c.loop-at.invariant.whole inside c.requires.fits c.word_at.type_inv c.word_at.ensures in
    let e = ones_field c.loop-at.at 64 c.word_at.result bits word in
    record { fits = omega (arith, e, c.from-total.ensures, c.loop-at.invariant.counted, ones_of-le (take (c.loop-at.at + 64) bits), length-take (c.loop-at.at + 64) bits, c.loop-at-test.true, c.ranges.to.fits) }

pub loop-at-preserved : goal.loop-at-preserved
loop-at-preserved c =
    let bits = take c.args.len (bits_of c.args.bytes.now) in
    let inside : c.loop-at.at + 64 ≤ c.args.len = omega (arith, c.loop-at-test.true, c.requires.inside) in
    let word : c.word_at.result ≡ number_of (take 64 (drop c.loop-at.at bits)) = aligned_word c.args.bytes.now c.loop-at.at c.args.len c.word_at.result (λ i. omega (arith, c.type_inv.bytes i)) c.loop-at.invariant.whole inside c.requires.fits c.word_at.type_inv c.word_at.ensures in
    let e = ones_field c.loop-at.at 64 c.word_at.result bits word in
    record {
      begun = omega (arith, c.loop-at.invariant.begun);
      within = omega (arith, c.loop-at-test.true);
      whole = omega (arith, c.loop-at.invariant.whole);
      counted = omega (arith, e, c.from-total.ensures, c.loop-at.invariant.counted);
    }
