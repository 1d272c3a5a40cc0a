use Rattle.std.proofs.Common.{◌+◌, ◌≡◌, ◌≤◌, take, drop, arith}
use Rattle.bit_store.specs.Bits.{bits_of, number_of}
use Rattle.bit_store.proofs.Views.{aligned_word, ones_field}
use Rattle.bit_store.proofs.view.past_ones.Goals as goal

pub loop-at-preserved : goal.loop-at-preserved
loop-at-preserved c =
    let bits = take c.args.len (bits_of c.args.bytes.now) in
    let inside : c.loop-at.at + 64 ≤ c.args.len = omega (arith, c.loop-at-test.true) in
    let word : c.word_at.result ≡ number_of (take 64 (drop c.loop-at.at bits)) = aligned_word c.args.bytes.now c.loop-at.at c.args.len c.word_at.result (λ i. omega (arith, c.type_inv.bytes i)) c.loop-at.invariant.whole inside c.requires.fits c.word_at.type_inv c.word_at.ensures in
    let e = ones_field c.loop-at.at 64 c.word_at.result bits word in
    record {
      begun = omega (arith, c.loop-at.invariant.begun);
      within = inside;
      whole = omega (arith, c.loop-at.invariant.whole);
      counted = omega (arith, e, c.from-here.ensures, c.if-here-left.false, c.loop-at.invariant.counted);
    }
