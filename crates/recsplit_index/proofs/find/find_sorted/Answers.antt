use Rattle.std.proofs.Common.{ℕ, List, ◌+◌, ◌-◌, ◌/◌, ◌<◌, length, refl, ap, sym, ◌∙◌, arith}
use Rattle.std.specs.Ordering.{nat_cmp}
use Rattle.std.specs.Cmp.Lexicographic.{slice_cmp}
use Rattle.recsplit_index.specs.Keys.{by_key}
use Rattle.recsplit_index.proofs.Plains.{plain_long, entry_read}
use Rattle.recsplit_index.proofs.Sortings.{goes_up, goes_down, halving_all, probe_few, entry_found}
use Rattle.recsplit_index.proofs.find.find_sorted.Goals as goal

pub number_at-offset-requires : goal.number_at-offset-requires
number_at-offset-requires g c = omega (arith, plain_long c.args.words.now.words c.args.count c.args.bytes.now c.requires, c.requires.counted, c.loop-low.invariant.halving.within, c.loop-low-test.true)

pub compare_at-requires : goal.compare_at-requires
compare_at-requires g c =
    let middle = c.loop-low.low + (c.loop-low.high - c.loop-low.low) / 2 in
    let words = c.args.words.now.words in
    let lt : middle < length (by_key words) = omega (arith, c.loop-low.invariant.halving.within, c.loop-low-test.true) in
    let e = entry_read words c.args.count c.args.bytes.now middle c.number_at-offset.result c.requires lt c.number_at-offset.ensures in
    (e.place, e.stands)

pub loop-low-preserved-in-Less : goal.loop-low-preserved-in-Less
loop-low-preserved-in-Less g c =
    let middle = c.loop-low.low + (c.loop-low.high - c.loop-low.low) / 2 in
    let words = c.args.words.now.words in
    let key = c.args.key.now in
    let h = c.loop-low.invariant.halving in
    let lt : middle < length (by_key words) = omega (arith, h.within, c.loop-low-test.true) in
    let e = entry_read words c.args.count c.args.bytes.now middle c.number_at-offset.result c.requires lt c.number_at-offset.ensures in
    let less = ap (λ (w : List ℕ). slice_cmp nat_cmp w key) (sym e.word_is) ∙ sym (c.compare_at.ensures.value e.place e.stands) ∙ c.in-Less.is in
    record {
      halving = goes_up words key c.loop-low.low c.loop-low.high middle c.args.steps.now c.loop-low.steps c.compare_at.new.steps c.loop-low-test.true refl c.compare_at.ensures.steps less h;
      counted = record { each = λ digits many. omega (arith, c.compare_at.ensures.steps, probe_few words key c.loop-low.low c.loop-low.high c.args.steps.now c.loop-low.steps digits c.loop-low-test.true h many) };
    }

pub returns-in-Equal-clause-found : goal.returns-in-Equal-clause-found
returns-in-Equal-clause-found g c =
    let middle = c.loop-low.low + (c.loop-low.high - c.loop-low.low) / 2 in
    let words = c.args.words.now.words in
    let key = c.args.key.now in
    let lt : middle < length (by_key words) = omega (arith, c.loop-low.invariant.halving.within, c.loop-low-test.true) in
    let e = entry_read words c.args.count c.args.bytes.now middle c.number_at-offset.result c.requires lt c.number_at-offset.ensures in
    entry_found words key middle c.number_at-offset.result lt e.offset_is (ap (λ (w : List ℕ). slice_cmp nat_cmp w key) (sym e.word_is) ∙ sym (c.compare_at.ensures.value e.place e.stands) ∙ c.in-Equal.is)

pub returns-in-Equal-clause-steps : goal.returns-in-Equal-clause-steps
returns-in-Equal-clause-steps g c = λ digits many.
    omega (arith, c.compare_at.ensures.steps, probe_few c.args.words.now.words c.args.key.now c.loop-low.low c.loop-low.high c.args.steps.now c.loop-low.steps digits c.loop-low-test.true c.loop-low.invariant.halving many)

pub loop-low-preserved : goal.loop-low-preserved
loop-low-preserved g c =
    let middle = c.loop-low.low + (c.loop-low.high - c.loop-low.low) / 2 in
    let words = c.args.words.now.words in
    let key = c.args.key.now in
    let h = c.loop-low.invariant.halving in
    let lt : middle < length (by_key words) = omega (arith, h.within, c.loop-low-test.true) in
    let e = entry_read words c.args.count c.args.bytes.now middle c.number_at-offset.result c.requires lt c.number_at-offset.ensures in
    let greater = ap (λ (w : List ℕ). slice_cmp nat_cmp w key) (sym e.word_is) ∙ sym (c.compare_at.ensures.value e.place e.stands) ∙ c.in-Greater.is in
    record {
      halving = goes_down words key c.loop-low.low c.loop-low.high middle c.args.steps.now c.loop-low.steps c.compare_at.new.steps c.loop-low-test.true refl c.compare_at.ensures.steps greater h;
      counted = record { each = λ digits many. omega (arith, c.compare_at.ensures.steps, probe_few words key c.loop-low.low c.loop-low.high c.args.steps.now c.loop-low.steps digits c.loop-low-test.true h many) };
    }

pub returns-clause-none : goal.returns-clause-none
returns-clause-none g c = halving_all c.args.words.now.words c.args.key.now c.loop-low.low c.loop-low.high c.args.steps.now c.loop-low.steps c.loop-low-test.false c.loop-low.invariant.halving
