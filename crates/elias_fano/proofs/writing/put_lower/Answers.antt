use Rattle.std.proofs.Common.{◌≡◌, ◌+◌, ◌^◌, ◌<◌, ◌++◌, ◌∙◌, ℕ, List, Bool, take, get_or, sym, ap, arith}
use Rattle.std.proofs.lemmas.List.{take_all, append-nil}
use Rattle.elias_fano.proofs.Joined.{on_ok}
use Rattle.elias_fano.proofs.Lower.{fields, fields-lower}
use Rattle.bit_store.specs.Bits.{low_bits}
use Rattle.elias_fano.proofs.Waiting.{no_bits, field_waits, field_fits, below_above}
use Rattle.elias_fano.proofs.writing.put_lower.Goals.{then-used-width-gt-FULL+in_ok-push, else-used-width-gt-FULL}
use Rattle.elias_fano.proofs.writing.put_lower.Goals as goal

pub loop-item-init : goal.loop-item-init
loop-item-init c = record { narrow = omega arith; small = omega arith; held = no_bits c.args.bits.now 0 ∙ sym (append-nil c.args.bits.now) }

pub returns : goal.returns
returns c = on_ok c.push-2.result c.push-2.new.self _ _ c.push-2.ensures.ok (c.loop-item.invariant.held ∙ ap (λ xs. c.args.bits.now ++ fields c.args.width xs) (take_all c.loop-item.item-index c.args.items.now (omega arith)) ∙ ap (λ bs. c.args.bits.now ++ bs) (fields-lower c.args.width c.args.items.now))

pushed : (bits front : List Bool) (used word l : ℕ) → l < 64 → bits ≡ front → used ≡ 0 → word ≡ 0 → (used + l < 64) × (word < 2 ^ used) × (bits ++ low_bits used word ≡ front)
pushed bits front used word l narrow is e f = rw (e, f) (omega arith, omega arith, no_bits bits 0 ∙ is)

kept : (bits old front : List Bool) (used u word w l : ℕ) → u + l < 64 → bits ≡ old → used ≡ u → word ≡ w → w < 2 ^ u → old ++ low_bits u w ≡ front → (used + l < 64) × (word < 2 ^ used) × (bits ++ low_bits used word ≡ front)
kept bits old front used u word w l narrow is e f small held = rw (e, f, is) (narrow, small, held)

pub overflow_add-word : goal.overflow_add-word
overflow_add-word c =
    let p = c.if-used-width-gt-FULL in
    let front = c.args.bits.now ++ fields c.args.width (take c.loop-item.item-index c.args.items.now) in
    let ready : (p.used + c.args.width < 64) × (p.word < 2 ^ p.used) × (p.bits ++ low_bits p.used p.word ≡ front) = elim c.if-used-width-gt-FULL.branch [
      | then-used-width-gt-FULL+in_ok-push w ↦
          let flushed = w.bits-is ∙ w.in_ok-push.ensures.ok ∙ c.loop-item.invariant.held in
          pushed p.bits front p.used p.word c.args.width c.requires flushed w.used-is w.word-is
      | else-used-width-gt-FULL w ↦ kept p.bits c.loop-item.bits front p.used c.loop-item.used p.word c.loop-item.word c.args.width (omega (arith, w.if-used-width-gt-FULL.false)) w.bits-is w.used-is w.word-is c.loop-item.invariant.small c.loop-item.invariant.held
    ] in
    let fits = field_fits c.args.width p.used p.word c.low_of.result (get_or c.args.items.now c.loop-item.item-index 0) ready.0 ready.1 c.low_of.ensures in
    rw fits.1 (record { fits = fits.2 })

pub loop-item-preserved : goal.loop-item-preserved
loop-item-preserved c =
    let p = c.if-used-width-gt-FULL in
    let front = c.args.bits.now ++ fields c.args.width (take c.loop-item.item-index c.args.items.now) in
    let ready : (p.used + c.args.width < 64) × (p.word < 2 ^ p.used) × (p.bits ++ low_bits p.used p.word ≡ front) = elim c.if-used-width-gt-FULL.branch [
      | then-used-width-gt-FULL+in_ok-push w ↦
          let flushed = w.bits-is ∙ w.in_ok-push.ensures.ok ∙ c.loop-item.invariant.held in
          pushed p.bits front p.used p.word c.args.width c.requires flushed w.used-is w.word-is
      | else-used-width-gt-FULL w ↦ kept p.bits c.loop-item.bits front p.used c.loop-item.used p.word c.loop-item.word c.args.width (omega (arith, w.if-used-width-gt-FULL.false)) w.bits-is w.used-is w.word-is c.loop-item.invariant.small c.loop-item.invariant.held
    ] in
    let fits = field_fits c.args.width p.used p.word c.low_of.result (get_or c.args.items.now c.loop-item.item-index 0) ready.0 ready.1 c.low_of.ensures in
    rw fits.1 (record {
      narrow = ready.0;
      small = below_above p.used c.args.width p.word c.low_of.result ready.1 fits.0;
      held = field_waits c.args.width p.used p.word c.low_of.result p.bits c.args.bits.now c.args.items.now c.loop-item.item-index c.loop-item-test.true ready.1 c.low_of.ensures ready.2;
    })
