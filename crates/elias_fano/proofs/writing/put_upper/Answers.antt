use Rattle.std.proofs.Common.{◌≡◌, ◌+◌, ◌-◌, ◌/◌, ◌^◌, ◌<◌, ◌++◌, ◌∷◌, [], ◌∙◌, ap, sym, arith, ℕ, true, false, replicate, take, get_or}
use Rattle.std.proofs.lemmas.Nat.{one_shl}
use Rattle.std.proofs.lemmas.List.{take_all, take_more, append-nil, append_assoc}
use Rattle.bit_store.specs.Bits.{low_bits}
use Rattle.elias_fano.proofs.Joined.{on_ok}
use Rattle.elias_fano.proofs.Upper.{walk, top, walk-all, walk-push, top-push, high_le, walk-nil, top-nil}
use Rattle.elias_fano.proofs.Waiting.{no_bits, rise_joined, rise_flushed}
use Rattle.elias_fano.proofs.writing.put_upper.Goals.{then-rise-from, else-rise-from+in_ok-push+in_ok-push_zeros}
use Rattle.elias_fano.proofs.writing.put_upper.Goals as goal

pub loop-item-init : goal.loop-item-init
loop-item-init c = record {
  narrow = omega arith;
  small = omega arith;
  walked = no_bits c.args.bits.now 0 ∙ sym (append-nil c.args.bits.now) ∙ ap (λ bs. c.args.bits.now ++ bs) (sym (walk-nil c.args.width 0));
  reached = sym (top-nil c.args.width 0);
  low = λ k le lt. omega arith;
}

pub loop-item-preserved : goal.loop-item-preserved
loop-item-preserved c =
    let l : ℕ = c.args.width in
    let items = c.args.items.now in
    let i : ℕ = c.loop-item.item-index in
    let v : ℕ = get_or items i 0 in
    let rise : ℕ = v / 2 ^ l - c.loop-item.high in
    let old = c.loop-item in
    let new = c.if-rise-from in
    let walked = walk l 0 (take i items) in
    let front = c.args.bits.now ++ walked in
    let more : take (i + 1) items ≡ take i items ++ v ∷ [] = take_more items i 0 c.loop-item-test.true in
    let step : c.args.bits.now ++ walk l 0 (take (i + 1) items) ≡ front ++ (replicate rise false ++ true ∷ []) =
    ap (λ bs. c.args.bits.now ++ bs) (ap (walk l 0) more ∙ walk-push l 0 (take i items) v ∙ ap (λ h. walked ++ (replicate (v / 2 ^ l - h) false ++ true ∷ [])) (sym c.loop-item.invariant.reached)) ∙ sym (append_assoc c.args.bits.now walked (replicate rise false ++ true ∷ [])) in
    let high : new.high ≡ v / 2 ^ l = elim c.if-rise-from.branch [ then-rise-from w ↦ w.high-is | else-rise-from+in_ok-push+in_ok-push_zeros w ↦ w.high-is ] in
    let narrow : new.used < 64 = elim c.if-rise-from.branch [
      | then-rise-from w ↦ omega (arith, w.used-is, w.if-rise-from.true, c.from.ensures)
      | else-rise-from+in_ok-push+in_ok-push_zeros w ↦ omega (arith, w.used-is)
    ] in
    let both : (new.word < 2 ^ new.used) × (new.bits ++ low_bits new.used new.word ≡ front ++ (replicate rise false ++ true ∷ [])) = elim c.if-rise-from.branch [
      | then-rise-from w ↦
          let fits : old.used + rise < 64 = omega (arith, w.if-rise-from.true, c.from.ensures) in
          rise_joined old.used old.word rise new.used new.word _ old.bits new.bits front c.loop-item.invariant.small w.used-is w.word-is (one_shl (old.used + rise) 64 fits) w.bits-is c.loop-item.invariant.walked
      | else-rise-from+in_ok-push+in_ok-push_zeros w ↦
          rise_flushed old.used old.word rise new.used new.word old.bits w.push.new.self w.push_zeros.new.self new.bits front w.in_ok-push.ensures.ok w.in_ok-push_zeros.ensures.ok w.used-is w.word-is w.bits-is c.loop-item.invariant.walked
    ] in
    record {
      narrow = narrow;
      small = both.0;
      walked = both.1 ∙ sym step;
      reached = high ∙ sym (ap (top l 0) more ∙ top-push l 0 (take i items) v);
      low = λ k le lt. omega (arith, high, high_le l v (get_or items k 0) (c.requires.ascends i k 0 (omega arith) lt));
    }

pub returns : goal.returns
returns c = on_ok c.push-2.result c.push-2.new.self _ _ c.push-2.ensures.ok (c.loop-item.invariant.walked ∙ ap (λ xs. c.args.bits.now ++ walk c.args.width 0 xs) (take_all c.loop-item.item-index c.args.items.now (omega arith)) ∙ ap (λ bs. c.args.bits.now ++ bs) (walk-all c.args.width c.args.items.now c.requires.some c.requires.ascends))
