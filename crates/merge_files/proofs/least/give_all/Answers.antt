use Rattle.std.proofs.Common.{◌≡◌, ◌≢◌, ◌+◌, ◌<◌, ◌≤◌, ◌==◌, ℕ, true, false, [], ◌++◌, length, get_or, take, drop, map, slice_set, refl, sym, ◌∙◌, ap, subst, arith, eq-eqb, append-nil, get_or-set_other, get_or-set_same}
use Rattle.std.proofs.lemmas.Bool.{ne_eqb}
use Rattle.std.proofs.lemmas.List.{get_or_default}
use Rattle.merge_files.specs.Walks.{behind_word, word_before, words_given}
use Rattle.merge_files.proofs.Passes.{left-from, given-more, given-all, passed-more, rest-more}
use Rattle.merge_files.proofs.least.give_all.Goals as goal
use Rattle.merge_files.proofs.least.give_all.Goals.{then-marks-i, else-marks-i}

pub loop-i-preserved : goal.loop-i-preserved
loop-i-preserved c =
    let turn = c.args.turn in
    let ms = c.args.marks.now in
    let inputs = c.args.inputs.now in
    let l = c.loop-i in
    let n = l.i in
    let within : n < length inputs = omega arith in
    let short : n < length ms = omega (arith, c.requires.marks) in
    let long : n < length l.inputs = omega (arith, l.auto.inputs) in
    elim c.if-marks-i.branch [
      | then-marks-i w ↦
          let marked : (get_or ms n 0 == turn) ≡ true = eq-eqb (get_or ms n 0) turn w.if-marks-i.true in
          let z = w.index-inputs-i.result in
          let at : get_or l.inputs n z ≡ get_or inputs n [] = get_or_default l.inputs n z [] long ∙ l.invariant.rest n (omega arith) in
          let kept : (j : ℕ) → j ≢ n → get_or c.if-marks-i.inputs j [] ≡ get_or l.inputs j [] =
          λ j apart. ap (λ xs. get_or xs j []) w.inputs-is ∙ get_or-set_other l.inputs n j w.give-count.new.input [] apart in
          let here : get_or c.if-marks-i.inputs n [] ≡ behind_word (get_or ms n 0 == turn) (get_or inputs n []) =
          ap (λ xs. get_or xs n []) w.inputs-is ∙ get_or-set_same l.inputs n w.give-count.new.input [] long
          ∙ w.give-count.ensures.input ∙ ap (drop 1) at
          ∙ (λ i. behind_word (sym marked i) (get_or inputs n [])) in
          record {
            few = let h = w.give-count.ensures.count in let f = l.invariant.few in omega (arith, h, f, w.count-is);
            passed = passed-more turn ms inputs l.inputs c.if-marks-i.inputs n l.invariant.passed l.invariant.rest kept here;
            rest = rest-more turn ms inputs l.inputs c.if-marks-i.inputs n l.invariant.passed l.invariant.rest kept here;
            given =
                (λ i. map (λ x. x.now) (take (w.count-is i) (w.words-is i))) ∙ w.give-count.ensures.words
                ∙ (λ i. l.invariant.given i ++ word_before true (at i) [])
                ∙ (λ i. words_given turn (take n ms) (take n inputs) ++ word_before (sym marked i) (get_or inputs n []) [])
                ∙ sym (given-more turn n ms inputs short within);
          }
      | else-marks-i w ↦
          let marked : (get_or ms n 0 == turn) ≡ false = ne_eqb (get_or ms n 0) turn w.if-marks-i.false in
          let kept : (j : ℕ) → j ≢ n → get_or c.if-marks-i.inputs j [] ≡ get_or l.inputs j [] = λ j apart. ap (λ xs. get_or xs j []) w.inputs-is in
          let here : get_or c.if-marks-i.inputs n [] ≡ behind_word (get_or ms n 0 == turn) (get_or inputs n []) =
          ap (λ xs. get_or xs n []) w.inputs-is ∙ l.invariant.rest n (omega arith) ∙ (λ i. behind_word (sym marked i) (get_or inputs n [])) in
          record {
            few = let f = l.invariant.few in omega (arith, f, w.count-is);
            passed = passed-more turn ms inputs l.inputs c.if-marks-i.inputs n l.invariant.passed l.invariant.rest kept here;
            rest = rest-more turn ms inputs l.inputs c.if-marks-i.inputs n l.invariant.passed l.invariant.rest kept here;
            given =
                (λ i. map (λ x. x.now) (take (w.count-is i) (w.words-is i)))
                ∙ l.invariant.given ∙ sym (append-nil (words_given turn (take n ms) (take n inputs)))
                ∙ (λ i. words_given turn (take n ms) (take n inputs) ++ word_before (sym marked i) (get_or inputs n []) [])
                ∙ sym (given-more turn n ms inputs short within);
          }
    ]

pub returns : goal.returns
returns c =
    let turn = c.args.turn in
    let ms = c.args.marks.now in
    let inputs = c.args.inputs.now in
    let l = c.loop-i in
    let over : length inputs ≤ l.i = c.loop-i-test.false in
    let end : l.i ≤ length inputs = omega arith in
    record {
      inputs = left-from turn ms inputs l.inputs c.requires.marks l.auto.inputs (λ j below. l.invariant.passed j (omega arith));
      words = l.invariant.given ∙ given-all turn l.i ms inputs c.requires.marks over;
      count = let f = l.invariant.few in omega (arith, f, end, l.auto.words, c.requires.words);
    }
