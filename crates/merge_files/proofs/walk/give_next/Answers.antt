use Rattle.std.proofs.Common.{◌≡◌, ◌<◌, ◌≤◌, ℕ, List, [], ◌++◌, Some, None, length, get_or, take, drop, map, refl, sym, ◌∙◌, ap, subst, arith}
use Rattle.std.specs.Prelude.{All}
use Rattle.std.specs.Borrow.{Bor}
use Rattle.std.specs.Option.{option_copied}
use Rattle.std.proofs.lemmas.List.{length-map, take-map}
use Rattle.agg_model.specs.declared.contents.Pair.{Pair}
use Rattle.merge_files.specs.Walks.{IsInput, IsLeastOf, IsLeastWord, IsGiven, IsWalk, items_left, left_behind, words_given}
use Rattle.merge_files.proofs.LeastWords.{nothing-left}
use Rattle.merge_files.proofs.GivenWords.{passed-inputs, length-left, is-given, written}
use Rattle.merge_files.proofs.walk.give_next.Goals as goal

pub returns-in_default-clause-item : goal.returns-in_default-clause-item
returns-in_default-clause-item c =
    let kind = c.args.kind in
    let inputs = c.args.inputs.now.items in
    let seen : c.as_slice.result.now ≡ inputs = c.as_slice.ensures.value in
    let least = subst (λ o. IsLeastOf kind (option_copied o) c.choose-least.result.turn c.choose-least.new.marks c.as_slice.result.now (length c.as_slice.result.now)) c.in_default.is c.choose-least.ensures.least in
    let none : items_left kind inputs ≡ [] = ap (items_left kind) (sym seen) ∙ nothing-left kind c.as_slice.result.now least.1.ended in
    (none, none)

pub returns-clause-walk : goal.returns-clause-walk
returns-clause-walk c =
    let kind = c.args.kind in
    let inputs = c.args.inputs.now.items in
    let turn = c.choose-least.result.turn in
    let ms = c.choose-least.new.marks in
    let new = c.give_all-count.new.inputs in
    let words = c.give_all-count.new.words in
    let same : length ms ≡ length inputs = omega (arith, c.choose-least.auto.marks, c.as_mut_slice.ensures.len, c.requires.marked, c.args.marks.now.ok.0) in
    let marks = written c.args.marks.now.len ms c.args.marks.now.items (omega (arith, c.choose-least.auto.marks, c.as_mut_slice.ensures.len)) in
    let passed = written c.args.inputs.now.len new inputs (omega (arith, c.give_all-count.auto.inputs, c.as_mut_slice-2.ensures.len)) in
    let back = written c.args.words.now.len words c.args.words.now.items (omega (arith, c.give_all-count.auto.words, c.as_mut_slice-3.ensures.len)) in
    let left : new ≡ left_behind turn ms inputs = c.give_all-count.ensures.inputs ∙ (λ i. left_behind turn ((c.as_slice-2.ensures.value ∙ marks) i) (c.as_mut_slice-2.ensures.value i)) in
    let long : length new ≡ length inputs = ap length left ∙ length-left kind turn ms inputs same in
    record {
      ordered = subst (All (IsInput kind)) (sym (passed ∙ left)) (passed-inputs kind turn ms inputs c.requires.ordered);
      marked = ap length marks ∙ same ∙ sym long ∙ sym (ap length passed);
      room = ap length back ∙ (let h : length words ≡ length inputs = omega (arith, c.give_all-count.auto.words, c.as_mut_slice-3.ensures.len, c.requires.room, c.args.words.now.ok.0) in h) ∙ sym long ∙ sym (ap length passed);
    }

pub returns-clause-item : goal.returns-clause-item
returns-clause-item c =
    let kind = c.args.kind in
    let key = c.in-Some.key.now in
    let inputs = c.args.inputs.now.items in
    let turn = c.choose-least.result.turn in
    let count = c.give_all-count.result in
    let ms = c.choose-least.new.marks in
    let new = c.give_all-count.new.inputs in
    let words = c.give_all-count.new.words in
    let said = map (λ (w : Bor (List ℕ)). w.now) words in
    let seen : c.as_slice.result.now ≡ inputs = c.as_slice.ensures.value in
    let same : length ms ≡ length inputs = omega (arith, c.choose-least.auto.marks, c.as_mut_slice.ensures.len, c.requires.marked, c.args.marks.now.ok.0) in
    let marks = written c.args.marks.now.len ms c.args.marks.now.items (omega (arith, c.choose-least.auto.marks, c.as_mut_slice.ensures.len)) in
    let passed = written c.args.inputs.now.len new inputs (omega (arith, c.give_all-count.auto.inputs, c.as_mut_slice-2.ensures.len)) in
    let back = written c.args.words.now.len words c.args.words.now.items (omega (arith, c.give_all-count.auto.words, c.as_mut_slice-3.ensures.len)) in
    let taken : c.as_slice-2.result.now ≡ ms = c.as_slice-2.ensures.value ∙ marks in
    let here : c.as_mut_slice-2.result.now ≡ inputs = c.as_mut_slice-2.ensures.value in
    let left : new ≡ left_behind turn ms inputs = c.give_all-count.ensures.inputs ∙ (λ i. left_behind turn (taken i) (here i)) in
    let found = subst (λ o. IsLeastOf kind (option_copied o) turn ms c.as_slice.result.now (length c.as_slice.result.now)) c.in-Some.is c.choose-least.ensures.least in
    let least : IsLeastWord kind key turn ms inputs (length inputs) = subst (λ ps. IsLeastWord kind key turn ms ps (length ps)) seen found in
    let are : take count said ≡ words_given turn ms inputs =
    take-map (λ (w : Bor (List ℕ)). w.now) count words ∙ c.give_all-count.ensures.words ∙ (λ i. words_given turn (taken i) (here i)) in
    let within : count ≤ length said = omega (arith, c.give_all-count.ensures.count, length-map words (λ (w : Bor (List ℕ)). w.now)) in
    let given = is-given kind key turn ms inputs same least count said c.requires.ordered within are in
    subst (λ ws. IsGiven kind key count (map (λ (w : Bor (List ℕ)). w.now) ws) (items_left kind inputs) (items_left kind (take c.args.inputs.now.len (new ++ drop (length new) inputs)))) (sym back)
    (subst (λ ps. IsGiven kind key count said (items_left kind inputs) (items_left kind ps)) (sym (passed ∙ left)) given)
