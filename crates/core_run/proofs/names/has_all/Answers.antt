use Rattle.std.proofs.Common.{◌≡◌, true, false, ◌+◌, drop, sym, ◌∙◌, subst, rules, arith}
use Rattle.core_machine.specs.Texts.{has}
use Rattle.core_run.proofs.NameSets.{drop-here, among-step, in-rest, at-head}
use Rattle.core_run.proofs.names.has_all.Goals as goal

pub loop-name-preserved : goal.loop-name-preserved
loop-name-preserved c =
    let items = c.as_slice-name-items.result.now in
    let i = c.loop-name.name-index in
    let name = c.name-item.result in
    let set = c.args.set.now.keys in
    let here = drop-here items i name c.loop-name-test.true c.name-item.is in
    let there : has set name ≡ true = first_of (search rules, grind arith) in
    record {
      left = λ rest. c.loop-name.invariant.left (λ q h. among-step (drop (i + 1) items) name set there rest q (subst (λ l. has l q ≡ true) here h));
      within = λ q h. c.loop-name.invariant.within q (subst (λ l. has l q ≡ true) (sym here) (in-rest (drop (i + 1) items) name q h));
    }

pub returns-then-not-has_name : goal.returns-then-not-has_name
returns-then-not-has_name c =
    let items = c.as_slice-name-items.result.now in
    let i = c.loop-name.name-index in
    let name = c.name-item.result in
    let set = c.args.set.now.keys in
    let here = drop-here items i name c.loop-name-test.true c.name-item.is in
    let absent : has set name ≡ false = first_of (search rules, grind arith) in
    let inside = c.loop-name.invariant.within name (subst (λ l. has l name ≡ true) (sym here) (at-head (drop (i + 1) items) name)) in
    (λ e. absurd (clash e), λ among. sym absent ∙ among name inside)
  where
    clash : false ≡ true → ⊥
    clash e = search rules
