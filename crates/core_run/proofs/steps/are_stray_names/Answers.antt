use Rattle.std.proofs.Common.{◌≡◌, true, List, ℕ, ◌+◌, ◌≤◌, length, drop, All, refl, sym, subst, rules, arith}
use Rattle.std.proofs.lemmas.List.{drop_all}
use Rattle.std.proofs.lemmas.List.Elements.{All-cons, All-nil}
use Rattle.core_machine.specs.Entries.{IsStrayName}
use Rattle.core_run.specs.Running.{machine_of}
use Rattle.core_run.proofs.NameSets.{drop-here}
use Rattle.core_run.proofs.steps.are_stray_names.Goals as goal

pub loop-name-init : goal.loop-name-init
loop-name-init c =
    let P : List ℕ → Type 0 = IsStrayName (machine_of c.args.running.now) in
    λ all. subst (λ (l : List (List ℕ)). All P l) c.as_slice-name-items.ensures all

pub loop-name-preserved : goal.loop-name-preserved
loop-name-preserved c =
    let items = c.as_slice-name-items.result.now in
    let i = c.loop-name.name-index in
    let name = c.name-item.result in
    let P : List ℕ → Type 0 = IsStrayName (machine_of c.args.running.now) in
    let here = drop-here items i name c.loop-name-test.true c.name-item.is in
    let on : c.is_stray_name.result ≡ true = first_of (search rules, grind arith) in
    λ rest. c.loop-name.invariant (subst (λ (l : List (List ℕ)). All P l) (sym here) (All-cons P name (drop (i + 1) items) (c.is_stray_name.ensures.0 on) rest))

pub returns : goal.returns
returns c =
    let items = c.as_slice-name-items.result.now in
    let over : length items ≤ c.loop-name.name-index = omega arith in
    let P : List ℕ → Type 0 = IsStrayName (machine_of c.args.running.now) in
    (λ e. c.loop-name.invariant (subst (λ (l : List (List ℕ)). All P l) (sym (drop_all _ _ over)) (All-nil P)), λ all. refl)
