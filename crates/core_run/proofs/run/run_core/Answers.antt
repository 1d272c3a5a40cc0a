use Rattle.std.proofs.Common.{◌≡◌, true, false, Bool, take, sym, ◌∙◌, ap, subst, rules, arith, ◌+◌}
use Rattle.core_machine.specs.Sound.{IsSound}
use Rattle.core_machine.specs.Entries.{IsFirstImpossible}
use Rattle.core_machine.proofs.Kept.{kept-all}
use Rattle.core_run.specs.Running.{machine_of}
use Rattle.core_run.specs.Runs.{Steps}
use Rattle.core_run.proofs.StepLaws.{may-next, is-next, first-refused}
use Rattle.core_run.proofs.run.run_core.Goals as goal

pub step-requires-clause-sound : goal.step-requires-clause-sound
step-requires-clause-sound c =
    let inv = c.loop-entry.invariant in
    subst IsSound (sym inv.is) (kept-all c.args.start (take c.loop-entry.entry-index c.args.entries.now) c.requires inv.may)

pub returns-then-not-taken-clause-err : goal.returns-then-not-taken-clause-err
returns-then-not-taken-clause-err c =
    let inv = c.loop-entry.invariant in
    let start = c.args.start in
    let entries = c.args.entries.now in
    let i = c.loop-entry.entry-index in
    let entry = c.entry-item.result in
    let m = machine_of c.loop-entry.running in
    let off : c.in_ok-taken.taken ≡ false = first_of (search rules, grind arith) in
    let step : Steps m entry (machine_of c.step.new.running) false = subst (λ (b : Bool). Steps m entry (machine_of c.step.new.running) b) off c.in_ok-taken.ensures.is in
    subst (IsFirstImpossible start entries) (sym inv.at) (first-refused start entries i entry c.loop-entry-test.true c.entry-item.is m inv.is inv.may step)

pub loop-entry-preserved : goal.loop-entry-preserved
loop-entry-preserved c =
    let inv = c.loop-entry.invariant in
    let start = c.args.start in
    let entries = c.args.entries.now in
    let i = c.loop-entry.entry-index in
    let entry = c.entry-item.result in
    let m = machine_of c.loop-entry.running in
    let n = machine_of c.step.new.running in
    let on : c.in_ok-taken.taken ≡ true = first_of (search rules, grind arith) in
    let step : Steps m entry n true = subst (λ (b : Bool). Steps m entry n b) on c.in_ok-taken.ensures.is in
    record {
      at = ap (λ k. k + 1) inv.at;
      may = may-next start entries i entry c.loop-entry-test.true c.entry-item.is m inv.is inv.may step.0;
      counted = c.in_ok-taken.ensures.counted;
      is = is-next start entries i entry c.loop-entry-test.true c.entry-item.is m inv.is n step.1;
    }

pub returns-clause-sound : goal.returns-clause-sound
returns-clause-sound c =
    let inv = c.loop-entry.invariant in
    subst IsSound (sym (c.in_ok-machine.ensures ∙ inv.is)) (kept-all c.args.start (take c.loop-entry.entry-index c.args.entries.now) c.requires inv.may)
