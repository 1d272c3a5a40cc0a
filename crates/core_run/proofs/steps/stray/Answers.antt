use Rattle.std.proofs.Common.{◌≡◌, true, rules, arith}
use Rattle.core_run.specs.Running.{machine_of}
use Rattle.core_run.proofs.steps.stray.Goals as goal

pub returns-clause-is : goal.returns-clause-is
returns-clause-is c =
    let on : c.are_stray_names.result ≡ true = first_of (search rules, grind arith) in
    λ caller. (c.are_stray_names.ensures.0 on, λ i. record (machine_of c.args.running.now) { present = c.in_ok-add_names.ensures i })
