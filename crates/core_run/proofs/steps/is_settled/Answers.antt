use Rattle.std.proofs.Common.{◌≡◌, true, false, rules, arith}
use Rattle.std.proofs.lemmas.Bool.{false≢true}
use Rattle.core_run.specs.Running.{machine_of}
use Rattle.core_run.proofs.StepLaws.{clash, decides-form, settled-decides}
use Rattle.core_run.proofs.steps.is_settled.Goals as goal

pub returns-then-not-are_same : goal.returns-then-not-are_same
returns-then-not-are_same c =
    let off : c.are_same.result ≡ false = first_of (search rules, grind arith) in
    let d = decides-form c.args.names.now c.args.running.now.visible.keys c.in_ok-set.set.keys c.are_same.result c.in_ok-set.ensures c.requires.form.visible c.are_same.ensures in
    (λ e. absurd (false≢true e), λ s. absurd (clash c.are_same.result off (d.1 s.visible)))

pub returns : goal.returns
returns c =
    let on : c.are_same.result ≡ true = first_of (search rules, grind arith) in
    settled-decides (machine_of c.args.running.now) c.args.names.now c.in_ok-set.set.keys c.in_ok-canonical.canonical.keys c.in_ok-cut.cut c.are_same-2.result c.are_same.result
    c.requires.form.visible c.in_ok-set.ensures c.are_same.ensures on c.in_ok-cut.ensures c.in_ok-canonical.ensures c.are_same-2.ensures
