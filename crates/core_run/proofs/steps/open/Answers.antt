use Rattle.std.proofs.Common.{◌≡◌, true, false, List, refl, rules, arith, sym, ap, ◌∙◌}
use Rattle.core_machine.specs.Sound.{has_row}
use Rattle.core_run.specs.declared.running.Row.{Row}
use Rattle.core_run.specs.Running.{machine_of, openings}
use Rattle.core_run.proofs.StepLaws.{clash, decides-form, opened}
use Rattle.core_run.proofs.CountLaws.{counted-open}
use Rattle.core_run.proofs.steps.open.Goals as goal

pub returns-then-not-are_same-clause-is : goal.returns-then-not-are_same-clause-is
returns-then-not-are_same-clause-is c =
    let off : c.are_same.result ≡ false = first_of (search rules, grind arith) in
    let d = decides-form c.args.names.now c.args.running.now.visible.keys c.in_ok-names.names.keys c.are_same.result c.in_ok-names.ensures c.requires.sound.form.visible c.are_same.ensures in
    λ o. clash c.are_same.result off (d.1 o.visible)

pub returns-clause-is : goal.returns-clause-is
returns-clause-is c =
    let m = machine_of c.args.running.now in
    let on : c.are_same.result ≡ true = first_of (search rules, grind arith) in
    let so : c.as_slice.result.now ≡ c.args.running.now.rows.items = c.as_slice.ensures.value in
    let free : c.is_open.result ≡ false = first_of (search rules, grind arith) in
    let d = decides-form c.args.names.now c.args.running.now.visible.keys c.in_ok-names.names.keys c.are_same.result c.in_ok-names.ensures c.requires.sound.form.visible c.are_same.ensures in (
      record { visible = d.0 on; free = ap (λ (rs : List Row). has_row (openings rs) c.args.caller c.args.number) (sym so) ∙ sym c.is_open.ensures ∙ free },
      λ i. record m { opened = opened m c.args.running.now.rows.items c.push.new.self.items _ refl c.in_ok-push.ensures.items refl (c.are_same.ensures.0 on) i },
    )

pub returns-clause-counted : goal.returns-clause-counted
returns-clause-counted c =
    counted-open c.args.running.now.counts.entries c.count_names.new.counts.entries c.args.running.now.rows.items c.push.new.self.items _ c.requires.counted c.in_ok-count_names.ensures c.in_ok-push.ensures.items
