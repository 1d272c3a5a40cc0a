use Rattle.std.proofs.Common.{◌&&◌, not, ◌+◌, ◌≤◌, length, drop, sym, ◌∙◌, ap, arith}
use Rattle.std.proofs.lemmas.List.{drop_all}
use Rattle.core_machine.specs.Texts.{has}
use Rattle.core_run.proofs.NameSets.{drop-here, without-step, without-done}
use Rattle.core_run.proofs.names.remove_names.Goals as goal

pub loop-name-preserved : goal.loop-name-preserved
loop-name-preserved c =
    let items = c.as_slice-name-items.result.now in
    let i = c.loop-name.name-index in
    let name = c.name-item.result in
    let old = c.loop-name.set.keys in
    let here = drop-here items i name c.loop-name-test.true c.name-item.is in
    record {
      was = c.loop-name.invariant.was;
      form = c.remove-there.ensures.ordered;
      left = λ q.
          without-step old c.remove-there.new.self.keys (drop (i + 1) items) name q (c.remove-there.ensures.updates.0 q)
          ∙ ap (λ l. has old q && not (has l q)) (sym here)
          ∙ c.loop-name.invariant.left q;
    }

pub returns : goal.returns
returns c =
    let items = c.as_slice-name-items.result.now in
    let over : length items ≤ c.loop-name.name-index = omega arith in
    let now = c.loop-name.set.keys in
    let inv = c.loop-name.invariant in
    without-done c.args.set.now.keys now c.args.names.now inv.was inv.form (λ q. ap (λ l. has now q && not (has l q)) (sym (drop_all _ _ over)) ∙ inv.left q)
