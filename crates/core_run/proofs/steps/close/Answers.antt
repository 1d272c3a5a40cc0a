use Rattle.std.proofs.Common.{◌<◌, List, length, subst}
use Rattle.core_run.specs.declared.running.Row.{Row}
use Rattle.core_run.proofs.CountLaws.{counted-close}
use Rattle.core_run.proofs.steps.close.Goals as goal

pub returns-clause-counted : goal.returns-clause-counted
returns-clause-counted c =
    let rows = c.args.running.now.rows.items in
    let i = c.in-Some.i in
    let below : i < length rows = subst (λ (rs : List Row). i < length rs) c.as_slice.ensures.value c.in-Some.ensures.some.within in
    counted-close c.args.running.now.counts.entries c.uncount_names.new.counts.entries rows c.remove-row.new.self.items i c.remove-row.result c.requires c.uncount_names.ensures below
    c.remove-row.ensures.value c.remove-row.ensures.items
