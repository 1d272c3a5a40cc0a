use Rattle.std.proofs.Common.{◌+◌, ap, ◌∙◌}
use Rattle.core_run.proofs.CountLaws.{count-more}
use Rattle.core_run.proofs.counts.count_name.Goals as goal

pub returns : goal.returns
returns c = λ q.
    count-more c.args.counts.now.entries c.insert.new.self.entries c.args.name q c.in_ok-count.count (c.in_ok-insert.ensures.updates.0 q) (c.in_ok-count.ensures ∙ ap (λ n. n + 1) c.count_of.ensures)
