use Rattle.std.proofs.Common.{◌-◌, ap, sym, ◌∙◌}
use Rattle.core_run.specs.Counts.{count_of, at_once, times}
use Rattle.core_run.proofs.CountLaws.{less-left, less-none}
use Rattle.core_run.proofs.counts.uncount_names.Goals as goal

pub loop-name-init : goal.loop-name-init
loop-name-init c = record {
  can = tt;
  ends = tt;
  left = λ q. ap (λ l. count_of c.args.counts.now.entries q - times l q) c.into_iter-name-iterator.ensures.into_iter_gives.0;
}

pub loop-name-preserved : goal.loop-name-preserved
loop-name-preserved c =
    let at = c.loop-name in
    let rest = c.next.new.self in
    record {
      can = tt;
      ends = tt;
      left = λ q.
          less-left (count_of at.counts.entries q) (at_once c.in-Some.name q) (times rest q) (count_of c.args.counts.now.entries q - times c.args.names.keys q) (count_of c.uncount_name.new.counts.entries q)
          (ap (λ l. count_of at.counts.entries q - times l q) (sym c.in-Some.ensures.steps) ∙ at.invariant.left q)
          (c.uncount_name.ensures q);
    }

pub returns : goal.returns
returns c =
    let at = c.loop-name in
    λ q.
    less-none (count_of at.counts.entries q)
    ∙ ap (λ l. count_of at.counts.entries q - times l q) (sym c.in-None.ensures.steps.0)
    ∙ at.invariant.left q
