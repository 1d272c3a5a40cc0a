use Rattle.std.proofs.Common.{◌+◌, ap, sym, ◌∙◌}
use Rattle.core_run.specs.Counts.{count_of, at_once, times}
use Rattle.core_run.proofs.CountLaws.{more-left, zero-plus}
use Rattle.core_run.proofs.counts.count_names.Goals as goal

pub loop-name-init : goal.loop-name-init
loop-name-init c = record {
  can = tt;
  ends = tt;
  left = λ q. ap (λ l. times l q + count_of c.args.counts.now.entries q) c.into_iter-name-iterator.ensures.into_iter_gives.0;
}

pub loop-name-preserved : goal.loop-name-preserved
loop-name-preserved c =
    let at = c.loop-name in
    let rest = c.next.new.self in
    record {
      can = tt;
      ends = tt;
      left = λ q.
          more-left (count_of at.counts.entries q) (at_once c.in-Some.name.now q) (times rest q) (times c.args.names.now.keys q + count_of c.args.counts.now.entries q) (count_of c.count_name.new.counts.entries q)
          (ap (λ l. times l q + count_of at.counts.entries q) (sym c.in-Some.ensures.steps) ∙ at.invariant.left q)
          (c.in_ok-count_name.ensures q ∙ ap (λ n. at_once n q + count_of at.counts.entries q) c.in_ok-copy.ensures);
    }

pub returns : goal.returns
returns c =
    let at = c.loop-name in
    λ q.
    sym (zero-plus (count_of at.counts.entries q))
    ∙ ap (λ l. times l q + count_of at.counts.entries q) (sym c.in-None.ensures.steps.0)
    ∙ at.invariant.left q
