use Rattle.std.proofs.Common.{◌≡◌, ◌+◌, ◌-◌, ◌++◌, ◌<◌, sym, ◌∙◌, ap, arith, lt-ltb}
use Rattle.std.specs.Prelude.{Some}
use Rattle.merge_ranges.specs.Cut.{end_from}
use Rattle.core_machine.specs.Publishing.{range_at, size_from, parts_from, parts_of}
use Rattle.core_run.proofs.Looks.{parts-step, end-push}
use Rattle.core_run.proofs.publish.parts_of.Goals as goal

pub loop-left-init : goal.loop-left-init
unfolding parts_of
loop-left-init c =
    let r = c.args.range in
    let names = c.args.names.now.keys in
    record {
      parts =
          ap (λ l. l ++ parts_from c.saturating_sub-left.result names c.args.entity r.from r.to) c.new-parts.ensures
          ∙ ap (λ n. parts_from n names c.args.entity r.from r.to) c.saturating_sub-left.ensures;
      end = ap (λ l. end_from r.from l) (sym c.new-parts.ensures);
    }

pub loop-left-preserved : goal.loop-left-preserved
loop-left-preserved c =
    let r = c.args.range in
    let names = c.args.names.now.keys in
    let from = c.loop-left.from in
    let left = c.loop-left.left in
    let size = c.in-Some.size in
    let below : from < r.to = omega arith in
    let is : Some size ≡ size_from names c.args.entity from = sym c.in-Some.is ∙ c.in_ok-size.ensures.is in
    record {
      parts =
          ap (λ l. l ++ parts_from (left - 1) names c.args.entity (from + size) r.to) c.in_ok-push.ensures.ok
          ∙ parts-step names c.args.entity from r.to c.loop-left.parts left size c.loop-left-test.true (lt-ltb from r.to below) is
          ∙ c.loop-left.invariant.parts;
      end = sym (ap (λ l. end_from r.from l) c.in_ok-push.ensures.ok ∙ end-push r.from c.loop-left.parts (range_at from size));
    }
