use Rattle.std.proofs.Common.{Some, sym, ap, subst, ◌∙◌}
use Rattle.agg_model.specs.Contents.{times}
use Rattle.agg_model.specs.Listed.{is_from, is_under}
use Rattle.window_laws.specs.Pages.{IsNext, behind_key}
use Rattle.window_reads.proofs.Stands.{told_so}
use Rattle.window_pages.specs.Asking.{bound_of}
use Rattle.window_pages.specs.Places.{places_from}
use Rattle.window_pages.proofs.NextKeys.{behind-from}
use Rattle.window_pages.proofs.PageRows.{look-none, look-over, look-goes, stand-later}
use Rattle.window_pages.proofs.look.look_on.Goals as goal

pub returns-in_default-clause-rows : goal.returns-in_default-clause-rows
returns-in_default-clause-rows g c = λ list groups stand domain are.
    let a = c.numbers_of-numbers.result.from in
    let b = c.numbers_of-numbers.result.to in
    let e = c.args.entity in
    let q = c.args.asked.now in
    let first = c.args.first.now in
    let there = are ∙ ap (λ f. places_from f groups) (sym c.as_slice-from.ensures) in
    let next = subst (λ f. IsNext (λ k. times list.changes e k a b) f c.in_ok-next.next) c.as_slice-from.ensures (c.in_ok-next.ensures.next list groups c.args.size stand there) in
    record {
      rows = look-none list e q first a b c.in_ok-next.next c.numbers_of-numbers.ensures.from c.numbers_of-numbers.ensures.to c.in_default.is next;
      from = tt;
    }

pub returns-then-not-is_under-clause-rows : goal.returns-then-not-is_under-clause-rows
returns-then-not-is_under-clause-rows g c = λ list groups stand domain are.
    let a = c.numbers_of-numbers.result.from in
    let b = c.numbers_of-numbers.result.to in
    let e = c.args.entity in
    let q = c.args.asked.now in
    let first = c.args.first.now in
    let there = are ∙ ap (λ f. places_from f groups) (sym c.as_slice-from.ensures) in
    let next = subst (λ f. IsNext (λ k. times list.changes e k a b) f c.in_ok-next.next) c.as_slice-from.ensures (c.in_ok-next.ensures.next list groups c.args.size stand there) in
    let over = sym (ap (is_under (bound_of q)) c.as_slice-bytes.ensures) ∙ sym c.is_under.ensures ∙ c.if-not-is_under.true in
    record {
      rows = look-over list e q first c.in-Some.key a b c.in_ok-next.next c.numbers_of-numbers.ensures.from c.numbers_of-numbers.ensures.to c.in-Some.is next over;
      from = tt;
    }

pub returns-clause-rows : goal.returns-clause-rows
returns-clause-rows g c = λ list groups stand domain are.
    let a = c.numbers_of-numbers.result.from in
    let b = c.numbers_of-numbers.result.to in
    let e = c.args.entity in
    let q = c.args.asked.now in
    let first = c.args.first.now in
    let there = are ∙ ap (λ f. places_from f groups) (sym c.as_slice-from.ensures) in
    let next = subst (λ f. IsNext (λ k. times list.changes e k a b) f c.in_ok-next.next) c.as_slice-from.ensures (c.in_ok-next.ensures.next list groups c.args.size stand there) in
    let W = g.W.Window in
    let old = c.args.window.now in
    let mid = c.next_key.new.window in
    let laws = g.met.W.Window in
    let later = c.in_ok-next.ensures.later in
    let then = stand-later list e groups c.args.size (W.changes old) (W.changes mid) (W.first_step old) (W.first_step mid) (W.next_number old) (W.next_number mid)
    (laws.same_changes old mid later) (laws.same_step old mid later) (laws.same_number old mid later) stand in
    let key = c.in-Some.key in
    let from = (subst (IsNext (λ k. times list.changes e k a b) first) c.in-Some.is next).from in
    let least = told_so c.in_ok-next.next key _ c.in-Some.is c.in_ok-next.ensures.least in
    let under = sym (ap (is_under (bound_of q)) c.as_slice-bytes.ensures) ∙ sym c.is_under.ensures ∙ c.if-not-is_under.false in
    let behind = c.in_ok-behind.ensures.ok ∙ ap behind_key c.as_slice-bytes.ensures in
    record {
      rows =
          look-goes list e q first key a b c.in_ok-next.next c.in_ok-row.row c.in_ok-behind.behind stand.stand.are_changes c.numbers_of-numbers.ensures.from c.numbers_of-numbers.ensures.to c.in-Some.is next under
          (c.in_ok-row.ensures.row list groups then domain (record { first = first; from = from; are = are; least = least })) behind;
      from = ap (is_from (Some first)) behind ∙ behind-from first key from;
    }
