use Rattle.std.proofs.Common.{◌≤◌, ◌+◌, length, ap, sym, ◌∙◌, arith, drop}
use Rattle.std.proofs.lemmas.List.{drop_all}
use Rattle.core_run.specs.Counts.{count_of, times, times_in}
use Rattle.core_run.specs.Running.{openings}
use Rattle.core_run.proofs.CountLaws.{more-left, zero-plus, plus-zero, drop-row}
use Rattle.core_run.proofs.counts.counts_of.Goals as goal

pub loop-row-init : goal.loop-row-init
loop-row-init c = λ q.
    ap (λ l. times_in (openings c.args.rows.now) q + count_of l q) c.new-counts.ensures.empty ∙ plus-zero (times_in (openings c.args.rows.now) q)

pub loop-row-preserved : goal.loop-row-preserved
loop-row-preserved c =
    let rows = c.args.rows.now in
    let i = c.loop-row.row-index in
    let row = c.row-item.result in
    let at = c.loop-row.counts.entries in
    let here = drop-row rows i row c.loop-row-test.true c.row-item.is in
    λ q.
    more-left (count_of at q) (times row.names.keys q) (times_in (openings (drop (i + 1) rows)) q) (times_in (openings rows) q) (count_of c.count_names.new.counts.entries q)
    (ap (λ l. times_in (openings l) q + count_of at q) (sym here) ∙ c.loop-row.invariant q)
    (c.in_ok-count_names.ensures q)

pub returns : goal.returns
returns c =
    let rows = c.args.rows.now in
    let over : length rows ≤ c.loop-row.row-index = omega arith in
    let now = c.loop-row.counts.entries in
    λ q.
    sym (zero-plus (count_of now q))
    ∙ sym (ap (λ l. times_in (openings l) q + count_of now q) (drop_all _ _ over))
    ∙ c.loop-row.invariant q
