use Rattle.std.proofs.Common.{◌∙◌, Some, ap}
use Rattle.std.specs.Option.{option_copied}
use Rattle.std.proofs.lemmas.Result.{IfOk-weaker}
use Rattle.agg_model.specs.Listed.{range}
use Rattle.window_pages.proofs.PageRows.{page_at, range-start}
use Rattle.window_pages.proofs.reads.read_range.Goals as goal

pub returns-clause-page : goal.returns-clause-page
returns-clause-page g c = λ list stand domain.
    let e = c.args.entity in
    let n = c.args.n in
    let from = option_copied c.args.from in
    let to = option_copied c.args.to in
    let start = c.in_ok-start.start in
    let rows = ap (λ t. range list.changes e n (Some start) t) c.in_ok-bound.ensures.ok ∙ range-start list e n to from start c.in_ok-start.ensures.ok in
    IfOk-weaker c.page_from.result _ _ (λ page is. is ∙ ap (page_at c.args.limit) rows) (c.page_from.ensures.page list stand domain)
