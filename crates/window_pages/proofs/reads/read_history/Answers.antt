use Rattle.std.proofs.Common.{◌∙◌, ap}
use Rattle.std.specs.Option.{option_copied}
use Rattle.std.proofs.lemmas.Result.{IfOk-weaker}
use Rattle.window_pages.proofs.PageRows.{page_at, history-start}
use Rattle.window_pages.proofs.reads.read_history.Goals as goal

pub returns-clause-page : goal.returns-clause-page
returns-clause-page g c = λ list stand domain.
    let rows = history-start list c.args.entity c.args.a c.args.b (option_copied c.args.from) c.in_ok-start.start c.in_ok-start.ensures.ok in
    IfOk-weaker c.page_from.result _ _ (λ page is. is ∙ ap (page_at c.args.limit) rows) (c.page_from.ensures.page list stand domain)
