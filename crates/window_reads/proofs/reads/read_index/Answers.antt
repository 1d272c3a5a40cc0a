use Rattle.std.proofs.Common.{◌≡◌, ◌+◌, ◌*◌, ◌∙◌, sym, ap, map, take}
use Rattle.std.specs.Arc.{arc_value}
use Rattle.agg_model.specs.Listed.{index}
use Rattle.window_laws.specs.Parts.{changes_from}
use Rattle.window_reads.specs.Folds.{all_numbers, turned}
use Rattle.window_reads.proofs.NumberPages.{page_at, page-same}
use Rattle.window_reads.proofs.Stands.{told_so, stand-numbers}
use Rattle.window_reads.proofs.reads.read_index.Goals as goal

pub returns-clause-page : goal.returns-clause-page
unfolding index
returns-clause-page g c = λ list stand.
    let files = map (λ g. arc_value g) c.args.files.now in
    let told = g.W.Window.changes c.args.window.now in
    let step = g.W.Window.first_step c.args.window.now in
    let at = g.W.Window.next_number c.args.window.now in
    let e = c.args.entity in
    let k = c.args.key.now in
    let a = c.args.a in
    let b = c.args.b in
    let limit = c.args.limit in
    let cs = changes_from (step * list.size) list.changes in
    let all = turned c.args.back (all_numbers e files cs k a b) in
    let found : c.in_ok-found.found ≡ take (limit + 1) all = told_so told cs _ stand.told_is c.in_ok-found.ensures.numbers in
    c.page_of.ensures
    ∙ ap (page_at limit) found
    ∙ page-same limit all
    ∙ ap (λ ns. page_at limit (turned c.args.back ns)) (sym (stand-numbers list files told c.args.size step at stand e k a b))
