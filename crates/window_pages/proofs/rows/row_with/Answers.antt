use Rattle.std.proofs.Common.{◌*◌, ◌∙◌, ap, sym}
use Rattle.window_laws.specs.Pages.{row_with}
use Rattle.window_laws.specs.Parts.{changes_from}
use Rattle.window_reads.proofs.Stands.{told_so}
use Rattle.window_pages.specs.Finds.{value_at_places}
use Rattle.window_pages.proofs.Finds.{value-at}
use Rattle.window_pages.proofs.rows.row_with.Goals as goal

pub returns-clause-row : goal.returns-clause-row
returns-clause-row g c = λ list groups stand domain here.
    let W = g.W.Window in
    let told = W.changes c.args.window.now in
    let step = W.first_step c.args.window.now in
    let at = W.next_number c.args.window.now in
    let e = c.args.entity in
    let size = c.args.size in
    let cs = changes_from (step * list.size) list.changes in
    let value = told_so told cs _ stand.stand.told_is c.in_ok-value.ensures.value in
    let same = ap (λ k. value_at_places size c.args.cursors.now cs e k (step * size) c.args.n) c.as_slice.ensures in
    c.row_held.ensures ∙ ap (row_with c.args.key) (value ∙ same ∙ sym (value-at list e groups told size step at stand c.args.key c.args.cursors.now here c.args.n domain))
