use Rattle.std.proofs.Common.{◌≡◌, ◌*◌, ◌||◌, [], ◌∷◌, ap, sym, ◌∙◌}
use Rattle.agg_model.specs.Contents.{times}
use Rattle.agg_model.specs.ChangeList.{value_at}
use Rattle.window_laws.specs.Parts.{changes_from}
use Rattle.window_reads.proofs.Stands.{told_so}
use Rattle.window_pages.specs.Finds.{has_any, have_between, value_at_places}
use Rattle.window_pages.proofs.Finds.{value-at, change-at, row-none, row-some}
use Rattle.window_pages.proofs.PageRows.{one_row, stand-later}
use Rattle.window_pages.proofs.rows.row_at.Goals as goal

pub returns-then-not-has-clause-row : goal.returns-then-not-has-clause-row
returns-then-not-has-clause-row g c = λ list groups stand domain here.
    let W = g.W.Window in
    let told = W.changes c.args.window.now in
    let step = W.first_step c.args.window.now in
    let at = W.next_number c.args.window.now in
    let e = c.args.entity in
    let k = c.args.key in
    let a = c.args.numbers.from in
    let b = c.args.numbers.to in
    let cs = changes_from (step * list.size) list.changes in
    let has = told_so told cs _ stand.stand.told_is c.in_ok-has.ensures.has in
    let same = ap (λ l. have_between l a b c.args.cursors.now || has_any (times cs e l a b)) c.as_slice-bytes.ensures in
    let all = change-at list e groups told c.args.size step at stand k c.args.cursors.now here a b in
    row-none k (value_at list.changes e k a) (times list.changes e k a b) (all ∙ sym same ∙ sym has ∙ c.if-not-has.true)

pub returns-clause-row : goal.returns-clause-row
returns-clause-row g c = λ list groups stand domain here.
    let W = g.W.Window in
    let old = c.args.window.now in
    let mid = c.has_change.new.window in
    let laws = g.met.W.Window in
    let later = c.in_ok-has.ensures.later in
    let then = stand-later list c.args.entity groups c.args.size (W.changes old) (W.changes mid) (W.first_step old) (W.first_step mid) (W.next_number old) (W.next_number mid)
    (laws.same_changes old mid later) (laws.same_step old mid later) (laws.same_number old mid later) stand in
    let e = c.args.entity in
    let k = c.args.key in
    let a = c.args.numbers.from in
    let b = c.args.numbers.to in
    let size = c.args.size in
    let cs = changes_from (W.first_step old * list.size) list.changes in
    let ds = changes_from (W.first_step mid * list.size) list.changes in
    let has = told_so (W.changes old) cs _ stand.stand.told_is c.in_ok-has.ensures.has in
    let same = ap (λ l. have_between l a b c.args.cursors.now || has_any (times cs e l a b)) c.as_slice-bytes.ensures in
    let all = change-at list e groups (W.changes old) size (W.first_step old) (W.next_number old) stand k c.args.cursors.now here a b in
    let found = told_so (W.changes mid) ds _ then.stand.told_is c.in_ok-value.ensures.value in
    let at = ap (λ l. value_at_places size c.args.cursors.now ds e l (W.first_step mid * size) a) c.as_slice-bytes.ensures in
    let value = found ∙ at ∙ sym (value-at list e groups (W.changes mid) size (W.first_step mid) (W.next_number mid) then k c.args.cursors.now here a domain) in
    (λ i. one_row k (value i) ∷ [])
    ∙ row-some k (value_at list.changes e k a) (times list.changes e k a b) (all ∙ sym same ∙ sym has ∙ c.if-not-has.false)
