use Rattle.std.proofs.Common.{◌≡◌, ◌*◌, ◌∙◌, sym, map}
use Rattle.std.specs.Prelude.{IfOk}
use Rattle.std.specs.Arc.{arc_value}
use Rattle.std.proofs.lemmas.Result.{IfOk-weaker}
use Rattle.agg_model.specs.ChangeList.{as_of}
use Rattle.window_laws.specs.Parts.{changes_from, value_found}
use Rattle.window_reads.specs.Standing.{parts_for}
use Rattle.window_reads.proofs.Stands.{told_so, stand-value}
use Rattle.window_reads.proofs.reads.read_as_of.Goals as goal

pub returns-clause-value : goal.returns-clause-value
unfolding as_of
returns-clause-value g c = λ list stand domain.
    let files = map (λ g. arc_value g) c.args.files.now in
    let told = g.W.Window.changes c.args.window.now in
    let step = g.W.Window.first_step c.args.window.now in
    let at = g.W.Window.next_number c.args.window.now in
    let e = c.args.entity in
    let k = c.args.key.now in
    let n = c.args.n in
    let cs = changes_from (step * list.size) list.changes in
    let found : IfOk c.value_before.result (λ value. value ≡ value_found (parts_for c.args.size e files) cs e k (step * c.args.size) n) =
    told_so told cs _ stand.told_is c.value_before.ensures.value in
    IfOk-weaker c.value_before.result _ _ (λ v is. is ∙ sym (stand-value list files told c.args.size step at stand e k n domain)) found
