use Rattle.std.proofs.Common.{◌≡◌, ◌*◌, ◌∙◌, ap, take}
use Rattle.std.specs.Option.{option_copied}
use Rattle.std.proofs.lemmas.Result.{IfOk-weaker}
use Rattle.hot_keeper.specs.Windows.{window_keys}
use Rattle.window_laws.specs.Pages.{lesser}
use Rattle.window_laws.specs.Parts.{changes_from}
use Rattle.window_reads.proofs.Stands.{told_so}
use Rattle.window_pages.proofs.NextKeys.{next-key}
use Rattle.window_pages.proofs.Places.{least-of}
use Rattle.window_pages.proofs.keys.next_key.Goals as goal

pub returns-clause-next : goal.returns-clause-next
returns-clause-next g c = λ list groups size stand are.
    let told = g.W.Window.changes c.args.window.now in
    let step = g.W.Window.first_step c.args.window.now in
    let at = g.W.Window.next_number c.args.window.now in
    let e = c.args.entity in
    let a = c.args.numbers.from in
    let b = c.args.numbers.to in
    let first = c.args.first.now in
    let cs = changes_from (step * list.size) list.changes in
    let keys : c.in_ok-behind.behind ≡ take 1 (window_keys cs e first a b) = told_so told cs _ stand.stand.told_is c.in_ok-behind.ensures.keys in
    let found = option_copied c.first_key.result in
    IfOk-weaker c.key_copied.result _ _ (λ q is.
    next-key list e groups told size step at stand a b first c.args.cursors.now found q c.in_ok-behind.behind are keys c.first_key.ensures
    (is ∙ c.lesser.ensures ∙ ap (λ o. lesser o found) c.least.ensures)) c.key_copied.ensures.ok

pub returns-clause-least : goal.returns-clause-least
returns-clause-least g c =
    let found = option_copied c.first_key.result in
    IfOk-weaker c.key_copied.result _ _ (λ q is. least-of c.args.cursors.now found q (is ∙ c.lesser.ensures ∙ ap (λ o. lesser o found) c.least.ensures)) c.key_copied.ensures.ok
