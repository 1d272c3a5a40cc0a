use Rattle.std.proofs.Common.{◌≡◌, ◌*◌, ◌<◌, ◌≤◌, ◌∙◌, ℕ, sym, arith}
use Rattle.std.proofs.lemmas.Result.{IfOk-weaker}
use Rattle.window_reads.proofs.Stands.{if_some_all, if_some_then}
use Rattle.window_pages.proofs.Changes.{found-below, found-act, found-newest}
use Rattle.window_pages.proofs.values.value_before.Goals as goal

product : {x y a b : ℕ} → x ≡ a → y ≡ b → x * y ≡ a * b
product p q = λ i. p i * q i

pub returns-then-from-end-clause-value : goal.returns-then-from-end-clause-value
returns-then-from-end-clause-value g c =
    let end = g.W.Window.first_step c.args.window.now * c.args.size in
    let whole : c.from.result * c.from-2.result ≡ end = product (c.from.ensures ∙ c.end.ensures) c.from-2.ensures in
    let low : c.args.n < end = omega (arith, c.if-from-end.true, c.from-3.ensures, whole) in
    if_some_all (g.W.Window.changes c.args.window.now) _ (λ cs.
    IfOk-weaker c.value_in.result _ _ (λ v is. is ∙ found-below c.args.size c.args.cursors.now cs c.args.entity c.args.key.now c.args.n end _ low c.before_in.ensures) c.value_in.ensures.ok)

pub returns-in-Some-clause-value : goal.returns-in-Some-clause-value
returns-in-Some-clause-value g c =
    let end = g.W.Window.first_step c.args.window.now * c.args.size in
    let whole : c.from.result * c.from-2.result ≡ end = product (c.from.ensures ∙ c.end.ensures) c.from-2.ensures in
    let high : end ≤ c.args.n = omega (arith, c.if-from-end.false, c.from-3.ensures, whole) in
    if_some_then (g.W.Window.changes c.args.window.now) _ _ (λ cs last.
    c.value_of_act.ensures ∙ found-act c.args.size c.args.cursors.now cs c.args.entity c.args.key.now c.args.n end c.in-Some.act high (sym c.in-Some.is ∙ last)) c.in_ok-act.ensures.act

pub returns-in-None-clause-value : goal.returns-in-None-clause-value
returns-in-None-clause-value g c =
    let end = g.W.Window.first_step c.args.window.now * c.args.size in
    let whole : c.from.result * c.from-2.result ≡ end = product (c.from.ensures ∙ c.end.ensures) c.from-2.ensures in
    let high : end ≤ c.args.n = omega (arith, c.if-from-end.false, c.from-3.ensures, whole) in
    if_some_then (g.W.Window.changes c.args.window.now) _ _ (λ cs last.
    IfOk-weaker c.value_in-in-None.result _ _ (λ v is. is ∙ found-newest c.args.size c.args.cursors.now cs c.args.entity c.args.key.now c.args.n end _ high (sym c.in-None.is ∙ last) c.newest_in.ensures)
    c.value_in-in-None.ensures.ok) c.in_ok-act.ensures.act
