use Rattle.std.proofs.Common.{◌≡◌, ◌*◌, ◌<◌, ◌≤◌, ◌∙◌, map, ℕ, arith}
use Rattle.std.specs.Arc.{arc_value}
use Rattle.std.proofs.lemmas.Result.{IfOk-weaker}
use Rattle.window_reads.proofs.Stands.{if_some_all, if_some_then, found-below, found-behind}
use Rattle.window_reads.proofs.value.value_before.Goals as goal

product : {x y a b : ℕ} → x ≡ a → y ≡ b → x * y ≡ a * b
product p q = λ i. p i * q i

pub returns-then-from-end-clause-value : goal.returns-then-from-end-clause-value
returns-then-from-end-clause-value g c =
    let gs = map (λ g. arc_value g) c.args.files.now in
    let e = c.args.entity in
    let k = c.args.key.now in
    let end = g.W.Window.first_step c.args.window.now * c.args.size in
    let whole : c.from.result * c.from-2.result ≡ end = product (c.from.ensures ∙ c.end.ensures) c.from-2.ensures in
    let low : c.args.n < end = omega (arith, c.if-from-end.true, c.from-3.ensures, whole) in
    if_some_all (g.W.Window.changes c.args.window.now) _ (λ cs.
    IfOk-weaker c.value_in.result _ _ (λ v is. is ∙ found-below c.args.size e k c.args.n end gs cs _ low c.before_in_files.ensures) c.value_in.ensures.ok)

pub returns-clause-value : goal.returns-clause-value
returns-clause-value g c =
    let gs = map (λ g. arc_value g) c.args.files.now in
    let e = c.args.entity in
    let k = c.args.key.now in
    let end = g.W.Window.first_step c.args.window.now * c.args.size in
    let whole : c.from.result * c.from-2.result ≡ end = product (c.from.ensures ∙ c.end.ensures) c.from-2.ensures in
    let high : end ≤ c.args.n = omega (arith, c.if-from-end.false, c.from-3.ensures, whole) in
    if_some_then (g.W.Window.changes c.args.window.now) _ _ (λ cs last.
    IfOk-weaker c.value_left.result _ _ (λ v is. is ∙ found-behind c.args.size e k c.args.n end gs cs _ high last) c.value_left.ensures.ok) c.in_ok-act.ensures.act
