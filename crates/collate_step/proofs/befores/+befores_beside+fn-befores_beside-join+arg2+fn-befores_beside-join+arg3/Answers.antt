use Rattle.std.proofs.Common.{◌≡◌, ◌++◌, ◌-◌, ◌<◌, length, slice_get, IfOk, sym, ◌∙◌, ap, subst, arith}
use Rattle.std.proofs.lemmas.Result.{IfOk-weaker}
use Rattle.content_laws.specs.Steps.{befores_behind}
use Rattle.collate_step.proofs.BeforeCuts.{cut-end}
use Rattle.collate_step.proofs.befores.+befores_beside+fn-befores_beside-join+arg2+fn-befores_beside-join+arg3.Goals as goal

pub returns : goal.returns
returns g t c =
    let look = g.E.Earlier.found c.args.earlier.now in
    let others = c.args.others.now in
    let last = slice_get others (length others - 1) in
    let first = c.split_at.result.0.now in
    let second = c.split_at.result.1.now in
    let some : 0 < length first = omega (arith, c.split_at.ensures.front_len) in
    let befores : c.in_ok-befores.field-0 ≡ befores_behind look last first =
    subst (λ r. IfOk r (λ bs. bs ≡ befores_behind look last first)) c.in_ok-befores.was c.join-befores.ensures.first in
    let later : c.in_ok-later.field-0 ≡ befores_behind look (slice_get first (length first - 1)) second =
    subst (λ r. IfOk r (λ bs. bs ≡ befores_behind look (slice_get first (length first - 1)) second)) c.in_ok-later.was c.join-befores.ensures.second in
    IfOk-weaker c.with_others.result _ _
    (λ all is. is
    ∙ (λ i. befores i ++ later i)
    ∙ cut-end look last first second some
    ∙ ap (befores_behind look last) (sym c.split_at.ensures.by_index.0)) c.with_others.ensures
