use Rattle.std.proofs.Common.{◌+◌, ◌<◌, length, drop, sym, ◌∙◌, ap, arith}
use Rattle.std.specs.Option.{option_and_then, option_copied}
use Rattle.agg_model.specs.ChangeList.{is_of_before, value_at, last_change, last_where, value_of}
use Rattle.agg_model.proofs.LookUps.{value_after, walk-here, walk-past, value_after-start}
use Rattle.agg_model.proofs.look_up.plain_value_at.Goals as goal
use Rattle.agg_model.proofs.look_up.plain_value_at.Goals.{then-is_earlier, else-is_earlier}

pub loop-change-init : goal.loop-change-init
unfolding value_at last_change
loop-change-init c =
    let p = is_of_before c.args.entity c.args.key.now c.args.before in
    value_after-start p c.as_slice-change-items.result.now ∙ ap (λ cs. option_and_then value_of (last_where p cs)) c.as_slice-change-items.ensures

pub loop-change-preserved : goal.loop-change-preserved
loop-change-preserved c =
    let p = is_of_before c.args.entity c.args.key.now c.args.before in
    let items = c.as_slice-change-items.result.now in
    let i = c.loop-change.change-index in
    let rest = last_where p (drop (i + 1) items) in
    let before = option_copied c.loop-change.found in
    let here : i < length items = omega arith in
    elim c.if-is_earlier.branch [
      | then-is_earlier w ↦
          ap (λ v. value_after (option_copied v) rest) w.found-is
          ∙ ap (λ v. value_after v rest) w.value-found.ensures
          ∙ sym (walk-here p before items i _ here c.change-item.is (sym c.is_earlier.ensures ∙ w.if-is_earlier.true))
          ∙ c.loop-change.invariant
      | else-is_earlier w ↦
          ap (λ v. value_after (option_copied v) rest) w.found-is
          ∙ sym (walk-past p before items i _ here c.change-item.is (sym c.is_earlier.ensures ∙ w.if-is_earlier.false))
          ∙ c.loop-change.invariant
    ]
