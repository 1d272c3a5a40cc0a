use Rattle.std.proofs.Common.{sym, ◌∙◌, arith}
use Rattle.history_core.proofs.Checked.{is_inside-true, is_inside-from}
use Rattle.history_core.proofs.befores.is_number.Goals as goal

pub returns : goal.returns
returns c = (
  λ holds. record { fits = omega arith; inside = is_inside-true c.args.tag c.args.tx (sym c.is_inside.ensures ∙ holds) },
  λ h. c.is_inside.ensures ∙ is_inside-from c.args.tag c.args.tx h.inside,
)
