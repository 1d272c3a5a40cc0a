use Rattle.std.proofs.Common.{cond, Some, None, ap, sym, ◌∙◌}
use Rattle.command_words.proofs.CommandLaws.{value_long, value_none, value_number}
use Rattle.command_words.proofs.words.step_value.Goals as goal

pub returns-then-value-gt-MOST_DIGITS-clause-exact : goal.returns-then-value-gt-MOST_DIGITS-clause-exact
returns-then-value-gt-MOST_DIGITS-clause-exact c = sym (value_long c.args.value.now c.if-value-gt-MOST_DIGITS.true)

pub returns-in_default-clause-exact : goal.returns-in_default-clause-exact
returns-in_default-clause-exact c =
    sym (value_none c.args.value.now c.number.result c.in_default.field-0 c.if-value-gt-MOST_DIGITS.false c.in_default.is c.number.ensures.exact)

pub returns-then-is_step-clause-exact : goal.returns-then-is_step-clause-exact
returns-then-is_step-clause-exact c =
    sym (value_number c.args.value.now c.number.result c.in-Ok.size c.if-value-gt-MOST_DIGITS.false c.in-Ok.is c.number.ensures.exact
    ∙ ap (λ b. cond b (Some c.in-Ok.size) None) (sym c.is_step.ensures ∙ c.if-is_step.true))

pub returns-else-is_step-clause-exact : goal.returns-else-is_step-clause-exact
returns-else-is_step-clause-exact c =
    sym (value_number c.args.value.now c.number.result c.in-Ok.size c.if-value-gt-MOST_DIGITS.false c.in-Ok.is c.number.ensures.exact
    ∙ ap (λ b. cond b (Some c.in-Ok.size) None) (sym c.is_step.ensures ∙ c.if-is_step.false))
