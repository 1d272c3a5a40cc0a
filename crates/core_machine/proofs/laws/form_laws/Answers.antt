use Rattle.core_machine.proofs.TextLaws.{one-form}
use Rattle.core_machine.proofs.laws.form_laws.Goals as goal

pub returns : goal.returns
returns c = record { one = one-form }
