use Rattle.history_core.proofs.FileLaws.{v_contents-AreBefores}
use Rattle.history_core.proofs.laws.list_laws.Goals as goal

pub returns : goal.returns
returns c = v_contents-AreBefores
