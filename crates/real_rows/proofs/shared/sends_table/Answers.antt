use denote.Param.Send.{sendable}
use Rattle.real_rows.proofs.Sent.{SqlTable-send}
use Rattle.real_rows.proofs.shared.sends_table.Goals as goal

pub is_sent-requires-send-T : goal.is_sent-requires-send-T
is_sent-requires-send-T c κs = search (SqlTable-send, sendable)
