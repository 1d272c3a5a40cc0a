use denote.Param.Send.{sendable}
use Rattle.real_rows.proofs.Sent.{SqlTable-send}
use Rattle.real_rows.proofs.tests.a_keeper_goes_to_a_thread_and_back.Goals as goal

pub floor_of_another-first-requires-send-T : goal.floor_of_another-first-requires-send-T
floor_of_another-first-requires-send-T c κs = search (SqlTable-send, sendable)
