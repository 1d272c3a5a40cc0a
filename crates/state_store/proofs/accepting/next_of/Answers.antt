use Rattle.std.proofs.Common.{sym}
use Rattle.state_store.proofs.AcceptLaws.{next_of-last}
use Rattle.state_store.proofs.accepting.next_of.Goals as goal

pub returns-in-Some : goal.returns-in-Some
returns-in-Some c =
    rw (← c.as_slice.ensures)
    (sym (next_of-last c.args.next c.as_slice.result.now c.in-Some.last.now (sym c.in-Some.ensures.value)))
