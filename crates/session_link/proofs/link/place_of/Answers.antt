use Rattle.std.proofs.Common.{ap, sym, ◌∙◌}
use Rattle.session_link.specs.declared.link.Transaction.{Transaction}
use Rattle.session_link.proofs.LinkLaws.{is_place_of}
use Rattle.session_link.proofs.link.place_of.Goals as goal

pub returns-then-transaction-number : goal.returns-then-transaction-number
returns-then-transaction-number c =
    is_place_of c.args.number c.loop-i.i c.args.transactions.now c.index-transactions-i.result c.loop-i-test.true
    (ap (λ (t : Transaction). t.number) (sym c.index-transactions-i.is) ∙ c.if-transaction-number.true) c.loop-i.invariant.skipped c.loop-i.invariant.kept
