use Rattle.std.proofs.Common.{◌≡◌, ◌++◌, take, drop}
use Rattle.session_link.specs.Links.{open_of, transactions_without}
use Rattle.session_link.proofs.link.place_of.Given as goal

abbrev pub invariant-loop-i : goal.invariant-loop-i
invariant-loop-i l = record {
  skipped : open_of l.number (drop l.i l.transactions) ≡ open_of l.number l.transactions;
  kept : take l.i l.transactions ++ transactions_without l.number (drop l.i l.transactions) ≡ transactions_without l.number l.transactions;
}
