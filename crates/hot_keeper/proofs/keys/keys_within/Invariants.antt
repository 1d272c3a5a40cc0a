use Rattle.std.proofs.Common.{◌≡◌, ◌≤◌, length, Some}
use Rattle.agg_outside.specs.Rows.{Held}
use Rattle.hot_keeper.proofs.KeyLaws.{KeyWalk}
use Rattle.hot_keeper.proofs.keys.keys_within.Given as goal

abbrev pub invariant-loop-look : goal.invariant-loop-look
invariant-loop-look g l = record {
  told : l.rows.told ≡ l.initial.rows.told;
  epoch : l.rows.epoch ≡ l.initial.rows.epoch;
  faults : l.initial.rows.faults ≤ l.rows.faults;
  short : length l.found ≤ l.limit;
  still : (h : Held) → l.initial.rows.told ≡ Some h → KeyWalk l.epoch l.entity l.fn.from l.numbers.from l.numbers.to l.limit h.rows l.place l.found;
}
