use Rattle.std.proofs.Common.{◌+◌, IsTrue, refl, arith, subst}
use Rattle.history_core.proofs.Climbs.{all_climb, climb_at}
use Rattle.history_core.proofs.befores.all_go_up.Goals as goal

pub returns-then-not-goes_up : goal.returns-then-not-goes_up
returns-then-not-goes_up c = (
  λ no. absurd cc,
  λ up. subst IsTrue c.if-not-goes_up.true (c.goes_up.ensures.1 (climb_at c.args.rows.now up c.loop-place.place (omega arith))),
)

pub returns : goal.returns
returns c = (λ _. all_climb c.args.rows.now (c.loop-place.place + 1) (omega arith) c.loop-place.invariant, λ _. refl)
