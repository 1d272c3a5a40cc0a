use Rattle.std.proofs.Common.{◌-◌, length, ◌∙◌, ap, sym, arith}
use Rattle.elias_fano.proofs.Places.{place-is, take-items_of}
use Rattle.elias_fano.proofs.iter.EfBackIterator.next.Goals as goal

pub item-requires-clause-place : goal.item-requires-clause-place
item-requires-clause-place c =
    let found = rw c.unwrap-one.ensures at c.last_one.ensures.found in
    sym (place-is c.self.inside.parts.upper (c.self.inside.place - 1) c.unwrap-one.result found.1 (omega (arith, found.2, c.self.invariant.before)))

pub returns-clause-steps : goal.returns-clause-steps
returns-clause-steps c = sym c.self.view_is ∙ take-items_of c.self.inside.parts c.self.inside.place c.item.result (omega arith) c.self.invariant.within c.item.ensures

pub returns-clause-goes : goal.returns-clause-goes
returns-clause-goes c =
    let e = sym c.self.view_is ∙ take-items_of c.self.inside.parts c.self.inside.place c.item.result (omega arith) c.self.invariant.within c.item.ensures in
    record { on = λ _. (tt, tt, omega (arith, ap length e)); keeps = tt; rests = λ _. tt }
