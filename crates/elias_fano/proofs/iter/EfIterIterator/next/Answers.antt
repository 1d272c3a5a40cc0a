use Rattle.std.proofs.Common.{length, ◌∙◌, ap, sym, arith}
use Rattle.std.proofs.lemmas.List.{drop_all}
use Rattle.elias_fano.specs.Reading.{items_of}
use Rattle.elias_fano.proofs.Places.{next-place, drop-items_of, ones-past, length-items_of}
use Rattle.elias_fano.proofs.iter.EfIterIterator.next.Goals as goal

pub returns-then-self-clause-steps : goal.returns-then-self-clause-steps
returns-then-self-clause-steps c =
    let p = c.self.inside.parts in
    let none = drop_all c.self.inside.place (items_of p) (omega (arith, length-items_of p, c.if-self.true)) in
    (sym c.self.view_is ∙ none, sym c.self.view_is ∙ none)

pub item-item-requires-clause-place : goal.item-item-requires-clause-place
item-item-requires-clause-place c =
    let found = rw c.unwrap-one.ensures at c.next_one.ensures.found in
    next-place c.self.inside.parts c.self.inside.place c.self.inside.bit c.unwrap-one.result c.self.invariant.before found.1 found.2

pub invariant_of-self : goal.invariant_of-self
invariant_of-self c =
    let found = rw c.unwrap-one.ensures at c.next_one.ensures.found in
    record {
      sound = c.self.invariant.sound;
      within = omega (arith, c.if-self.false);
      inside = omega (arith, found.1.0);
      before = omega (arith, ones-past c.self.inside.parts.upper c.unwrap-one.result found.1, found.2, c.self.invariant.before);
    }

pub returns-clause-steps : goal.returns-clause-steps
returns-clause-steps c = sym c.self.view_is ∙ drop-items_of c.self.inside.parts c.self.inside.place c.item-item.result c.if-self.false c.item-item.ensures

pub returns-clause-goes : goal.returns-clause-goes
returns-clause-goes c =
    let e = sym c.self.view_is ∙ drop-items_of c.self.inside.parts c.self.inside.place c.item-item.result c.if-self.false c.item-item.ensures in
    record { on = λ _. (tt, tt, omega (arith, ap length e)); keeps = tt; rests = λ _. tt }
