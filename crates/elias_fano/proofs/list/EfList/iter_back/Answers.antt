use Rattle.std.proofs.Common.{◌∙◌, ap, sym, arith, take, reverse}
use Rattle.std.proofs.lemmas.List.{take_all}
use Rattle.elias_fano.specs.Reading.{items_of}
use Rattle.elias_fano.proofs.Places.{length-items_of, place-one}
use Rattle.elias_fano.proofs.list.EfList.iter_back.Goals as goal

pub returns-else-place-parts : goal.returns-else-place-parts
returns-else-place-parts c =
    let p = c.self.inside.parts in
    let len = length-items_of p in
    rw (← c.self.view_is) (c.new-else-place-parts.ensures ∙ ap (λ q. reverse (take p.count (items_of q))) c.again-else-place-parts.ensures ∙ ap reverse (take_all p.count (items_of p) (omega (arith, len)) ∙ sym (take_all c.args.place (items_of p) (omega (arith, len, c.if-place-parts.false)))))

pub new-requires : goal.new-requires
new-requires c =
    let p = c.self.inside.parts in
    let sound = c.self.invariant.0.listed.sound in
    let one = place-one p.upper c.args.place (omega (arith, c.if-place-parts.true, sound.ones)) in
    rw (c.again.ensures, c.one_of-bit.ensures) (record { sound = sound; within = omega (arith, c.if-place-parts.true); inside = omega (arith, one.0.0); before = one.1 })
