use Rattle.std.proofs.Common.{◌+◌, arith}
use Rattle.std.proofs.lemmas.List.{length-take}
use Rattle.elias_fano.proofs.Bounds.{start_inside, ones_at_start, zero_parts, near_zero}
use Rattle.elias_fano.proofs.finding.items_up_to.Goals as goal

pub overflow_add-from : goal.overflow_add-from
overflow_add-from c = record { fits = omega (arith, start_inside c.args.parts.now c.args.high c.args.start c.requires.sound.ones c.requires.lower c.requires.more, c.requires.sound.room) }

pub select_zero_from-requires : goal.select_zero_from-requires
select_zero_from-requires c =
    let inside = start_inside c.args.parts.now c.args.high c.args.start c.requires.sound.ones c.requires.lower c.requires.more in
    rw c.front-near.ensures (omega (arith, inside, length-take c.saturating_add.result c.args.parts.now.upper))

pub overflow_add-high : goal.overflow_add-high
overflow_add-high c = record { fits = omega (arith, start_inside c.args.parts.now c.args.high c.args.start c.requires.sound.ones c.requires.lower c.requires.more, c.requires.sound.room) }

pub returns-in-Some : goal.returns-in-Some
returns-in-Some c =
    let p = c.args.parts.now in
    let found = rw c.front-near.ensures at c.in-Some.ensures.found in
    let near = near_zero p.upper c.saturating_add.result (c.args.high + c.args.start) c.in-Some.zero found.0 found.1 found.2 in
    zero_parts p c.args.high c.in-Some.zero c.requires.sound.ones near.0 (omega (arith, near.1, ones_at_start p c.args.high c.args.start c.requires.sound.ones c.requires.lower))
