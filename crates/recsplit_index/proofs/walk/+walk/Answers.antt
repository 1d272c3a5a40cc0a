use Rattle.std.proofs.Common.{ℕ, Option, Some, ◌+◌, ◌-◌, arith, refl, subst}
use Rattle.recsplit_index.proofs.Placements.{left_some}
use Rattle.recsplit_index.proofs.Walkings.{Leads, walk_one, walk_leaf, walk_left, walk_right, seed_there, seed_some, seed_small, left_there, right_there, leads_some, slot_below}
use Rattle.recsplit_index.proofs.walk.+walk.Goals as goal

pub returns-then-size-lt2 : goal.returns-then-size-lt2
returns-then-size-lt2 t c = λ keys n is there. walk_one c.args.reader.now.bits c.args.reader.now.at c.args.depth c.args.size c.args.hash keys n c.if-size-lt2.true c.requires.some is there

pub returns-in_err-seed : goal.returns-in_err-seed
returns-in_err-seed t c =
    absurd
    (seed_some c.next.result (seed_there c.args.reader.now c.next.new.self c.args.depth c.args.size c.parameter.result c.next.result c.if-size-lt2.false c.parameter.ensures.value (c.next.ensures.only, c.next.ensures.moves) c.requires.there) c.in_err-seed.was)

pub overflow_cast-seed : goal.overflow_cast-seed
overflow_cast-seed t c =
    omega (
      arith,
      seed_small c.next.result c.in_ok-seed.field-0 (seed_there c.args.reader.now c.next.new.self c.args.depth c.args.size c.parameter.result c.next.result c.if-size-lt2.false c.parameter.ensures.value (c.next.ensures.only, c.next.ensures.moves) c.requires.there)
          c.in_ok-seed.was,
    )

pub returns-then-size-le8 : goal.returns-then-size-le8
returns-then-size-le8 t c = λ keys n is there.
    walk_leaf c.args.reader.now c.next.new.self c.args.depth c.args.size c.parameter.result c.in_ok-seed.field-0 c.position-place.result c.args.hash c.next.result keys n c.if-size-lt2.false c.if-size-le8.true c.parameter.ensures.value
    (c.next.ensures.only, c.next.ensures.moves) c.in_ok-seed.was c.position-place.ensures.value is there

pub walk-requires : goal.walk-requires
walk-requires t c =
    let some = left_some c.args.size c.if-size-le8.false in (
      omega (arith, some.1, c.left_of-left.ensures, c.decreases),
      (
        omega (arith, some.0, c.left_of-left.ensures),
        (
          omega (arith, some.1, c.left_of-left.ensures, c.requires.deep),
          left_there c.args.reader.now c.next.new.self c.args.depth c.args.size c.left_of-left.result c.parameter.result c.next.result c.if-size-le8.false c.parameter.ensures.value c.left_of-left.ensures (c.next.ensures.only, c.next.ensures.moves) c.requires.there,
        ),
      ),
    )

pub returns-then-place-left : goal.returns-then-place-left
returns-then-place-left t c =
    walk_left c.args.reader.now c.next.new.self c.args.depth c.args.size c.left_of-left.result c.parameter.result c.in_ok-seed.field-0 c.position-place.result c.args.hash c.next.result c.walk.result c.if-size-le8.false c.parameter.ensures.value c.left_of-left.ensures
    c.if-place-left.true (c.next.ensures.only, c.next.ensures.moves) c.in_ok-seed.was c.position-place.ensures.value c.walk.ensures

pub skip-requires : goal.skip-requires
skip-requires t c = (
  c.args.depth + 1,
  left_there c.args.reader.now c.next.new.self c.args.depth c.args.size c.left_of-left.result c.parameter.result c.next.result c.if-size-le8.false c.parameter.ensures.value c.left_of-left.ensures (c.next.ensures.only, c.next.ensures.moves) c.requires.there,
)

pub walk-requires-2 : goal.walk-requires-2
walk-requires-2 t c =
    let some = left_some c.args.size c.if-size-le8.false in (
      omega (arith, some.0, c.left_of-left.ensures, c.decreases),
      (
        omega (arith, some.1, c.left_of-left.ensures),
        (
          omega (arith, some.0, some.1, c.left_of-left.ensures, c.requires.deep),
          right_there c.args.reader.now c.next.new.self c.skip.new.reader c.args.depth c.args.size c.left_of-left.result (c.args.size - c.left_of-left.result) c.parameter.result c.next.result c.if-size-le8.false c.parameter.ensures.value c.left_of-left.ensures refl
              (c.next.ensures.only, c.next.ensures.moves) c.skip.ensures c.requires.there,
        ),
      ),
    )

pub returns-in_err-slot : goal.returns-in_err-slot
returns-in_err-slot t c =
    absurd
    (leads_some c.skip.new.reader (c.args.depth + 1) (c.args.size - c.left_of-left.result) c.args.hash c.walk-2.result c.walk-2.ensures
    (right_there c.args.reader.now c.next.new.self c.skip.new.reader c.args.depth c.args.size c.left_of-left.result (c.args.size - c.left_of-left.result) c.parameter.result c.next.result c.if-size-le8.false c.parameter.ensures.value c.left_of-left.ensures refl
    (c.next.ensures.only, c.next.ensures.moves) c.skip.ensures c.requires.there)
    c.in_err-slot.was)

pub overflow_add-result : goal.overflow_add-result
overflow_add-result t c =
    let right = c.args.size - c.left_of-left.result in
    let leads : Leads c.skip.new.reader (c.args.depth + 1) right c.args.hash (Some c.in_ok-slot.slot) = subst (λ (o : Option ℕ). Leads c.skip.new.reader (c.args.depth + 1) right c.args.hash o) c.in_ok-slot.was c.walk-2.ensures in
    let below = slot_below c.skip.new.reader (c.args.depth + 1) right c.args.hash c.in_ok-slot.slot leads
    (right_there c.args.reader.now c.next.new.self c.skip.new.reader c.args.depth c.args.size c.left_of-left.result right c.parameter.result c.next.result c.if-size-le8.false c.parameter.ensures.value c.left_of-left.ensures refl
    (c.next.ensures.only, c.next.ensures.moves) c.skip.ensures c.requires.there)
    in
    omega (arith, below, c.ranges.size, (left_some c.args.size c.if-size-le8.false).1, c.left_of-left.ensures)

pub returns : goal.returns
returns t c =
    let right = c.args.size - c.left_of-left.result in
    let leads : Leads c.skip.new.reader (c.args.depth + 1) right c.args.hash (Some c.in_ok-slot.slot) = subst (λ (o : Option ℕ). Leads c.skip.new.reader (c.args.depth + 1) right c.args.hash o) c.in_ok-slot.was c.walk-2.ensures in
    walk_right c.args.reader.now c.next.new.self c.skip.new.reader c.args.depth c.args.size c.left_of-left.result right c.parameter.result c.in_ok-seed.field-0 c.position-place.result c.args.hash c.next.result c.in_ok-slot.slot c.if-size-le8.false
    c.parameter.ensures.value c.left_of-left.ensures refl c.if-place-left.false (c.next.ensures.only, c.next.ensures.moves) c.in_ok-seed.was c.position-place.ensures.value c.skip.ensures leads
