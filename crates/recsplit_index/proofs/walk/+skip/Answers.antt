use Rattle.std.proofs.Common.{◌+◌, ◌-◌, arith, refl}
use Rattle.recsplit_index.proofs.Placements.{left_some}
use Rattle.recsplit_index.proofs.Walkings.{skip_few, skip_leaf, skip_split, left_there, right_there}
use Rattle.recsplit_index.proofs.walk.+skip.Goals as goal

pub returns-then-size-lt2 : goal.returns-then-size-lt2
returns-then-size-lt2 t c = skip_few c.args.reader.now c.args.size c.if-size-lt2.true

pub skip-requires : goal.skip-requires
skip-requires t c =
    let some = left_some c.args.size c.if-size-gt8.true in (
      omega (arith, some.1, c.left_of-left.ensures, c.decreases),
      (
        c.requires.0 + 1,
        left_there c.args.reader.now c.next-seed.new.self c.requires.0 c.args.size c.left_of-left.result c.parameter.result c.next-seed.result c.if-size-gt8.true c.parameter.ensures.value c.left_of-left.ensures
            (c.next-seed.ensures.only, c.next-seed.ensures.moves) c.requires.1,
      ),
    )

pub overflow_sub-size : goal.overflow_sub-size
overflow_sub-size t c = omega (arith, (left_some c.args.size c.if-size-gt8.true).1, c.left_of-left.ensures)

pub skip-requires-then-size-gt8 : goal.skip-requires-then-size-gt8
skip-requires-then-size-gt8 t c =
    let some = left_some c.args.size c.if-size-gt8.true in (
      omega (arith, some.0, c.left_of-left.ensures, c.decreases),
      (
        c.requires.0 + 1,
        right_there c.args.reader.now c.next-seed.new.self c.skip.new.reader c.requires.0 c.args.size c.left_of-left.result (c.args.size - c.left_of-left.result) c.parameter.result c.next-seed.result c.if-size-gt8.true c.parameter.ensures.value c.left_of-left.ensures
            refl (c.next-seed.ensures.only, c.next-seed.ensures.moves) c.skip.ensures c.requires.1,
      ),
    )

pub returns-then-size-gt8 : goal.returns-then-size-gt8
returns-then-size-gt8 t c =
    skip_split c.args.reader.now c.next-seed.new.self c.skip.new.reader c.skip-then-size-gt8.new.reader c.args.size c.left_of-left.result (c.args.size - c.left_of-left.result) c.parameter.result c.next-seed.result c.if-size-gt8.true c.parameter.ensures.value
    c.left_of-left.ensures refl (c.next-seed.ensures.only, c.next-seed.ensures.moves) c.skip.ensures c.skip-then-size-gt8.ensures

pub returns-else-size-gt8 : goal.returns-else-size-gt8
returns-else-size-gt8 t c =
    skip_leaf c.args.reader.now c.next-seed.new.self c.args.size c.parameter.result c.next-seed.result c.if-size-lt2.false c.if-size-gt8.false c.parameter.ensures.value (c.next-seed.ensures.only, c.next-seed.ensures.moves)
