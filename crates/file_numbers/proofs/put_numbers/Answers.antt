use Rattle.file_numbers.proofs.Listed.{numbers_none, numbers_next}
use Rattle.file_numbers.proofs.put_numbers.Goals as goal

pub loop-number-init : goal.loop-number-init
loop-number-init c = numbers_none c.args.out.now.items

pub loop-number-preserved : goal.loop-number-preserved
loop-number-preserved c =
    numbers_next c.args.out.now.items c.args.numbers.now c.loop-number.out.items c.put_u64.new.out.items c.loop-number.number-index c.loop-number-test.true
    c.loop-number.invariant c.in_ok-put_u64.ensures.ok
