use Rattle.std.proofs.Common.{arith}
use Rattle.word_file.proofs.Growth.{begun_few, begun_more, seen_more, seen_end, seen_place}
use Rattle.word_file.proofs.writer.WordWriter.push.Goals as goal

pub overflow_add-self : goal.overflow_add-self
overflow_add-self c = omega (arith, begun_few c.self.invariant, c.len-at.ensures, c.len-at.type_inv)

pub invariant_of-self-2 : goal.invariant_of-self-2
invariant_of-self-2 c = begun_more c.self.invariant c.put_word.new.out.items c.args.word.now c.requires c.in_ok-put_word.ensures.ok

pub returns-clause-ok : goal.returns-clause-ok
returns-clause-ok c = seen_more c.args.self.now c.self.invariant c.self.view_is c.put_word.new.out.items c.args.word.now c.requires c.in_ok-put_word.ensures.ok

pub returns-clause-offset : goal.returns-clause-offset
returns-clause-offset c = omega (arith, c.len-at.ensures, seen_end c.args.self.now c.self.invariant c.self.view_is)

pub returns-clause-place : goal.returns-clause-place
returns-clause-place c =
    seen_place c.args.self.now c.self.invariant c.self.view_is c.put_word.new.out.items c.args.word.now c.requires c.in_ok-put_word.ensures.ok c.len-at.result (omega (arith, c.len-at.ensures))
