use Rattle.std.proofs.Common.{ap, length, arith}
use Rattle.std.proofs.lemmas.List.{length_push}
use Rattle.word_file.proofs.Gathers.{gathered_more, here}
use Rattle.word_file.proofs.paired.key_offsets.Goals as goal

pub loop-next-preserved : goal.loop-next-preserved
loop-next-preserved c =
    let place = here c.args.words.now.words c.loop-next.next c.in-Some.key c.loop-next.out.items c.loop-next.invariant.gathered c.in-Some.is in
    record {
      few = omega (arith, place.within, c.requires, ap length c.in_ok-push.ensures.items, length_push c.loop-next.out.items c.in-Some.key);
      gathered = gathered_more c.args.words.now.words c.loop-next.next c.in-Some.key c.loop-next.out.items c.key_after-next.result c.push.new.self.items c.loop-next.invariant.gathered c.in-Some.is c.key_after-next.ensures c.in_ok-push.ensures.items;
    }
