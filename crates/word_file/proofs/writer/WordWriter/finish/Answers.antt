use Rattle.std.proofs.Common.{length, ap, ◌∙◌, arith}
use Rattle.std.proofs.lemmas.List.{take_at}
use Rattle.word_file.specs.Reading.{tagged, words_in}
use Rattle.word_file.proofs.Growth.{held_from_begun, words_over, begun_few, counted_over}
use Rattle.word_file.proofs.writer.WordWriter.finish.Goals as goal

pub put_count-requires : goal.put_count-requires
put_count-requires c = omega (arith, ap length c.as_mut_slice.ensures.value, begun_few c.self.invariant)

pub of_parts-requires : goal.of_parts-requires
of_parts-requires c =
    let len = c.put_count.auto.bytes ∙ c.as_mut_slice.ensures.len in
    let over = c.from_vec.ensures ∙ take_at c.put_count.new.bytes _ c.self.inside.bytes.len len ∙ c.put_count.ensures ∙ ap (counted_over c.self.inside.count) c.as_mut_slice.ensures.value in
    rw over (held_from_begun c.self.invariant (omega (arith, begun_few c.self.invariant)))

pub returns-clause-file : goal.returns-clause-file
returns-clause-file c =
    let len = c.put_count.auto.bytes ∙ c.as_mut_slice.ensures.len in
    let over = c.from_vec.ensures ∙ take_at c.put_count.new.bytes _ c.self.inside.bytes.len len ∙ c.put_count.ensures ∙ ap (counted_over c.self.inside.count) c.as_mut_slice.ensures.value in
    let same = ap words_in over ∙ words_over c.self.invariant in
    c.of_parts.ensures ∙ ap (tagged c.self.inside.tag) same ∙ c.self.view_is
