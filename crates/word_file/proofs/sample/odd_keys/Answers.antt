use Rattle.std.proofs.Common.{ap, ◌∙◌}
use Rattle.word_file.specs.Spelling.{TaggedWords}
use Rattle.word_file.proofs.Sampled.{odd_none, odd_more, odd_paired}
use Rattle.word_file.proofs.sample.odd_keys.Goals as goal

pub loop-i-init : goal.loop-i-init
loop-i-init c = odd_none c.in_ok-writer.writer.words (ap (λ (f : TaggedWords). f.words) c.in_ok-writer.ensures)

pub loop-i-preserved : goal.loop-i-preserved
loop-i-preserved c =
    odd_more c.loop-i.writer.words c.push.new.self.words c.push-in-loop-i.new.self.words c.to_be_bytes.result c.loop-i.i c.loop-i.invariant c.to_be_bytes.ensures
    (ap (λ (f : TaggedWords). f.words) c.in_ok-push.ensures.ok) (ap (λ (f : TaggedWords). f.words) c.in_ok-push-2.ensures.ok)

pub returns-clause-paired : goal.returns-clause-paired
returns-clause-paired c = odd_paired c.finish.result.words c.loop-i.i (ap (λ (f : TaggedWords). f.words) c.finish.ensures.file ∙ c.loop-i.invariant)
