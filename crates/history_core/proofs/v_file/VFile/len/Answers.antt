use Rattle.std.proofs.Common.{◌≡◌, ◌*◌, length, sym, ◌∙◌, ap, arith}
use Rattle.word_file.specs.Spelling.{TaggedWords}
use Rattle.history_core.specs.KeyWord.{befores_in}
use Rattle.history_core.specs.VFile.{TaggedBefores}
use Rattle.history_core.proofs.Spelled.{length-words_of}
use Rattle.history_core.proofs.v_file.VFile.len.Goals as goal

pub returns-clause-count : goal.returns-clause-count
returns-clause-count c =
    let words = c.self.inside.file.words in
    let counted : c.count.result ≡ length words = c.count.ensures.count ∙ ap (λ (w : TaggedWords). length w.words) c.words.ensures in
    let paired : length words ≡ 2 * length (befores_in words) = ap length c.self.invariant.words_are ∙ length-words_of (befores_in words) in
    let seen : length (befores_in words) ≡ length c.args.self.now.befores = ap (λ (f : TaggedBefores). length f.befores) c.self.view_is in
    omega (arith, counted, paired, seen)
