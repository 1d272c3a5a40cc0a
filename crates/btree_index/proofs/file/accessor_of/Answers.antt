use Rattle.std.proofs.Common.{◌/◌, ℕ, sym, ap, ◌∙◌, arith}
use Rattle.word_file.specs.Paired.{key_offsets}
use Rattle.btree_index.proofs.Spellings.{held, seen}
use Rattle.btree_index.proofs.Seeks.{length-key_offsets}
use Rattle.btree_index.proofs.Extents.{offsets_fit}
use Rattle.btree_index.proofs.file.accessor_of.Goals as goal

pub invariant_of-result : goal.invariant_of-result
invariant_of-result c =
    let offsets = key_offsets c.args.words.now.words in
    let fits = offsets_fit c.args.words.now c.bytes-length.result.now c.bytes-length.ensures.spelled (omega arith) in
    held offsets c.args.bytes (c.count.result / 2) fits (ap (λ (n : ℕ). n / 2) c.count.ensures.count ∙ sym (length-key_offsets c.args.words.now.words)) c.requires

pub returns : goal.returns
returns c =
    let offsets = key_offsets c.args.words.now.words in
    let fits = offsets_fit c.args.words.now c.bytes-length.result.now c.bytes-length.ensures.spelled (omega arith) in
    seen offsets c.args.bytes (c.count.result / 2) fits (ap (λ (n : ℕ). n / 2) c.count.ensures.count ∙ sym (length-key_offsets c.args.words.now.words)) c.requires
