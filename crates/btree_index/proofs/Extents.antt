-- Each offset lies within its file.
use Rattle.std.proofs.Common.{◌≡◌, ℕ, ◌+◌, ◌*◌, ◌^◌, ◌<◌, ◌≤◌, List, length, ap, ◌∙◌, arith}
use Rattle.std.proofs.lemmas.List.{take_all, length-append}
use Rattle.word_file.specs.Spelling.{TaggedWords, header, body, spelling, end_of, offset_at}
use Rattle.word_file.proofs.Bodies.{offset_at_mono}
use Rattle.word_file.proofs.Headers.{length-header}
use Rattle.word_file.specs.Paired.{key_count, key_offset, key_offsets}
use Rattle.file_numbers.specs.Lists.{AreNumbers}
use Rattle.btree_index.proofs.Seeks.{all_fit}

offset_within : (words : List (List ℕ)) (i : ℕ) → offset_at words i ≤ end_of words
unfolding offset_at
offset_within words i =
    let last : offset_at words (i + length words) ≡ end_of words = ap end_of (take_all (i + length words) words (omega arith)) in
    omega (arith, offset_at_mono words i (i + length words) (omega arith), last)

length-spelling : (f : TaggedWords) → length (spelling f) ≡ end_of f.words
unfolding spelling end_of
length-spelling f = omega (arith, length-append (header f.tag (length f.words)) (body f.words), length-header f.tag (length f.words))

pub offsets_fit : (f : TaggedWords) (file : List ℕ) → file ≡ spelling f → length file < 2 ^ 64 → AreNumbers (key_offsets f.words)
offsets_fit f file is small =
    let len : length file ≡ end_of f.words = ap length is ∙ length-spelling f in
    all_fit (key_offset f.words) 0 (key_count f.words) (λ k. omega (arith, offset_within f.words (2 * k), len))
