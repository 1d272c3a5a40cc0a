-- What the words of a file that is built are.
use Rattle.std.proofs.Common.{◌≡◌, ℕ, List, sym, ap, ◌∙◌, subst}
use Rattle.agg_model.specs.declared.contents.Pair.{Pair}
use Rattle.agg_model.specs.Pairs.{ArePairs}
use Rattle.word_file.specs.declared.tag.Tag.{Tag}
use Rattle.word_file.specs.Spelling.{TaggedWords}
use Rattle.word_file.specs.Reading.{tagged}
use Rattle.domain_core.specs.KvFile.{words_of, pairs_in, tagged_pairs, ArePairWords}
use Rattle.domain_core.proofs.Words.{pairs_in-words_of}

pub pair_words : (pairs : List Pair) → ArePairs pairs → ArePairWords (words_of pairs)
pair_words pairs are = record {
  paired = ap words_of (sym (pairs_in-words_of pairs));
  are = subst ArePairs (sym (pairs_in-words_of pairs)) are;
}

module _ (tag : Tag) (pairs : List Pair) (words : TaggedWords) (are : ArePairs pairs) (is : words ≡ tagged tag (words_of pairs)) where
  pub built_words : ArePairWords words.words
  built_words = subst ArePairWords (sym (ap (λ (f : TaggedWords). f.words) is)) (pair_words pairs are)

  pub built_pairs : tagged_pairs words.tag (pairs_in words.words) ≡ tagged_pairs tag pairs
  built_pairs =
      ap (λ (f : TaggedWords). tagged_pairs f.tag (pairs_in f.words)) is ∙ ap (tagged_pairs tag) (pairs_in-words_of pairs)
