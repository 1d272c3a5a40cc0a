-- What a file holds, as it is seen.
use Rattle.std.proofs.Common.{◌≡◌, ℕ, List, length, ap, ◌∙◌}
use Rattle.word_file.specs.Spelling.{TaggedWords}
use Rattle.word_file.specs.Paired.{key_count}
use Rattle.inverted_index.specs.EfFile.{TaggedLists, tagged_lists, IsHeld, words_of, lists_in}
use Rattle.inverted_index.proofs.ListWords.{are_counted}

module _ (f : TaggedWords) (v : TaggedLists) (h : IsHeld f) (is : tagged_lists f.tag (lists_in f.words) ≡ v) where
  pub seen_words : f.words ≡ words_of v.lists
  seen_words = h.words ∙ ap (λ (x : TaggedLists). words_of x.lists) is

  pub seen_counted : key_count f.words ≡ length v.lists
  seen_counted = are_counted f (lists_in f.words) h ∙ ap (λ (x : TaggedLists). length x.lists) is
