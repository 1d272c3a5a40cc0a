-- One file less to look into.
use Rattle.std.proofs.Common.{◌≡◌, ℕ, ◌+◌, ◌*◌, ◌-◌, ◌<◌, ◌≤◌, List, [], ◌∷◌, ◌++◌, length, get_or, take, refl, sym, ap, ◌∙◌, arith}
use Rattle.std.specs.Option.{option_or}
use Rattle.std.proofs.lemmas.List.{take_more}
use Rattle.agg_model.specs.Pairs.{word_in, newest_word}
use Rattle.agg_model.proofs.CoverageLaws.{newest_word-push}
use Rattle.btree_index.specs.Levels.{levels}
use Rattle.domain_core.specs.KvFile.{TaggedPairs, pairs_of_files, words_read}

pairs_of_files-push : (files : List TaggedPairs) (file : TaggedPairs) → pairs_of_files (files ++ file ∷ []) ≡ pairs_of_files files ++ file.pairs ∷ []
pairs_of_files-push [] file = refl
pairs_of_files-push (first ∷ files) file = ap (λ fs. first.pairs ∷ fs) (pairs_of_files-push files file)

words_read-push : (files : List TaggedPairs) (file : TaggedPairs) → words_read (files ++ file ∷ []) ≡ words_read files + (8 * levels (length file.pairs) + 4)
words_read-push [] file = omega arith
words_read-push (first ∷ files) file = let rest = words_read-push files file in omega arith

module _ (files : List TaggedPairs) (k : List ℕ) (left : ℕ) (file : TaggedPairs) (some : 0 < left) (within : left ≤ length files) (is : file ≡ get_or files (left - 1) file) where
  last_of : take left files ≡ take (left - 1) files ++ file ∷ []
  last_of =
      let one_more : left ≡ left - 1 + 1 = omega arith in
      ap (λ n. take n files) one_more ∙ take_more files (left - 1) file (omega arith) ∙ ap (λ f. take (left - 1) files ++ f ∷ []) (sym is)

  -- the word in the last file, or else the newest in those before it
  pub newest_word-last : newest_word (pairs_of_files (take left files)) k ≡ option_or (word_in file.pairs k) (newest_word (pairs_of_files (take (left - 1) files)) k)
  newest_word-last =
      ap (λ fs. newest_word (pairs_of_files fs) k) last_of
      ∙ ap (λ fs. newest_word fs k) (pairs_of_files-push (take (left - 1) files) file)
      ∙ newest_word-push k (pairs_of_files (take (left - 1) files)) file.pairs

  -- the last file's words, and those of the files before it
  pub words_read-last : words_read (take left files) ≡ words_read (take (left - 1) files) + (8 * levels (length file.pairs) + 4)
  words_read-last = ap words_read last_of ∙ words_read-push (take (left - 1) files) file
