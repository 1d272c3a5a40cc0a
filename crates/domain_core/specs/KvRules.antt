-- What a `.kv` file asks of its words, and where its files are refused.
use Rattle.std.specs.Prelude.{ℕ, List, Option}
use Rattle.std.specs.Option.{option_map, option_or}
use Rattle.agg_model.specs.declared.entity.FileKind.TheVariants.{Kv, Bt, Kvi}
use Rattle.word_file.specs.declared.tag.Tag.{Tag}
use Rattle.word_file.specs.Spelling.{TaggedWords}
use Rattle.word_file.specs.Paired.{key_offsets}
use Rattle.word_file.specs.Difference.{first_difference}
use Rattle.btree_index.specs.Levels.{spelling}
use Rattle.hashed_words.specs.declared.error.FileError.{FileError}
use Rattle.hashed_words.specs.declared.error.FileError.TheVariants.{Bad}
use Rattle.hashed_words.specs.Rules.{Rules}
use Rattle.hashed_words.specs.PlainKeys.{is_plain_key, count_plain_value}
use Rattle.hashed_words.specs.Faults.{opened, fault_behind, hash_fault}

-- key words are keys alone, and values are within their limit
abbrev pub kv_rules : Rules
kv_rules = record { key_stands = is_plain_key; count_value = count_plain_value }

-- where the bytes of a B-tree differ first from that of the words
abbrev pub bt_fault : List ℕ → TaggedWords → Option FileError
bt_fault bt f = option_map (Bad Bt) (first_difference bt (spelling (key_offsets f.words)))

-- the first fault of the three files: that of the words, then that of the B-tree, then that of the hash accessor
unfoldable pub kv_fault : Tag → List ℕ → List ℕ → List ℕ → Option FileError
kv_fault tag kv bt kvi =
    fault_behind Kv (λ f. option_or (bt_fault bt f) (hash_fault Kvi kvi f)) (opened kv_rules tag kv)
