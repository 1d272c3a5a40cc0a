-- What an `.ef` file asks of its words, and where its files are refused.
use Rattle.std.specs.Prelude.{ℕ, ◌+◌, ◌*◌, ◌^◌, ◌&&◌, nat_eq, nat_lt, min, Bool, true, false, List, [], ◌∷◌, length, if◌then◌else◌, Option, Some, None}
use Rattle.std.specs.Option.{option_map_or}
use Rattle.std.specs.Cmp.Lexicographic.{pointwise}
use Rattle.agg_model.specs.declared.contents.Times.{Times}
use Rattle.agg_model.specs.declared.entity.FileKind.TheVariants.{Ef, Efi}
use Rattle.elias_fano.specs.Spelling.{spelling}
use Rattle.word_file.specs.declared.tag.Tag.{Tag}
use Rattle.hashed_words.specs.declared.error.FileError.{FileError}
use Rattle.hashed_words.specs.Rules.{Rules}
use Rattle.hashed_words.specs.Faults.{opened, fault_behind, hash_fault}
use Rattle.inverted_index.specs.Climbing.{climbs}
use Rattle.hashed_words.specs.PlainKeys.{is_plain_key}
use Rattle.inverted_index.specs.EfFile.{numbers_in}

-- the end of the steps of a tag, or of the numbers of 64 bits
abbrev pub end_of : Tag → ℕ
end_of tag = min (tag.to * tag.step) (2 ^ 64)

-- at least one number, each above the one before, all inside the steps
abbrev pub are_numbers : Tag → List ℕ → Bool
are_numbers tag items = nat_lt 0 (length items) && climbs (tag.from * tag.step) (end_of tag) items

-- the word is the text of the numbers that it says, and they may be those of a key
unfoldable pub is_text : Tag → List ℕ → Bool
is_text tag text = pointwise nat_eq text (spelling (numbers_in text)) && are_numbers tag (numbers_in text)

-- so many numbers more, unless they are too many in all
abbrev pub counted_more : ℕ → ℕ → Option ℕ
counted_more counted more = if nat_lt (counted + more) (2 ^ 23) then Some (counted + more) else None

abbrev pub count_text : Tag → ℕ → List ℕ → Option ℕ
count_text tag counted text = if is_text tag text then counted_more counted (length (numbers_in text)) else None

abbrev pub ef_rules : Tag → Rules
ef_rules tag = record { key_stands = is_plain_key; count_value = count_text tag }

-- the same of a list that isn't spelled yet, and of all lists behind a key
abbrev pub count_list : Tag → Option (List ℕ) → ℕ → Times → Option ℕ
count_list tag last counted t =
    if is_plain_key last t.key && are_numbers tag t.items then counted_more counted (length t.items) else None

abbrev pub are_lists_from : Tag → Option (List ℕ) → ℕ → List Times → Bool
are_lists_from tag last counted [] = true
are_lists_from tag last counted (t ∷ ts) =
    option_map_or (λ sum. are_lists_from tag (Some t.key) sum ts) (count_list tag last counted t) false

abbrev pub are_lists : Tag → List Times → Bool
are_lists tag ts = are_lists_from tag None 0 ts

-- the first fault of the two files: that of the words, or else where the accessor first differs
unfoldable pub fault_of : Tag → List ℕ → List ℕ → Option FileError
fault_of tag ef efi = fault_behind Ef (hash_fault Efi efi) (opened (ef_rules tag) tag ef)
