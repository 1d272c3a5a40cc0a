-- What a `.v` file of a tag asks of its words.
use Rattle.std.specs.Prelude.{ℕ, ◌+◌, ◌*◌, ◌&&◌, nat_lt, nat_le, Bool, true, List, length, Option, Some, None}
use Rattle.std.specs.Ordering.{is_lt}
use Rattle.agg_model.specs.declared.limits.TheConstants.{KEY_MOST}
use Rattle.word_file.specs.declared.tag.Tag.{Tag}
use Rattle.hashed_words.specs.Rules.{Rules}
use Rattle.hashed_words.specs.PlainKeys.{count_plain_value}
use Rattle.history_core.specs.Befores.{order_of}
use Rattle.history_core.specs.KeyWord.{key_in, number_in}

-- the number is in the steps of the tag
unfoldable pub is_inside : Tag → ℕ → Bool
is_inside tag tx = nat_le (tag.from * tag.step) tx && nat_lt tx (tag.to * tag.step)

-- a key within its limits and eight bytes of a number in the steps
unfoldable pub is_key_word : Tag → List ℕ → Bool
is_key_word tag word = nat_le 9 (length word) && (nat_le (length word) (KEY_MOST + 8) && is_inside tag (number_in word))

-- by key and number
unfoldable pub is_earlier : List ℕ → List ℕ → Bool
is_earlier word other = is_lt (order_of (key_in word) (number_in word) (key_in other) (number_in other))

-- what stands before it is a whole key word, and earlier
unfoldable pub stands_behind : Option (List ℕ) → List ℕ → Bool
stands_behind None word = true
stands_behind (Some last) word = nat_le 8 (length last) && is_earlier last word

-- values are within their limit, and nothing is counted
unfoldable pub v_rules : Tag → Rules
v_rules tag = record {
  key_stands = λ last word. is_key_word tag word && stands_behind last word;
  count_value = count_plain_value;
}
