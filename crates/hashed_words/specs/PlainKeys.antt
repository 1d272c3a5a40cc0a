-- Rules that several kinds of file have: of key words that are keys alone, and of values.
use Rattle.std.specs.Prelude.{ℕ, ◌&&◌, nat_le, Bool, true, List, length, if◌then◌else◌, Option, Some, None}
use Rattle.std.specs.Ordering.{nat_cmp, is_lt}
use Rattle.std.specs.Cmp.Lexicographic.{slice_cmp}
use Rattle.agg_model.specs.declared.limits.TheConstants.{KEY_MOST, VALUE_MOST}

abbrev pub is_above : Option (List ℕ) → List ℕ → Bool
is_above None key = true
is_above (Some last) key = is_lt (slice_cmp nat_cmp last key)

-- a key of 1 to 64 bytes, above the one before it
abbrev pub is_plain_key : Option (List ℕ) → List ℕ → Bool
is_plain_key last key = (nat_le 1 (length key) && nat_le (length key) KEY_MOST) && is_above last key

-- a value of at most 65,535 bytes; nothing is counted
abbrev pub count_plain_value : ℕ → List ℕ → Option ℕ
count_plain_value counted value = if nat_le (length value) VALUE_MOST then Some counted else None
