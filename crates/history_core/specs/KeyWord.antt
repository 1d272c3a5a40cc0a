-- Key words of `.v` files: the key, and then the number in eight bytes.
use Rattle.std.specs.Prelude.{ℕ, ◌-◌, List, [], ◌∷◌, ◌++◌, length, take, drop, slice_index_or}
use Rattle.std.specs.Int.{w64, to_be_bytes, from_be_bytes}
use Rattle.agg_model.specs.declared.contents.Before.{Before}

unfoldable pub key_word : List ℕ → ℕ → List ℕ
key_word key tx = key ++ to_be_bytes w64 tx

-- the key and the number that a word says
unfoldable pub key_in : List ℕ → List ℕ
key_in word = take (length word - 8) word

unfoldable pub number_in : List ℕ → ℕ
number_in word = from_be_bytes w64 (drop (length word - 8) word)

-- what a key word and its value word say
abbrev pub before_in : List ℕ → List ℕ → Before
before_in word value = record { key = key_in word; tx = number_in word; value = value }

-- a key word, its value, the next key word and so on
abbrev pub words_of : List Before → List (List ℕ)
words_of [] = []
words_of (b ∷ bs) = key_word b.key b.tx ∷ b.value ∷ words_of bs

-- what words say; a key word without a value says nothing
abbrev pub befores_in : List (List ℕ) → List Before
befores_in [] = []
befores_in (word ∷ []) = []
befores_in (word ∷ value ∷ words) = before_in word value ∷ befores_in words

-- the before at a place
abbrev pub before_at : List Before → ℕ → Before
before_at befores place = slice_index_or befores place (record { key = []; tx = 0; value = [] })
