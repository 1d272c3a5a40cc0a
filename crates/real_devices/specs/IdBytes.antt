-- The bytes of an id in a table, which are ordered as ids are.
use Rattle.std.specs.Prelude.{ℕ, zero, suc, List, [], ◌∷◌, ◌++◌}
use Rattle.std.specs.Int.{w64, to_be_bytes}
use Rattle.agg_outside.specs.declared.rows.RowId.{RowId}

-- a byte 0 as 0, 255, and any other as it is
abbrev pub escape : ℕ → List ℕ
escape zero = 0 ∷ 255 ∷ []
escape (suc byte) = suc byte ∷ []

-- the bytes of a text, and behind the last of them 0, 0: so a text is before what it begins
abbrev pub ended : List ℕ → List ℕ
ended [] = 0 ∷ 0 ∷ []
ended (byte ∷ bytes) = escape byte ++ ended bytes

-- entity, key, number and born in this order; the numbers have their highest byte first
abbrev pub id_bytes : RowId → List ℕ
id_bytes id = id.entity ∷ (ended id.key ++ (to_be_bytes w64 id.tx ++ to_be_bytes w64 id.born))
