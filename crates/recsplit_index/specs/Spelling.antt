-- What a hash accessor holds, and how it is spelled.
use Rattle.std.specs.Prelude.{◌≡◌, ℕ, ◌+◌, ◌*◌, Bool, List, [], ◌∷◌, ◌++◌, length, take, drop}
use Rattle.std.specs.Int.{w32, w64, to_be_bytes}
use Rattle.file_numbers.specs.Lists.{number_bytes, numbers_at, AreNumbers}
use Rattle.bit_store.specs.Bits.{bits_of, text_of}

-- form 1 has a salt; for each bucket, and once for the end, the number of keys and of bits before it;
-- offsets by slot; and the bits of all buckets. Form 0 has offsets in the order of their keys alone.
pub record Index : Type 0 where
  pub form : ℕ
  pub salt : ℕ
  pub starts : List ℕ
  pub offsets : List ℕ
  pub bits : List Bool

-- `AGH1`, the form, the salt, two bytes 0, the number of keys, the starts, the offsets and the text of the bits
unfoldable pub laid_out : ℕ → ℕ → List ℕ → List ℕ → List ℕ → List ℕ
laid_out form salt starts offsets text =
    to_be_bytes w32 0x4147_4831 ++ form ∷ salt ∷ 0 ∷ 0 ∷ [] ++ to_be_bytes w64 (length offsets) ++ number_bytes starts ++ number_bytes offsets ++ text

abbrev pub spelling : Index → List ℕ
spelling x = laid_out x.form x.salt x.starts x.offsets (text_of x.bits)

-- what bytes hold, where they have these numbers of starts, offsets and bits
unfoldable pub index_in : ℕ → ℕ → ℕ → ℕ → ℕ → List ℕ → Index
index_in form salt starts count bits bytes = record {
  form = form;
  salt = salt;
  starts = numbers_at starts (drop 16 bytes);
  offsets = numbers_at count (drop (16 + 8 * starts) bytes);
  bits = take bits (bits_of (drop (16 + 8 * (starts + count)) bytes));
}

-- these bytes are the spelling of x, and have these numbers of starts, offsets and bits
pub record IsSpelled (x : Index) (form salt starts count bits : ℕ) (bytes : List ℕ) : Type 0 where
  pub form_is : form ≡ x.form
  pub salt_is : salt ≡ x.salt
  pub starts_is : starts ≡ length x.starts
  pub count_is : count ≡ length x.offsets
  pub bits_is : bits ≡ length x.bits
  pub starts_fit : AreNumbers x.starts
  pub offsets_fit : AreNumbers x.offsets
  pub spelled : bytes ≡ spelling x

abbrev pub IsHeld : ℕ → ℕ → ℕ → ℕ → ℕ → List ℕ → Type 0
IsHeld form salt starts count bits bytes = IsSpelled (index_in form salt starts count bits bytes) form salt starts count bits bytes
