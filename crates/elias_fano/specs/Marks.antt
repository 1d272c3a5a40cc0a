-- How many ones stand before evenly spaced bits, and the items below an upper part.
use Rattle.std.specs.Prelude.{◌≡◌, ℕ, ◌+◌, ◌-◌, ◌*◌, ◌^◌, ◌<◌, ◌≤◌, Bool, List, length, take, slice_index}
use Rattle.bit_store.specs.Bits.{ones_of}
use Rattle.elias_fano.specs.declared.marks.Marks.{Marks}
use Rattle.elias_fano.specs.declared.parts.Parts.{Parts}
use Rattle.elias_fano.specs.Spelling.{upper_of}
use Rattle.elias_fano.specs.Reading.{place_of_one, items_of, IsListed}

-- mark j is the number of ones before bit j * block; the marks go over all bits, and are near each other
pub record AreMarks (bits : List Bool) (m : Marks) : Type 0 where
  pub some : 0 < m.used
  pub most : m.used ≤ 512
  pub short : length bits < 2 ^ 63
  pub inside : (j : ℕ) → j < m.used → j * m.block ≤ length bits
  pub whole : length bits ≤ m.used * m.block
  pub near : 512 * m.block ≤ length bits + 512 * 64
  pub ones : (j : ℕ) → j < m.used → slice_index m.ones j ≡ ones_of (take (j * m.block) bits)

-- marks of the text of these items
abbrev pub AreMarksOf : List ℕ → Marks → Type 0
AreMarksOf items m = AreMarks (upper_of items) m

-- the parts of the text of their items
pub record IsKnown (p : Parts) : Type 0 where
  pub listed : IsListed p
  pub short : length p.upper < 2 ^ 63
  pub upper : p.upper ≡ upper_of (items_of p)

-- the upper part of item i
abbrev pub high_at : Parts → ℕ → ℕ
high_at p i = place_of_one p.upper i - i

-- the first n items have an upper part below high, and the others haven't
pub record AreBelow (p : Parts) (high n : ℕ) : Type 0 where
  pub within : n ≤ p.count
  pub below : (i : ℕ) → i < n → high_at p i < high
  pub above : (i : ℕ) → n ≤ i → i < p.count → high ≤ high_at p i
