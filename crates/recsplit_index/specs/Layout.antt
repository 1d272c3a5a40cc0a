-- What an accessor holds before it is a text, and how far a text is followed.
use Rattle.std.specs.Prelude.{◌≡◌, ℕ, ◌≤◌, List, length, take, Result, IfOk, IfErr}
use Rattle.bit_store.specs.Bits.{bits_of, text_of}
use Rattle.file_numbers.specs.Lists.{AreNumbers}
use Rattle.word_file.specs.Agreement.{GoesOn, PartsAt}
use Rattle.recsplit_index.specs.declared.layout.Layout.{Layout}
use Rattle.recsplit_index.specs.declared.layout.Shape.{Shape}
use Rattle.recsplit_index.specs.Spelling.{Index}

-- the parts of x, its bits as their text
pub record IsLayoutOf (l : Layout) (x : Index) : Type 0 where
  pub form_is : l.form ≡ x.form
  pub salt_is : l.salt ≡ x.salt
  pub starts_are : l.starts.items ≡ x.starts
  pub offsets_are : l.offsets.items ≡ x.offsets
  pub bits_is : l.bits ≡ length x.bits
  pub text_is : l.text ≡ text_of x.bits
  pub back : take (length x.bits) (bits_of l.text) ≡ x.bits
  pub starts_fit : AreNumbers x.starts
  pub offsets_fit : AreNumbers x.offsets

-- how many of each x has
pub record IsShapeOf (s : Shape) (x : Index) : Type 0 where
  pub form_is : s.form ≡ x.form
  pub salt_is : s.salt ≡ x.salt
  pub starts_is : s.starts ≡ length x.starts
  pub count_is : s.count ≡ length x.offsets
  pub bits_is : s.bits ≡ length x.bits
  pub starts_fit : AreNumbers x.starts
  pub offsets_fit : AreNumbers x.offsets

-- from `at` on the bytes go on with the text, which ends there, or they part from it there, whatever comes after it
pub record Follows (bytes : List ℕ) (at : ℕ) (text : List ℕ) (reached : Result ℕ ℕ) : Type 0 where
  pub end : IfOk reached (λ end. GoesOn bytes text at end)
  pub place : IfErr reached (λ place. PartsAt bytes text at place)

-- how far it goes is within the bytes
abbrev pub IsWithin : List ℕ → Result ℕ ℕ → Type 0
IsWithin bytes reached = IfOk reached (λ end. end ≤ length bytes)
