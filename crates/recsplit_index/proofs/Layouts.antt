-- What is seen in the bytes of an accessor.
use Rattle.std.proofs.Common.{◌≡◌, ℕ, ◌+◌, ◌*◌, ◌<◌, Bool, List, ◌++◌, length, get_or, take, drop, refl, sym, ap, subst, ◌∙◌, append_assoc, arith}
use Rattle.std.specs.Int.{w64, from_be_bytes}
use Rattle.std.proofs.lemmas.List.{length-append, drop_at, drop-drop}
use Rattle.file_numbers.proofs.Listed.{length-number_bytes, numbers_at_again, number_at, number_bytes-append, both_numbers}
use Rattle.bit_store.specs.Bits.{bits_of, text_of}
use Rattle.file_numbers.specs.Lists.{number_bytes, numbers_at, AreNumbers}
use Rattle.recsplit_index.specs.Spelling.{Index, laid_out, index_in, IsSpelled, IsHeld}

-- ---- the parts of a layout

after_header : (form salt : ℕ) (starts offsets text : List ℕ) → drop 16 (laid_out form salt starts offsets text) ≡ (number_bytes starts ++ number_bytes offsets) ++ text
unfolding laid_out
after_header form salt starts offsets text = refl

pub laid_long : (form salt : ℕ) (starts offsets text : List ℕ) → length (laid_out form salt starts offsets text) ≡ 16 + (8 * (length starts + length offsets) + length text)
unfolding laid_out
laid_long form salt starts offsets text =
    omega (arith, length-append (number_bytes starts ++ number_bytes offsets) text, length-append (number_bytes starts) (number_bytes offsets), length-number_bytes starts, length-number_bytes offsets)

pub after_starts : (form salt : ℕ) (starts offsets text : List ℕ) → drop (16 + 8 * length starts) (laid_out form salt starts offsets text) ≡ number_bytes offsets ++ text
after_starts form salt starts offsets text =
    sym (drop-drop (8 * length starts) 16 (laid_out form salt starts offsets text))
    ∙ ap (drop (8 * length starts)) (after_header form salt starts offsets text ∙ append_assoc (number_bytes starts) (number_bytes offsets) text)
    ∙ drop_at (number_bytes starts) (number_bytes offsets ++ text) (8 * length starts) (length-number_bytes starts)

pub after_offsets : (form salt : ℕ) (starts offsets text : List ℕ) → drop (16 + 8 * (length starts + length offsets)) (laid_out form salt starts offsets text) ≡ text
after_offsets form salt starts offsets text =
    let both = number_bytes starts ++ number_bytes offsets in
    let len : length both ≡ 8 * (length starts + length offsets) = omega (arith, length-append (number_bytes starts) (number_bytes offsets), length-number_bytes starts, length-number_bytes offsets) in
    sym (drop-drop (8 * (length starts + length offsets)) 16 (laid_out form salt starts offsets text))
    ∙ ap (drop (8 * (length starts + length offsets))) (after_header form salt starts offsets text)
    ∙ drop_at both text (8 * (length starts + length offsets)) len

-- the number at a place after the header
pub read_number : (form salt : ℕ) (starts offsets text bytes : List ℕ) (k : ℕ) → AreNumbers starts → AreNumbers offsets → bytes ≡ laid_out form salt starts offsets text → k < length starts + length offsets → from_be_bytes w64 (drop (16 + 8 * k) bytes) ≡ get_or (starts ++ offsets) k 0
read_number form salt starts offsets text bytes k one other is lt =
    ap (λ (b : List ℕ). from_be_bytes w64 (drop (16 + 8 * k) b)) is
    ∙ ap (from_be_bytes w64)
    (sym (drop-drop (8 * k) 16 (laid_out form salt starts offsets text)) ∙ ap (drop (8 * k)) (after_header form salt starts offsets text ∙ ap (λ (l : List ℕ). l ++ text) (sym (number_bytes-append starts offsets))))
    ∙ number_at k (starts ++ offsets) text (both_numbers starts offsets one other) (omega (arith, lt, length-append starts offsets))

-- ---- what is held

abbrev pub index_with : ℕ → ℕ → List ℕ → List ℕ → List Bool → Index
index_with form salt starts offsets bits = record { form = form; salt = salt; starts = starts; offsets = offsets; bits = bits }

same_index : (form salt : ℕ) (s t o p : List ℕ) (b d : List Bool) → s ≡ t → o ≡ p → b ≡ d → index_with form salt s o b ≡ index_with form salt t p d
same_index form salt s t o p b d es eo eb = rw (es, eo, eb) refl

pub seen : (form salt : ℕ) (starts offsets text : List ℕ) (bits : List Bool) (bytes : List ℕ) → AreNumbers starts → AreNumbers offsets → take (length bits) (bits_of text) ≡ bits → bytes ≡ laid_out form salt starts offsets text
    → index_in form salt (length starts) (length offsets) (length bits) bytes ≡ index_with form salt starts offsets bits
unfolding index_in
seen form salt starts offsets text bits bytes one other back is =
    let laid = laid_out form salt starts offsets text in
    ap (index_in form salt (length starts) (length offsets) (length bits)) is
    ∙ same_index form salt (numbers_at (length starts) (drop 16 laid)) starts (numbers_at (length offsets) (drop (16 + 8 * length starts) laid)) offsets (take (length bits) (bits_of (drop (16 + 8 * (length starts + length offsets)) laid))) bits
    (ap (numbers_at (length starts)) (after_header form salt starts offsets text ∙ append_assoc (number_bytes starts) (number_bytes offsets) text) ∙ numbers_at_again starts (number_bytes offsets ++ text) one)
    (ap (numbers_at (length offsets)) (after_starts form salt starts offsets text) ∙ numbers_at_again offsets text other)
    (ap (λ (b : List ℕ). take (length bits) (bits_of b)) (after_offsets form salt starts offsets text) ∙ back)

pub held : (form salt : ℕ) (starts offsets text : List ℕ) (bits : List Bool) (bytes : List ℕ) → AreNumbers starts → AreNumbers offsets → text ≡ text_of bits → take (length bits) (bits_of text) ≡ bits → bytes ≡ laid_out form salt starts offsets text
    → IsHeld form salt (length starts) (length offsets) (length bits) bytes
held form salt starts offsets text bits bytes one other text_is back is =
    let x = index_with form salt starts offsets bits in
    let spelled : IsSpelled x form salt (length starts) (length offsets) (length bits) bytes = record {
      form_is = refl;
      salt_is = refl;
      starts_is = refl;
      count_is = refl;
      bits_is = refl;
      starts_fit = one;
      offsets_fit = other;
      spelled = is ∙ ap (laid_out form salt starts offsets) text_is;
    }
    in
    subst (λ (y : Index). IsSpelled y form salt (length starts) (length offsets) (length bits) bytes) (sym (seen form salt starts offsets text bits bytes one other back is)) spelled

-- the same of what is seen
pub held_as : {form salt starts count bits : ℕ} {bytes : List ℕ} (x : Index) → IsHeld form salt starts count bits bytes → index_in form salt starts count bits bytes ≡ x → IsSpelled x form salt starts count bits bytes
held_as {form} {salt} {starts} {count} {bits} {bytes} x h is = subst (λ (y : Index). IsSpelled y form salt starts count bits bytes) is h

-- the same where the number of bits is a variable
pub seen_by : (form salt : ℕ) (starts offsets text : List ℕ) (bits : List Bool) (b : ℕ) (bytes : List ℕ) → AreNumbers starts → AreNumbers offsets → b ≡ length bits → take (length bits) (bits_of text) ≡ bits → bytes ≡ laid_out form salt starts offsets text
    → index_in form salt (length starts) (length offsets) b bytes ≡ index_with form salt starts offsets bits
seen_by form salt starts offsets text bits b bytes one other b-is back is = ap (λ (n : ℕ). index_in form salt (length starts) (length offsets) n bytes) b-is ∙ seen form salt starts offsets text bits bytes one other back is

pub held_by : (form salt : ℕ) (starts offsets text : List ℕ) (bits : List Bool) (b : ℕ) (bytes : List ℕ) → AreNumbers starts → AreNumbers offsets → b ≡ length bits → text ≡ text_of bits → take (length bits) (bits_of text) ≡ bits → bytes ≡ laid_out form salt starts offsets text
    → IsHeld form salt (length starts) (length offsets) b bytes
held_by form salt starts offsets text bits b bytes one other b-is text_is back is = subst (λ (n : ℕ). IsHeld form salt (length starts) (length offsets) n bytes) (sym b-is) (held form salt starts offsets text bits bytes one other text_is back is)
