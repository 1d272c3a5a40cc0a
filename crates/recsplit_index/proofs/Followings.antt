-- A text that is followed part by part.
use Rattle.std.proofs.Common.{◌≡◌, ℕ, ◌<◌, ◌≤◌, List, [], ◌∷◌, ◌++◌, length, Some, None, Result, Ok, Err, refl, sym, ap, subst, ◌∙◌, arith}
use Rattle.std.specs.Prelude.{IfOk, IfErr}
use Rattle.std.specs.Int.{w32, w64, to_be_bytes}
use Rattle.std.proofs.lemmas.List.{append-nil, length-append}
use Rattle.word_file.specs.Difference.{first_difference}
use Rattle.word_file.specs.Agreement.{GoesOn, PartsAt}
use Rattle.word_file.proofs.Agreements.{goes_nowhere, goes_both, goes_far, parts_in_first, parts_in_second, all_same, goes_past}
use Rattle.file_numbers.specs.Lists.{number_bytes}
use Rattle.file_numbers.proofs.Listed.{length-number_bytes}
use Rattle.recsplit_index.specs.Spelling.{laid_out}
use Rattle.recsplit_index.specs.Layout.{Follows}
use Rattle.recsplit_index.specs.InPlace.{header, behind}

pub follows_none : (bytes : List ℕ) (at : ℕ) → at ≤ length bytes → Follows bytes at [] (Ok at)
follows_none bytes at le = record { end = goes_nowhere bytes at le; place = tt }

pub follows_text : (bytes front text : List ℕ) (from at : ℕ) (r : Result ℕ ℕ) → GoesOn bytes front from at → IfOk r (λ end. GoesOn bytes text at end) → IfErr r (λ place. PartsAt bytes text at place) → Follows bytes from (front ++ text) r
follows_text bytes front text from at (Ok end) a ok err = record { end = goes_both a ok; place = tt }
follows_text bytes front text from at (Err p) a ok err = record { end = tt; place = parts_in_second bytes front text from at p a err }

pub follows_past : (bytes front text : List ℕ) (from p : ℕ) → Follows bytes from front (Err p) → Follows bytes from (front ++ text) (Err p)
follows_past bytes front text from p f = record { end = tt; place = parts_in_first bytes front text from p f.place }

pub follows_first : (bytes text : List ℕ) (r : Result ℕ ℕ) → IfOk r (λ end. GoesOn bytes text 0 end) → IfErr r (λ place. PartsAt bytes text 0 place) → Follows bytes 0 text r
follows_first bytes text r ok err = record { end = ok; place = err }

-- a text that was followed from the end of another
pub joined_on : (bytes front text : List ℕ) (at : ℕ) (other : Result ℕ ℕ) → Follows bytes 0 front (Ok at) → (length front ≤ length bytes → Follows bytes (length front) text other) → Follows bytes 0 (front ++ text) other
joined_on bytes front text at other one rest =
    let none : 0 ≤ length bytes = omega arith in
    let far : at ≡ length front = omega (arith, goes_far none one.end) in
    let second = rest (omega (arith, far, one.end.within)) in
    let there : GoesOn bytes front 0 (length front) = subst (λ (n : ℕ). GoesOn bytes front 0 n) far one.end in
    follows_text bytes front text 0 (length front) other there second.end second.place

-- ---- the parts of an accessor

pub length-header : (form salt count : ℕ) → length (header form salt count) ≡ 16
unfolding header
length-header form salt count = refl

pub header_is : (m f n : List ℕ) (form salt count : ℕ) → m ≡ to_be_bytes w32 0x4147_4831 → f ≡ form ∷ salt ∷ 0 ∷ 0 ∷ [] → n ≡ to_be_bytes w64 count → (m ++ f) ++ n ≡ header form salt count
unfolding header
header_is m f n form salt count m-is f-is n-is = rw (m-is, f-is, n-is) refl

pub laid_in_parts : (form salt : ℕ) (starts offsets text : List ℕ) → ((header form salt (length offsets) ++ number_bytes starts) ++ number_bytes offsets) ++ text ≡ laid_out form salt starts offsets text
unfolding header laid_out
laid_in_parts form salt starts offsets text = refl

-- where the offsets stand
pub length-table : (form salt count : ℕ) (starts : List ℕ) → length (header form salt count ++ number_bytes starts) ≡ behind (length starts)
length-table form salt count starts =
    omega (arith, length-append (header form salt count) (number_bytes starts), length-header form salt count, length-number_bytes starts)

pub ends_short : (bytes text : List ℕ) (end : ℕ) → Follows bytes 0 text (Ok end) → end < length bytes → Some end ≡ first_difference bytes text
ends_short bytes text end f lt = sym (goes_past bytes text end f.end lt)

pub ends_same : (bytes text : List ℕ) (end : ℕ) → Follows bytes 0 text (Ok end) → length bytes ≤ end → None ≡ first_difference bytes text
ends_same bytes text end f le = sym (all_same bytes text end f.end le)

pub ends_apart : (bytes text : List ℕ) (place : ℕ) → Follows bytes 0 text (Err place) → Some place ≡ first_difference bytes text
ends_apart bytes text place f = sym (f.place []) ∙ ap (first_difference bytes) (append-nil text)

pub laid_by : (form salt count : ℕ) (s o t starts offsets text : List ℕ) → count ≡ length offsets → s ≡ starts → o ≡ offsets → t ≡ text → ((header form salt count ++ number_bytes s) ++ number_bytes o) ++ t ≡ laid_out form salt starts offsets text
laid_by form salt count s o t starts offsets text count-is s-is o-is t-is = rw (count-is, s-is, o-is, t-is) (laid_in_parts form salt starts offsets text)
