-- What a header says of the parts.
use Rattle.std.proofs.Common.{◌≡◌, ℕ, ◌+◌, ◌*◌, ◌/◌, ◌^◌, ◌≤◌, List, length, take, drop, sym, ap, ◌∙◌, arith}
use Rattle.std.specs.Int.{w64, from_be_bytes}
use Rattle.std.proofs.lemmas.List.{length-drop}
use Rattle.bit_store.specs.Bits.{bytes_for}
use Rattle.file_numbers.proofs.Numbers.{front8}
use Rattle.elias_fano.specs.Spelling.{low_width}
use Rattle.elias_fano.specs.Reading.{count_in, last_in, width_in, lower_len_in, upper_len_in, upper_start_in, asked_in}

-- the numbers of a header are those of the bytes
pub record Opened (bytes : List ℕ) (count last width lower upper start : ℕ) : Type 0 where
  pub count-is : count ≡ count_in bytes
  pub last-is : last ≡ last_in bytes
  pub width-is : width ≡ width_in bytes
  pub lower-is : lower ≡ lower_len_in bytes
  pub upper-is : upper ≡ upper_len_in bytes
  pub start-is : start ≡ upper_start_in bytes
  pub asked : start + bytes_for upper ≡ asked_in bytes

pub opened : (bytes : List ℕ) (count last width lower upper start : ℕ) → 16 ≤ length bytes → count ≡ from_be_bytes w64 (drop 0 bytes) → last ≡ from_be_bytes w64 (drop 8 bytes) → width ≡ low_width count last
    → lower ≡ count * width → upper ≡ last / 2 ^ width + count → start ≡ 16 + bytes_for lower → Opened bytes count last width lower upper start
opened bytes count last width lower upper start long a b w l u s =
    let n : count ≡ count_in bytes = a ∙ sym (front8 bytes (omega arith)) in
    let m : last ≡ last_in bytes = b ∙ sym (front8 (drop 8 bytes) (omega (arith, length-drop 8 bytes))) in
    let k : width ≡ width_in bytes = w ∙ ap (λ x. low_width x last) n ∙ ap (low_width (count_in bytes)) m in
    let low : lower ≡ lower_len_in bytes = l ∙ ap (λ x. x * width) n ∙ ap (λ x. count_in bytes * x) k in
    let up : upper ≡ upper_len_in bytes = u ∙ ap (λ x. x / 2 ^ width + count) m ∙ ap (λ x. last_in bytes / 2 ^ x + count) k ∙ ap (λ x. last_in bytes / 2 ^ width_in bytes + x) n in
    let from : start ≡ upper_start_in bytes = s ∙ ap (λ x. 16 + bytes_for x) low in
    record { count-is = n; last-is = m; width-is = k; lower-is = low; upper-is = up; start-is = from; asked = ap (λ x. x + bytes_for upper) from ∙ ap (λ x. upper_start_in bytes + bytes_for x) up }

-- bytes whose header asks all of them begin with a header
pub long_enough : (bytes : List ℕ) → length bytes ≡ asked_in bytes → 16 ≤ length bytes
long_enough bytes size = omega (arith, size)
