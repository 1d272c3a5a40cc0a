use Rattle.std.proofs.Common.{◌≡◌, ◌∙◌, ◌++◌, ◌-◌, ◌*◌, false, refl, ap, ℕ, length, replicate}
use Rattle.std.proofs.lemmas.List.{append_assoc}
use Rattle.std.specs.Int.{w64, to_be_bytes}
use Rattle.bit_store.specs.Bits.{bits_of, bytes_for, text_of}
use Rattle.elias_fano.specs.Spelling.{spelling, spelled, last_of, lower_bits, upper_bits}
use Rattle.elias_fano.proofs.Behind.{parts_behind, header_fits}
use Rattle.elias_fano.proofs.writing.encode.Goals as goal

pub returns : goal.returns
unfolding spelling
returns c =
    let items = c.args.items.now in
    let l : ℕ = c.width_for-width.result in
    let n : ℕ = length items in
    let head = to_be_bytes w64 n ++ to_be_bytes w64 (last_of items) in
    let low = bits_of head ++ lower_bits l items in
    let z : ℕ = 8 * bytes_for (length low) - length low in
    let lower : c.put_lower.new.bits ≡ low = c.in_ok-put_lower.ensures ∙ ap (λ bs. bs ++ lower_bits l items) c.in_ok-text.ensures in
    let filled : c.fill_byte.new.bits ≡ low ++ replicate z false = c.in_ok-fill_byte.ensures ∙ ap (λ bs. bs ++ replicate (8 * bytes_for (length bs) - length bs) false) lower in
    let whole : c.put_upper.new.bits ≡ (low ++ replicate z false) ++ upper_bits l items = c.in_ok-put_upper.ensures ∙ ap (λ bs. bs ++ upper_bits l items) filled in
    c.finish.ensures.text ∙ ap text_of whole ∙ parts_behind head (lower_bits l items) (upper_bits l items) z (header_fits n (last_of items)) refl
    ∙ append_assoc (to_be_bytes w64 n) (to_be_bytes w64 (last_of items)) (text_of (lower_bits l items) ++ text_of (upper_bits l items)) ∙ ap (λ w. spelled w items) c.width_for-width.ensures.value
