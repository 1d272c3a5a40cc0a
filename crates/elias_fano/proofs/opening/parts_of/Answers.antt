use Rattle.std.proofs.Common.{◌≡◌, ◌-◌, ℕ, List, Bool, length, take, drop, ap, ◌∙◌, arith}
use Rattle.std.proofs.lemmas.List.{take_all, length-drop}
use Rattle.bit_store.specs.Bits.{bits_of}
use Rattle.elias_fano.specs.declared.parts.Parts.{Parts}
use Rattle.elias_fano.specs.Reading.{upper_len_in}
use Rattle.elias_fano.proofs.opening.parts_of.Goals as goal

made : ℕ → ℕ → List Bool → List Bool → Parts
made a k p x = record { count = a; width = k; lower = p; upper = x }

same : (a b k m : ℕ) (p q x y : List Bool) → a ≡ b → k ≡ m → p ≡ q → x ≡ y → made a k p x ≡ made b m q y
same a b k m p q x y e f g h = cc

rest_is : (at n : ℕ) (bytes : List ℕ) → take (length bytes - at) (drop at bytes) ≡ drop at bytes
rest_is at n bytes = take_all (length bytes - at) (drop at bytes) (omega (arith, length-drop at bytes))

pub returns : goal.returns
unfolding made
returns c =
    let bytes = c.args.bytes.now in
    let h = c.requires.header in
    let lower = c.of.ensures ∙ ap (λ bs. take c.args.header.now.lower_len (bits_of bs)) (rest_is 16 0 bytes) ∙ ap (λ n. take n (bits_of (drop 16 bytes))) h.lower_len in
    let upper = c.of-2.ensures ∙ ap (λ bs. take c.args.header.now.upper_len (bits_of bs)) (rest_is c.args.header.now.start 0 bytes) ∙ ap (λ n. take n (bits_of (drop c.args.header.now.start bytes))) h.upper_len ∙ ap (λ n. take (upper_len_in bytes) (bits_of (drop n bytes))) h.start in
    same _ _ _ _ _ _ _ _ h.count h.width lower upper
