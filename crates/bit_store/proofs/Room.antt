-- Bits that grow within room.
use Rattle.std.proofs.Common.{◌≡◌, ℕ, ◌+◌, ◌*◌, ◌%◌, ◌^◌, ◌<◌, ◌≤◌, Bool, List, ◌++◌, length, take, refl, sym, ap, ◌∙◌, arith}
use Rattle.std.proofs.lemmas.Nat.{pow-add, rows}
use Rattle.std.proofs.Math.Seq.{take-append-add}
use Rattle.std.proofs.lemmas.List.{length-append, length-take, take_all}
use Rattle.bit_store.specs.Bits.{number_of, bits_of, bytes_for, IsHeld}
use Rattle.bit_store.specs.Counts.{number_in}
use Rattle.bit_store.specs.Reserved.{Reserved}
use Rattle.bit_store.proofs.Numbers.{number_of-lt, number_of-append}
use Rattle.bit_store.proofs.Texts.{length-bits_of, bits_of-append, number_in-append}

abbrev pub reserved : List Bool → ℕ → Reserved
reserved bits room = record { bits = bits; room = room }

pub same_reserved : (a b : List Bool) (room : ℕ) → a ≡ b → reserved a room ≡ reserved b room
same_reserved a b room e = ap (λ bits. reserved bits room) e

pub held-length : (len : ℕ) (bytes : List ℕ) → IsHeld len bytes → length (take len (bits_of bytes)) ≡ len
held-length len bytes held = omega (arith, length-take len (bits_of bytes), length-bits_of bytes, held.count)

-- a digit above one below a
below : (a b x y : ℕ) → x < a → y < b → x + a * y < a * b
below a b x y p q = grind (arith, rows)

-- bits behind whole bytes
pub behind : (len more : ℕ) (old others : List ℕ) → IsHeld len old → len % 8 ≡ 0 → IsHeld more others
    → (take (len + more) (bits_of (old ++ others)) ≡ take len (bits_of old) ++ take more (bits_of others)) × IsHeld (len + more) (old ++ others)
behind len more old others held whole rest =
    let start : 8 * length old ≡ len = omega (arith, held.count) in
    let all : take len (bits_of old) ≡ bits_of old = take_all len (bits_of old) (omega (arith, length-bits_of old)) in
    let bits : bits_of (old ++ others) ≡ bits_of old ++ bits_of others = bits_of-append old others in
    let long : length (bits_of old) ≡ len = omega (arith, length-bits_of old) in
    let cut : take (len + more) (bits_of old ++ bits_of others) ≡ bits_of old ++ take more (bits_of others) = ap (λ n. take (n + more) (bits_of old ++ bits_of others)) (sym long) ∙ take-append-add (bits_of old) (bits_of others) more in
    let num : number_in (old ++ others) ≡ number_in old + 2 ^ len * number_in others = number_in-append old others ∙ ap (λ n. number_in old + 2 ^ n * number_in others) start in
    let bound : 2 ^ (len + more) ≡ 2 ^ len * 2 ^ more = pow-add 2 len more in (
      ap (take (len + more)) bits ∙ cut ∙ ap (λ bs. bs ++ take more (bits_of others)) (sym all),
      record { count = omega (arith, length-append old others, held.count, rest.count); rest = rw (num, bound) (below (2 ^ len) (2 ^ more) (number_in old) (number_in others) held.rest rest.rest) },
    )

-- a text holds all its bits
pub text_held : (text : List ℕ) → IsHeld (8 * length text) text
text_held text = record { count = omega arith; rest = rw (← length-bits_of text) (number_of-lt (bits_of text)) }
