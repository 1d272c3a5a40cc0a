-- Two texts, byte by byte.
use Rattle.std.proofs.Common.{◌≡◌, [], ◌∷◌, refl}
use Rattle.bit_store.specs.Bits.{bytes_from, number_of}
use Rattle.elias_fano.specs.Spelling.{spelling, halvings, lower_bits, upper_bits}

five_and_nine : spelling (5 ∷ 9 ∷ []) ≡ 0 ∷ 0 ∷ 0 ∷ 0 ∷ 0 ∷ 0 ∷ 0 ∷ 2 ∷ 0 ∷ 0 ∷ 0 ∷ 0 ∷ 0 ∷ 0 ∷ 0 ∷ 9 ∷ 5 ∷ 10 ∷ []
unfolding spelling halvings lower_bits upper_bits bytes_from number_of
five_and_nine = refl

seven_twice : spelling (7 ∷ 7 ∷ []) ≡ 0 ∷ 0 ∷ 0 ∷ 0 ∷ 0 ∷ 0 ∷ 0 ∷ 2 ∷ 0 ∷ 0 ∷ 0 ∷ 0 ∷ 0 ∷ 0 ∷ 0 ∷ 7 ∷ 3 ∷ 24 ∷ []
unfolding spelling halvings lower_bits upper_bits bytes_from number_of
seven_twice = refl

nothing : spelling (0 ∷ []) ≡ 0 ∷ 0 ∷ 0 ∷ 0 ∷ 0 ∷ 0 ∷ 0 ∷ 1 ∷ 0 ∷ 0 ∷ 0 ∷ 0 ∷ 0 ∷ 0 ∷ 0 ∷ 0 ∷ 1 ∷ []
unfolding spelling halvings lower_bits upper_bits bytes_from number_of
nothing = refl
