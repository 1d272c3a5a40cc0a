-- The parts of a text that is known to be one.
use Rattle.std.proofs.Common.{◌≡◌, ℕ, ◌^◌, ◌<◌, List, length, sym, ap, ◌∙◌, arith}
use Rattle.bit_store.proofs.Texts.{IsBytes}
use Rattle.elias_fano.specs.Spelling.{upper_of}
use Rattle.elias_fano.specs.Reading.{width_in, parts_in, IsFine}
use Rattle.elias_fano.specs.Marks.{IsKnown}
use Rattle.elias_fano.proofs.Checked.{listed, upper-len}
use Rattle.elias_fano.proofs.Spelled.{is_spelled}
use Rattle.elias_fano.proofs.ReadBack.{Told, told}

pub known : (items bytes : List ℕ) → IsBytes bytes → length bytes < 2 ^ 60 → width_in bytes < 64 → Told items bytes → IsKnown (parts_in bytes)
known items bytes fits short narrow t = record { listed = listed bytes fits short t.size narrow t.fine; short = omega (arith, upper-len bytes t.size, t.size); upper = t.upper ∙ ap upper_of (sym t.again) }

pub known_fine : (bytes : List ℕ) → IsBytes bytes → length bytes < 2 ^ 60 → IsFine bytes → IsKnown (parts_in bytes)
known_fine bytes fits short fine =
    let s = is_spelled bytes fits short fine in
    known _ bytes fits short fine.narrow (told _ bytes s.0 s.1)
