-- A text cut at the first place of a byte.
use Rattle.std.proofs.Common.{◌≡◌, ℕ, ◌+◌, ◌<◌, false, List, [], ◌∷◌, ◌++◌, length, get_or, take, drop, eqb, Some, None, All, ap, ◌∙◌, add-one, arith, length-take}
use Rattle.std.specs.List.{slice_split}
use Rattle.std.proofs.Math.Seq.{split_at}
use Rattle.std.proofs.lemmas.Bool.{false_from_ne_true}
use Rattle.std.proofs.lemmas.List.{get_or-take}
use Rattle.std.proofs.lemmas.List.Elements.{All-from_get_or}
use Rattle.std.proofs.lemmas.List.Splits.{slice_split_none, slice_split_at}
use Rattle.memchr.specs.Find.{IsFirstByte, is_byte}

module _ (b : ℕ) (text : List ℕ) where
  -- the byte stands nowhere
  pub nowhere : IsFirstByte (is_byte b) text None → All (λ x. is_byte b x ≡ false) text
  nowhere none = All-from_get_or (λ x. is_byte b x ≡ false) text 0 (λ i within. false_from_ne_true _ (none i (omega arith) within))

  -- nor does it before its first place
  pub nowhere_before : (k : ℕ) → IsFirstByte (is_byte b) text (Some k) → All (λ x. is_byte b x ≡ false) (take k text)
  nowhere_before k first =
      let low : k < length text = first.0.high in
      All-from_get_or (λ x. is_byte b x ≡ false) (take k text) 0
      (λ i within. let below : i < k = omega (arith, length-take k text) in
      rw (get_or-take k text i 0 below) (false_from_ne_true _ (first.0.before i (omega arith) below)))

  -- the text at its first place
  pub parts_at : (k : ℕ) → IsFirstByte (is_byte b) text (Some k) → text ≡ take k text ++ get_or text k 0 ∷ drop (k + 1) text
  parts_at k first = rw add-one (split_at text k 0 first.0.high)

  pub slice_split-whole : IsFirstByte (is_byte b) text None → slice_split (λ x. eqb x b) text ≡ text ∷ []
  slice_split-whole none = slice_split_none (is_byte b) text (nowhere none)

  pub slice_split-first : (k : ℕ) → IsFirstByte (is_byte b) text (Some k) → slice_split (λ x. eqb x b) text ≡ take k text ∷ slice_split (λ x. eqb x b) (drop (k + 1) text)
  slice_split-first k first =
      ap (slice_split (is_byte b)) (parts_at k first)
      ∙ slice_split_at (is_byte b) (take k text) (get_or text k 0) (drop (k + 1) text) (nowhere_before k first) first.1
