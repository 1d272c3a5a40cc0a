-- What stands behind the last line feed.
use Rattle.std.proofs.Common.{◌≡◌, ℕ, ◌+◌, ◌-◌, ◌<◌, List, [], ◌∷◌, ◌++◌, length, get_or, take, drop, Some, None, refl, sym, ap, ◌∙◌, add-one, arith, length-drop}
use Rattle.std.proofs.Math.Seq.{split_at}
use Rattle.std.proofs.lemmas.Bool.{eqb-true, eq-eqb, ne_eqb}
use Rattle.std.proofs.lemmas.List.{get_or-drop, drop-drop}
use Rattle.memchr.specs.Find.{IsLastByte, is_byte}
use Rattle.line_words.specs.LineCut.{piece_of, last_from, rest_cut, IsSearched}
use Rattle.line_words.proofs.Feeds.{HasNone, nowhere_left}
use Rattle.line_words.proofs.Pieces.{last_from-feed, last_from-whole}

module _ (bytes : List ℕ) (start seen : ℕ) (searched : IsSearched bytes start seen) where
  pub last_from-missed : IsLastByte (is_byte 10) (drop seen bytes) None → last_from [] (drop start bytes) ≡ drop start bytes
  last_from-missed none = last_from-whole (drop start bytes) (nowhere_left bytes start seen searched none)

  pub last_from-found : (k : ℕ) → IsLastByte (is_byte 10) (drop seen bytes) (Some k) → last_from [] (drop start bytes) ≡ drop (seen + k + 1) bytes
  last_from-found k last =
      let left : List ℕ = drop start bytes in
      let n : ℕ = seen + k - start in
      let more : List ℕ = drop (seen + k + 1) bytes in
      let within : k < length (drop seen bytes) = last.0.high in
      let place : start + n ≡ seen + k = omega (arith, searched.ordered) in
      let inside : n < length left = omega (arith, length-drop seen bytes, length-drop start bytes, searched.ordered) in
      let here : get_or left n 0 ≡ 10 =
      get_or-drop start bytes n 0 ∙ ap (λ j. get_or bytes j 0) place ∙ sym (get_or-drop seen bytes k 0) ∙ eqb-true (get_or (drop seen bytes) k 0) 10 last.1 in
      let rest : drop (n + 1) left ≡ more =
      drop-drop (n + 1) start bytes ∙ ap (λ j. drop j bytes) {y = seen + k + 1} (omega (arith, searched.ordered)) in
      let parts : left ≡ take n left ++ 10 ∷ more = rw (← here, ← rest, add-one) (split_at left n 0 inside) in
      let after : HasNone more (length more) =
      λ i below is.
      let q : ℕ = k + 1 + i in
      let same : get_or (drop seen bytes) q 0 ≡ get_or more i 0 =
      get_or-drop seen bytes q 0 ∙ ap (λ j. get_or bytes j 0) {y = seen + k + 1 + i} (omega arith) ∙ sym (get_or-drop (seen + k + 1) bytes i 0) in
      last.0.after q (omega arith) (omega (arith, length-drop seen bytes, length-drop (seen + k + 1) bytes)) (eq-eqb (get_or (drop seen bytes) q 0) 10 (same ∙ is)) in
      ap (last_from []) parts ∙ last_from-feed (take n left) [] more ∙ last_from-whole more after

module _ (limit : ℕ) (bytes : List ℕ) (start from : ℕ) (line : last_from [] (drop start bytes) ≡ drop from bytes) where
  pub rest_cut-empty : from ≡ length bytes → rest_cut (record { limit = limit; left = drop start bytes }) ≡ None
  unfolding rest_cut
  rest_cut-empty end = rw (line, eq-eqb (length (drop from bytes)) 0 (omega (arith, length-drop from bytes))) refl

  pub rest_cut-line : from < length bytes → rest_cut (record { limit = limit; left = drop start bytes }) ≡ Some (piece_of limit (drop from bytes))
  unfolding rest_cut
  rest_cut-line some = rw (line, ne_eqb (length (drop from bytes)) 0 (omega (arith, length-drop from bytes))) refl
