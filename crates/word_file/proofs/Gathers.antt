-- The offsets of the keys, one after the other.
use Rattle.std.proofs.Common.{◌≡◌, ℕ, ◌+◌, ◌*◌, ◌≤◌, Bool, true, false, cond, ltb, List, [], ◌∷◌, ◌++◌, length, map, Option, Some, None, refl, sym, ap, ◌∙◌, arith}
use Rattle.std.specs.List.{range_with_len}
use Rattle.std.proofs.lemmas.Bool.{ltb-false}
use Rattle.std.proofs.lemmas.List.{length_push}
use Rattle.std.proofs.lemmas.List.FromFn.{map-range_with_len_more}
use Rattle.word_file.specs.Spelling.{offset_at, offset_of, IsPlace}
use Rattle.word_file.proofs.Places.{placed}
use Rattle.word_file.specs.Paired.{IsPaired, key_count, key_offset, key_offsets}

-- the offsets of the first keys, and the offset of the next
pub record IsGathered (words : List (List ℕ)) (at : Option ℕ) (out : List ℕ) : Type 0 where
  pub at_is : at ≡ offset_of words (2 * length out)
  pub out_is : out ≡ map (key_offset words) (range_with_len 0 (length out))

pub gathered_none : (words : List (List ℕ)) (at : Option ℕ) → at ≡ offset_of words 0 → IsGathered words at []
gathered_none words at is = record { at_is = is; out_is = refl }

pub here : (words : List (List ℕ)) (at : Option ℕ) (key : ℕ) (out : List ℕ) → IsGathered words at out → at ≡ Some key → IsPlace words key (2 * length out)
here words at key out g e = placed (Some key) words (2 * length out) (sym e ∙ g.at_is)

pub gathered_more : (words : List (List ℕ)) (at : Option ℕ) (key : ℕ) (out : List ℕ) (after : Option ℕ) (new : List ℕ) → IsGathered words at out → at ≡ Some key
    → ((i : ℕ) → IsPlace words key i → after ≡ offset_of words (i + 2)) → new ≡ out ++ key ∷ [] → IsGathered words after new
gathered_more words at key out after new g e next is =
    let place = here words at key out g e in
    let len : length new ≡ length out + 1 = ap length is ∙ length_push out key in
    let twice : 2 * length out + 2 ≡ 2 * length new = omega arith in
    let more : map (key_offset words) (range_with_len 0 (length out + 1)) ≡ map (key_offset words) (range_with_len 0 (length out)) ++ key_offset words (length out) ∷ [] =
    map-range_with_len_more (key_offset words) 0 (length out) (length out) (omega arith)
    in
    record {
      at_is = next (2 * length out) place ∙ ap (offset_of words) twice;
      out_is = is ∙ ap (λ (x : List ℕ). x ++ key ∷ []) g.out_is ∙ ap (λ (k : ℕ). map (key_offset words) (range_with_len 0 (length out)) ++ k ∷ []) place.offset ∙ sym more
          ∙ ap (λ (n : ℕ). map (key_offset words) (range_with_len 0 n)) (sym len);
    }

pub none_past : (b : Bool) (x : ℕ) → None ≡ cond b (Some x) None → b ≡ false
none_past true x e = absurd cc
none_past false x e = refl

pub gathered_all : (words : List (List ℕ)) (at : Option ℕ) (out : List ℕ) → IsPaired words → length out ≤ key_count words → IsGathered words at out → at ≡ None → out ≡ key_offsets words
gathered_all words at out paired few g e =
    let ended : ltb (2 * length out) (length words) ≡ false = none_past (ltb (2 * length out) (length words)) (offset_at words (2 * length out)) (sym e ∙ g.at_is) in
    let all : length out ≡ key_count words = omega (arith, ltb-false _ _ ended, paired) in
    g.out_is ∙ ap (λ (n : ℕ). map (key_offset words) (range_with_len 0 n)) all
