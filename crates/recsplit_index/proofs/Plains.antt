-- What stands in the bytes of an accessor, by its form.
use Rattle.std.proofs.Common.{◌≡◌, ℕ, ◌+◌, ◌*◌, ◌<◌, ◌≤◌, List, [], length, map, drop, Option, Some, None, refl, sym, ap, subst, ◌∙◌, arith, inl, inr}
use Rattle.std.specs.Prelude.{IfSome, IfNone, slice_index_or}
use Rattle.std.specs.Int.{w64, from_be_bytes}
use Rattle.std.proofs.lemmas.List.{length-map}
use Rattle.bit_store.specs.Bits.{text_of}
use Rattle.word_file.specs.Spelling.{IsPlace}
use Rattle.recsplit_index.specs.Keys.{hashed_keys, by_key, IsKeyAt, IsNoKey}
use Rattle.recsplit_index.specs.Hash.{key_hash}
use Rattle.file_numbers.specs.Lists.{AreNumbers}
use Rattle.recsplit_index.specs.Spelling.{Index, spelling, IsSpelled}
use Rattle.recsplit_index.specs.Index.{plain_index, split_index, IsIndexOf}
use Rattle.recsplit_index.specs.Walks.{IsSplitOver, IsPlainOver, IsOnly}
use Rattle.recsplit_index.proofs.Layouts.{laid_long, read_number}
use Rattle.recsplit_index.proofs.Salts.{form_of}
use Rattle.recsplit_index.proofs.Sortings.{entry, entry_key, entry_offset}
use Rattle.recsplit_index.proofs.Finds.{IsOnlyAt, only_at}

-- ---- form 0

pub plain_long : (words : List (List ℕ)) (count : ℕ) (bytes : List ℕ) → IsPlainOver words count bytes → 16 + 8 * count ≤ length bytes
unfolding plain_index
plain_long words count bytes p =
    let offsets = map (λ e. e.1) (by_key words) in
    omega (arith, p.counted, ap length p.spelled, laid_long 0 0 [] offsets (text_of []), length-map (by_key words) (λ e. e.1))

-- the word at a place of the table
pub record IsEntry (words : List (List ℕ)) (offset m : ℕ) : Type 0 where
  pub place : ℕ
  pub stands : IsPlace words offset place
  pub word_is : slice_index_or words place [] ≡ (entry (by_key words) m).0
  pub offset_is : offset ≡ (entry (by_key words) m).1

pub entry_read : (words : List (List ℕ)) (count : ℕ) (bytes : List ℕ) (m offset : ℕ) → IsPlainOver words count bytes → m < length (by_key words) → offset ≡ from_be_bytes w64 (drop (16 + 8 * m) bytes) → IsEntry words offset m
unfolding plain_index
entry_read words count bytes m offset p lt is =
    let offsets = map (λ e. e.1) (by_key words) in
    let key = entry_key words m lt in
    let less : m < 0 + length offsets = omega (arith, lt, length-map (by_key words) (λ e. e.1)) in
    let read : offset ≡ (entry (by_key words) m).1 = is ∙ read_number 0 0 [] offsets (text_of []) bytes m tt p.fit p.spelled less ∙ entry_offset words m lt in
    record {
      place = 2 * key.place;
      stands = record { within = omega (arith, key.within); offset = read ∙ key.offset_is };
      word_is = key.key_is;
      offset_is = read;
    }

-- ---- which form is held

one_not_zero : (form : ℕ) → form ≡ 0 → form ≡ 1 → ⊥
one_not_zero form zero_is one_is = omega (arith, zero_is, one_is)

pub plain_held : (words : List (List ℕ)) (x : Index) (form salt starts count bits : ℕ) (bytes given : List ℕ) → IsIndexOf words x → form ≡ 0 → IsSpelled x form salt starts count bits bytes → given ≡ bytes → IsPlainOver words count given
unfolding plain_index split_index
plain_held words x form salt starts count bits bytes given index zero_is h is =
    elim (form_of index.0 words) [
      | inl s ↦ absurd (one_not_zero form zero_is (h.form_is ∙ ap (λ (y : Index). y.form) (index.2 ∙ s.split_is)))
      | inr p ↦
          let same : x ≡ plain_index words = index.2 ∙ p in
          record {
            counted = h.count_is ∙ ap (λ (y : Index). length y.offsets) same ∙ length-map (by_key words) (λ e. e.1);
            fit = subst (λ (y : Index). AreNumbers y.offsets) same h.offsets_fit;
            spelled = is ∙ h.spelled ∙ ap spelling same;
          }
    ]

pub split_held : (words : List (List ℕ)) (x : Index) (form salt starts count bits : ℕ) (bytes given : List ℕ) → IsIndexOf words x → (form ≡ 0 → ⊥) → IsSpelled x form salt starts count bits bytes → given ≡ bytes → IsSplitOver (hashed_keys salt words) starts count bits given
unfolding plain_index split_index
split_held words x form salt starts count bits bytes given index not_zero h is =
    elim (form_of index.0 words) [
      | inl s ↦
          let same : x ≡ split_index s.salt s.nodes = index.2 ∙ s.split_is in
          let salt_is : s.salt ≡ salt = sym (h.salt_is ∙ ap (λ (y : Index). y.salt) same) in
          subst (λ (n : ℕ). IsSplitOver (hashed_keys n words) starts count bits given) salt_is
          (record {
            tries = index.0;
            few = index.1;
            nodes = s.nodes;
            nodes_are = s.nodes_are;
            salt = s.salt;
            spelled = record {
              form_is = refl;
              salt_is = refl;
              starts_is = h.starts_is ∙ ap (λ (y : Index). length y.starts) same;
              count_is = h.count_is ∙ ap (λ (y : Index). length y.offsets) same;
              bits_is = h.bits_is ∙ ap (λ (y : Index). length y.bits) same;
              starts_fit = subst (λ (y : Index). AreNumbers y.starts) same h.starts_fit;
              offsets_fit = subst (λ (y : Index). AreNumbers y.offsets) same h.offsets_fit;
              spelled = is ∙ h.spelled ∙ ap spelling same;
            };
          })
      | inr p ↦ absurd (not_zero (h.form_is ∙ ap (λ (y : Index). y.form) (index.2 ∙ p)))
    ]

-- ---- what form 1 answers

pub none_any : (P : Type 0) (o : Option ℕ) → P → IfNone o P
none_any P None p = p
none_any P (Some x) p = tt

pub none_is : (P : Type 0) (o : Option ℕ) → o ≡ None → IfNone o P → P
none_is P o is p = let at : IfNone {T = ℕ} None P = subst (λ (x : Option ℕ). IfNone x P) is p in at

pub some_is_only : (salt : ℕ) (words : List (List ℕ)) (hash offset : ℕ) (o : Option ℕ) → o ≡ Some offset → IfSome o (λ x. IsOnly hash x (hashed_keys salt words)) → IsOnlyAt salt words hash offset
some_is_only salt words hash offset o is p =
    let at : IfSome (Some offset) (λ x. IsOnly hash x (hashed_keys salt words)) = subst (λ (y : Option ℕ). IfSome y (λ x. IsOnly hash x (hashed_keys salt words))) is p in
    only_at salt words hash offset at

pub only_place : (salt : ℕ) (words : List (List ℕ)) (hash offset : ℕ) (o : IsOnlyAt salt words hash offset) → IsPlace words offset (2 * o.place)
only_place salt words hash offset o = record { within = omega (arith, o.within); offset = o.offset_is }

pub only_found : (salt : ℕ) (words : List (List ℕ)) (hash offset : ℕ) (key : List ℕ) (o : IsOnlyAt salt words hash offset) → slice_index_or words (2 * o.place) [] ≡ key → IsKeyAt words key offset
only_found salt words hash offset key o is = record { place = o.place; within = o.within; key_is = is; offset_is = o.offset_is }

-- another key of this hash would stand there too
pub only_none : (salt : ℕ) (words : List (List ℕ)) (hash offset : ℕ) (key : List ℕ) → hash ≡ key_hash salt key → IsOnlyAt salt words hash offset → ((i : ℕ) → IsPlace words offset i → slice_index_or words i [] ≡ key → ⊥) → IsNoKey words key
only_none salt words hash offset key hash-is o differs = λ place within is.
    let there : IsPlace words offset (2 * place) = record { within = omega (arith, within); offset = sym (o.only place within (ap (key_hash salt) is ∙ sym hash-is)) } in
    differs (2 * place) there is
