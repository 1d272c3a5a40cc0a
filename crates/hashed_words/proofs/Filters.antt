-- What a slot holds after one more key, and the slots of the first keys.
use Rattle.std.proofs.Common.{◌≡◌, ℕ, ◌+◌, ◌*◌, ◌<◌, ◌≤◌, true, List, length, get_or, set, slice_set, inl, inr, refl, sym, ap, ◌∙◌, arith, subst, ltb, Option, Some, None}
use Rattle.std.proofs.lemmas.Bool.Decides.{eqb_tells}
use Rattle.std.proofs.lemmas.Bool.{ltb-false}
use Rattle.std.proofs.lemmas.Grind.{get_or-set_at}
use Rattle.std.proofs.lemmas.List.{get_or-set_other, length-set}
use Rattle.word_file.specs.Spelling.{IsPlace, offset_at, offset_of}
use Rattle.word_file.specs.Paired.{IsPaired, key_count, key_at}
use Rattle.word_file.proofs.Places.{placed}
use Rattle.word_file.proofs.Gathers.{none_past}
use Rattle.recsplit_index.specs.Hash.{key_hash, scaled}
use Rattle.hashed_words.specs.Filter.{mark_of, passes, Admits, AdmitsKeys}

-- a key passes where its slot was set for it
pub put_own : (marks new : List ℕ) (hash slot kept : ℕ) → slot ≡ scaled hash (length marks) → slot < length marks → new ≡ slice_set marks slot kept → passes kept (mark_of hash) ≡ true → Admits new hash
put_own marks new hash slot kept slot-is lt is own = λ some.
    let size : length new ≡ length marks = ap length is ∙ length-set marks slot kept in
    let at : scaled hash (length new) ≡ slot = ap (scaled hash) size ∙ sym slot-is in
    ap (λ i. passes (get_or new i 0) (mark_of hash)) at
    ∙ ap (λ (l : List ℕ). passes (get_or l slot 0) (mark_of hash)) is
    ∙ ap (λ h. passes h (mark_of hash)) (get_or-set_at marks slot slot kept 0 refl lt)
    ∙ own

-- a key that passed passes still
pub put_others : (marks new : List ℕ) (slot held kept : ℕ) → slot < length marks → held ≡ get_or marks slot 0 → new ≡ slice_set marks slot kept
    → ((mark : ℕ) → 0 < mark → passes held mark ≡ true → passes kept mark ≡ true) → (other : ℕ) → Admits marks other → Admits new other
put_others marks new slot held kept lt held-is is keeps other was = λ some.
    let size : length new ≡ length marks = ap length is ∙ length-set marks slot kept in
    let at = scaled other (length marks) in
    let before : passes (get_or marks at 0) (mark_of other) ≡ true = was (omega (arith, size, some)) in
    let moved : passes (get_or new (scaled other (length new)) 0) (mark_of other) ≡ passes (get_or (set marks slot kept) at 0) (mark_of other) =
    ap (λ n. passes (get_or new (scaled other n) 0) (mark_of other)) size ∙ ap (λ (l : List ℕ). passes (get_or l at 0) (mark_of other)) is
    in
    elim (eqb_tells at slot) [
      | inl same ↦ moved ∙ ap (λ h. passes h (mark_of other)) (get_or-set_at marks slot at kept 0 same.1 lt)
          ∙ keeps (mark_of other) (omega arith) (ap (λ h. passes h (mark_of other)) (held-is ∙ ap (λ i. get_or marks i 0) (sym same.1)) ∙ before)
      | inr apart ↦ moved ∙ ap (λ h. passes h (mark_of other)) (get_or-set_other marks slot at kept 0 apart.1) ∙ before
    ]

-- the slots let the first keys pass, and the next key stands there
pub record IsFilled (words : List (List ℕ)) (marks : List ℕ) (next : Option ℕ) (place : ℕ) : Type 0 where
  pub at_is : next ≡ offset_of words (2 * place)
  pub within : place ≤ key_count words
  pub size : length marks ≡ length words
  pub admits : (p : ℕ) → p < place → Admits marks (key_hash 0 (key_at words p))

pub fill_here : (words : List (List ℕ)) (marks : List ℕ) (next : Option ℕ) (place at : ℕ) → IsFilled words marks next place → next ≡ Some at → IsPlace words at (2 * place)
fill_here words marks next place at f e = placed (Some at) words (2 * place) (sym e ∙ f.at_is)

pub fill_more : (words : List (List ℕ)) (marks new : List ℕ) (next after : Option ℕ) (place at hash : ℕ) → IsPaired words → IsFilled words marks next place → next ≡ Some at
    → length new ≡ length marks → hash ≡ key_hash 0 (key_at words place) → Admits new hash → ((other : ℕ) → Admits marks other → Admits new other)
    → ((i : ℕ) → IsPlace words at i → after ≡ offset_of words (i + 2)) → IsFilled words new after (place + 1)
fill_more words marks new next after place at hash paired f e size hash-is own others after-is =
    let here = fill_here words marks next place at f e in
    let few : place < key_count words = omega (arith, here.within, paired) in
    let twice : 2 * place + 2 ≡ 2 * (place + 1) = omega arith in
    record {
      at_is = after-is (2 * place) here ∙ ap (offset_of words) twice;
      within = omega (arith, few);
      size = size ∙ f.size;
      admits = λ p lt.
          elim (eqb_tells p place) [
            | inl same ↦ subst (λ h. Admits new h) (hash-is ∙ ap (λ q. key_hash 0 (key_at words q)) (sym same.1)) own
            | inr apart ↦ others (key_hash 0 (key_at words p)) (f.admits p (omega (arith, lt, apart.1)))
          ];
    }

pub fill_all : (words : List (List ℕ)) (marks : List ℕ) (next : Option ℕ) (place : ℕ) → IsPaired words → IsFilled words marks next place → next ≡ None → AdmitsKeys marks words
fill_all words marks next place paired f e =
    let ended = none_past (ltb (2 * place) (length words)) (offset_at words (2 * place)) (sym e ∙ f.at_is) in
    λ p lt. f.admits p (omega (arith, ltb-false _ _ ended, paired, lt))
