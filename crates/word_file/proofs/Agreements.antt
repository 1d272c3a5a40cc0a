-- Following a text through bytes.
use Rattle.std.proofs.Common.{◌≡◌, ℕ, suc, ◌+◌, ◌<◌, ◌≤◌, min, eqb, List, [], ◌∷◌, ◌++◌, length, take, drop, Option, Some, None, Result, Ok, Err, refl, sym, ap, ◌∙◌, append_assoc, arith, inl, inr}
use Rattle.std.specs.Prelude.{IfOk, IfErr}
use Rattle.std.specs.Option.{option_map}
use Rattle.std.proofs.lemmas.Bool.{cases_lt, cases_Bool}
use Rattle.std.proofs.lemmas.List.{append-nil, length-append, length-take-le, take_at, take_all, take-append-drop}
use Rattle.word_file.specs.Difference.{first_difference}
use Rattle.word_file.proofs.Differences.{first_difference-append, first_difference-same, one_ends}
use Rattle.word_file.specs.Agreement.{GoesOn, PartsAt}

-- ---- one text after another

pub goes_nowhere : (bytes : List ℕ) (at : ℕ) → at ≤ length bytes → GoesOn bytes [] at at
goes_nowhere bytes at within = record { within = within; agrees = sym (append-nil (take at bytes)) }

pub goes_both : {bytes one other : List ℕ} {at mid end : ℕ} → GoesOn bytes one at mid → GoesOn bytes other mid end → GoesOn bytes (one ++ other) at end
goes_both {bytes} {one} {other} {at} a b = record {
  within = b.within;
  agrees = b.agrees ∙ ap (λ (x : List ℕ). x ++ other) a.agrees ∙ append_assoc (take at bytes) one other;
}

pub parts_in_first : (bytes one other : List ℕ) (at place : ℕ) → PartsAt bytes one at place → PartsAt bytes (one ++ other) at place
parts_in_first bytes one other at place parts rest = ap (λ (x : List ℕ). first_difference bytes (take at bytes ++ x)) (append_assoc one other rest) ∙ parts (other ++ rest)

pub parts_in_second : (bytes one other : List ℕ) (at mid place : ℕ) → GoesOn bytes one at mid → PartsAt bytes other mid place → PartsAt bytes (one ++ other) at place
parts_in_second bytes one other at mid place a parts rest =
    let here : take at bytes ++ ((one ++ other) ++ rest) ≡ take mid bytes ++ (other ++ rest) =
    ap (λ (x : List ℕ). take at bytes ++ x) (append_assoc one other rest) ∙ sym (append_assoc (take at bytes) one (other ++ rest)) ∙ ap (λ (x : List ℕ). x ++ (other ++ rest)) (sym a.agrees)
    in
    ap (first_difference bytes) here ∙ parts rest

pub goes_far : {bytes text : List ℕ} {at end : ℕ} → at ≤ length bytes → GoesOn bytes text at end → end ≡ at + length text
goes_far {bytes} {text} {at} {end} within a =
    omega (arith, ap length a.agrees, length-append (take at bytes) text, length-take-le at bytes within, length-take-le end bytes a.within)

-- ---- of what a call answers

pub if_ok : (r : Result ℕ ℕ) (P Q : ℕ → Type 0) → ((x : ℕ) → P x → Q x) → IfOk r P → IfOk r Q
if_ok (Ok x) P Q f h = f x h
if_ok (Err e) P Q f h = tt

pub if_err : (r : Result ℕ ℕ) (P Q : ℕ → Type 0) → ((x : ℕ) → P x → Q x) → IfErr r P → IfErr r Q
if_err (Ok x) P Q f h = tt
if_err (Err e) P Q f h = f e h

-- ---- a field

-- what the bytes have for the field
seen_of_field : (rest field here : List ℕ) (m : ℕ) → m ≡ min (length rest) (length field) → here ≡ take m rest → here ≡ take (length field) rest
seen_of_field rest field here m m-is is =
    elim (cases_lt (length rest) (length field)) [
      | inl lt ↦ is ∙ take_all m rest (omega arith) ∙ sym (take_all (length field) rest (omega arith))
      | inr ge ↦ let all : m ≡ length field = omega arith in is ∙ ap (λ (k : ℕ). take k rest) all
    ]

pub field_goes_on : (bytes field rest here : List ℕ) (at m : ℕ) → at ≤ length bytes → rest ≡ drop at bytes → m ≡ min (length rest) (length field) → here ≡ take m rest → here ≡ field → GoesOn bytes field at (at + length field)
field_goes_on bytes field rest here at m within rest-is m-is here-is same =
    let front : take (length field) rest ≡ field = sym (seen_of_field rest field here m m-is here-is) ∙ same in
    let parts : rest ≡ field ++ drop (length field) rest = sym (take-append-drop (length field) rest) ∙ ap (λ (x : List ℕ). x ++ drop (length field) rest) front in
    let whole : bytes ≡ (take at bytes ++ field) ++ drop (length field) rest =
    sym (take-append-drop at bytes) ∙ ap (λ (x : List ℕ). take at bytes ++ x) (sym rest-is ∙ parts) ∙ sym (append_assoc (take at bytes) field (drop (length field) rest))
    in
    let len : length (take at bytes ++ field) ≡ at + length field = omega (arith, length-append (take at bytes) field, length-take-le at bytes within) in
    record {
      within = omega (arith, ap length whole, length-append (take at bytes ++ field) (drop (length field) rest), len);
      agrees = ap (take (at + length field)) whole ∙ take_at (take at bytes ++ field) (drop (length field) rest) (at + length field) len;
    }

-- a difference within the field is one of all that follows
cut_difference : (xs ys rest : List ℕ) (i : ℕ) → first_difference (take (length ys) xs) ys ≡ Some i → first_difference xs (ys ++ rest) ≡ Some i
cut_difference [] [] rest i e = absurd cc
cut_difference (x ∷ xs) [] rest i e = absurd cc
cut_difference [] (y ∷ ys) rest i e = e
cut_difference (x ∷ xs) (y ∷ ys) rest i e =
    elim (cases_Bool (eqb x y)) [
      | inl same ↦ rw same (more (first_difference (take (length ys) xs) ys) (first_difference xs (ys ++ rest)) i (λ k. cut_difference xs ys rest k) (rw same at e))
      | inr other ↦ rw other (rw other at e)
    ]
  where
    more : (o p : Option ℕ) (i : ℕ) → ((k : ℕ) → o ≡ Some k → p ≡ Some k) → option_map suc o ≡ Some i → option_map suc p ≡ Some i
    more None p i known e = absurd cc
    more (Some k) p i known e = ap (option_map suc) (known k refl) ∙ e

pub field_parts : (bytes field rest here : List ℕ) (at m place : ℕ) → at ≤ length bytes → rest ≡ drop at bytes → m ≡ min (length rest) (length field) → here ≡ take m rest → Some place ≡ first_difference here field → PartsAt bytes field at (at + place)
field_parts bytes field rest here at m place within rest-is m-is here-is parts after =
    let cut : first_difference (take (length field) rest) field ≡ Some place = ap (λ (x : List ℕ). first_difference x field) (sym (seen_of_field rest field here m m-is here-is)) ∙ sym parts in
    let tail : first_difference rest (field ++ after) ≡ Some place = cut_difference rest field after place cut in
    let whole : bytes ≡ take at bytes ++ rest = sym (take-append-drop at bytes) ∙ ap (λ (x : List ℕ). take at bytes ++ x) (sym rest-is) in
    ap (λ (x : List ℕ). first_difference x (take at bytes ++ (field ++ after))) whole
    ∙ first_difference-append (take at bytes) rest (field ++ after) place tail
    ∙ ap (λ (k : ℕ). Some (k + place)) (length-take-le at bytes within)

-- ---- the whole text

pub all_same : (bytes text : List ℕ) (end : ℕ) → GoesOn bytes text 0 end → length bytes ≤ end → first_difference bytes text ≡ None
all_same bytes text end a le =
    let same : bytes ≡ text = sym (take_all end bytes le) ∙ a.agrees in
    ap (first_difference bytes) (sym same) ∙ first_difference-same bytes

pub goes_past : (bytes text : List ℕ) (end : ℕ) → GoesOn bytes text 0 end → end < length bytes → first_difference bytes text ≡ Some end
goes_past bytes text end a lt =
    let len : length text ≡ end = ap length (sym a.agrees) ∙ length-take-le end bytes a.within in
    one_ends bytes text end (omega arith) (λ e. absurd (omega arith)) (a.agrees ∙ sym (take_all end text (omega arith)))
