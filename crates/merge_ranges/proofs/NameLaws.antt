-- Laws of names: their parts can be told apart.
use Rattle.std.specs.Prelude.{◌≡◌, ◌≢◌, ℕ, ◌+◌, ◌%◌, ◌^◌, ◌≤◌, ◌<◌, Bool, true, false, not, ◌==◌, List, [], ◌∷◌, ◌++◌, codes, decimal, All, refl}
use Rattle.std.proofs.Common.{sym, ◌∙◌, ap, arith, append_assoc, eq-eqb}
use Rattle.std.proofs.lemmas.Bool.{false≢true}
use Rattle.std.proofs.lemmas.Fmt.{decimal_by_steps}
use Rattle.std.proofs.lemmas.List.Elements.{All-cons, All-nil, All-append}
use Rattle.std.specs.Cmp.{first_so, second_so}
use Rattle.std.specs.List.{list_all}
use Rattle.agg_model.specs.Entity.{entity_name}
use Rattle.agg_model.specs.declared.entity.Entity.{Entity}
use Rattle.agg_model.specs.declared.entity.Entity.TheVariants.{Accounts, Storage, Code, LogAddrs, LogTopics, TracesFrom, TracesTo}
use Rattle.agg_model.specs.declared.entity.FileKind.{FileKind}
use Rattle.agg_model.specs.declared.entity.FileKind.TheVariants.{Kv, Bt, Kvi, V, Vi, Ef, Efi}
use Rattle.merge_ranges.specs.declared.name.FileName.{FileName}
use Rattle.merge_ranges.specs.Kind.{ending}
use Rattle.merge_ranges.specs.Cut.{is_aligned}
use Rattle.merge_ranges.proofs.CutLaws.{aligned_from}
use Rattle.merge_ranges.specs.Name.{is_name, spelled, range_and_kind}

-- ---- no part has the mark that ends it

without-by : (mark b : ℕ) (t : Bool) → (b == mark) ≡ t → not t ≡ true → b ≢ mark
without-by mark b true e h same = false≢true h
without-by mark b false e h same = false≢true (sym e ∙ eq-eqb b mark same)

without : (mark : ℕ) (bs : List ℕ) → list_all (λ b. not (b == mark)) bs ≡ true → All (λ b. b ≢ mark) bs
without mark [] h = All-nil (λ b. b ≢ mark)
without mark (b ∷ bs) h =
    All-cons (λ x. x ≢ mark) b bs
    (without-by mark b (b == mark) refl (first_so (not (b == mark)) (list_all (λ x. not (x == mark)) bs) h))
    (without mark bs (second_so (not (b == mark)) (list_all (λ x. not (x == mark)) bs) h))

entity_name-plain : (e : Entity) → list_all (λ b. not (b == 46)) (entity_name e) ≡ true
unfolding entity_name
entity_name-plain Accounts = refl
entity_name-plain Storage = refl
entity_name-plain Code = refl
entity_name-plain LogAddrs = refl
entity_name-plain LogTopics = refl
entity_name-plain TracesFrom = refl
entity_name-plain TracesTo = refl

pub entity_name-without : (e : Entity) → All (λ b. b ≢ 46) (entity_name e)
entity_name-without e = without 46 (entity_name e) (entity_name-plain e)

digits_high : (n : ℕ) → n < 2 ^ 64 → All (λ b. 48 ≤ b) (decimal n)
digits_high n small =
    decimal_by_steps (λ _ ds. All (λ b. 48 ≤ b) ds)
    (λ m h. All-cons (λ b. 48 ≤ b) (48 + m) [] (high m) (All-nil (λ b. 48 ≤ b)))
    (λ m ds h rest. All-append (λ b. 48 ≤ b) ds ((48 + m % 10) ∷ []) rest (All-cons (λ b. 48 ≤ b) (48 + m % 10) [] (high (m % 10)) (All-nil (λ b. 48 ≤ b))))
    n small
  where
    high : (m : ℕ) → 48 ≤ 48 + m
    high m = omega arith

pub decimal-without : (n mark : ℕ) → n < 2 ^ 64 → mark < 48 → All (λ b. b ≢ mark) (decimal n)
decimal-without n mark small low = λ k d below same. apart (digits_high n small k d below) same
  where
    apart : {b : ℕ} → 48 ≤ b → b ≡ mark → ⊥
    apart h e = omega arith

-- ---- the parts of a name

pub spelled-parts : (n : FileName) → spelled n ≡ codes "v1-" ++ (entity_name n.entity ++ 46 ∷ range_and_kind n.range n.kind)
unfolding spelled
spelled-parts n = simp append_assoc

-- a name's steps are small
pub is_name-aligned : (n : FileName) → is_name n ≡ true → is_aligned n.range ≡ true
unfolding is_name
is_name-aligned n h = first_so (is_aligned n.range) _ h

pub from_small : (n : FileName) → is_name n ≡ true → n.range.from < 2 ^ 64
from_small n h = let al = aligned_from n.range (is_name-aligned n h) in let some : n.range.from < n.range.to = al.some in let within : n.range.to ≤ 4096 = al.within in omega arith

pub to_small : (n : FileName) → is_name n ≡ true → n.range.to < 2 ^ 64
to_small n h = let al = aligned_from n.range (is_name-aligned n h) in let within : n.range.to ≤ 4096 = al.within in omega arith

-- ---- no name ends as a temporary one

last_of : ℕ → List ℕ → ℕ
last_of d [] = d
last_of d (b ∷ bs) = last_of b bs

last_of-append : (d : ℕ) (xs : List ℕ) (y : ℕ) (ys : List ℕ) → last_of d (xs ++ y ∷ ys) ≡ last_of y ys
unfolding last_of
last_of-append d [] y ys = refl
last_of-append d (x ∷ xs) y ys = last_of-append x xs y ys

last_of-ending : (d : ℕ) (k : FileKind) → (last_of d (ending k) == 112) ≡ false
unfolding last_of ending
last_of-ending d Kv = refl
last_of-ending d Bt = refl
last_of-ending d Kvi = refl
last_of-ending d V = refl
last_of-ending d Vi = refl
last_of-ending d Ef = refl
last_of-ending d Efi = refl

spelled-last : (n : FileName) → last_of 0 (spelled n) ≡ last_of 46 (ending n.kind)
unfolding spelled
spelled-last n =
    let front = codes "v1-" ++ entity_name n.entity ++ codes "." ++ decimal n.range.from ++ codes "-" ++ decimal n.range.to in
    ap (last_of 0) (append_assoc front (codes ".") (ending n.kind)) ∙ last_of-append 0 front 46 (ending n.kind)

-- a name is no text followed by `.tmp`
pub not_temporary : (n : FileName) (text : List ℕ) → spelled n ≡ text ++ codes ".tmp" → ⊥
unfolding last_of
not_temporary n text same =
    let last : last_of 46 (ending n.kind) ≡ 112 =
    sym (spelled-last n) ∙ ap (last_of 0) same ∙ last_of-append 0 text 46 (116 ∷ 109 ∷ 112 ∷ []) in
    false≢true (sym (last_of-ending 46 n.kind) ∙ eq-eqb (last_of 46 (ending n.kind)) 112 last)
