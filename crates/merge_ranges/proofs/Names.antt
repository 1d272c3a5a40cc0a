-- Names from their parts, and names on the disk.
use Rattle.std.specs.Prelude.{IfSome, codes}
use Rattle.std.proofs.Common.{◌≡◌, ℕ, ◌^◌, ◌<◌, drop, arith, Bool, true, false, List, ◌∷◌, ◌++◌, Option, Some, None, sym, ◌∙◌, ap}
use Rattle.agg_model.specs.Entity.{entity_name}
use Rattle.agg_model.proofs.EntityLaws.{entity_name-injective}
use Rattle.merge_ranges.specs.declared.name.FileName.{FileName}
use Rattle.merge_ranges.specs.declared.name.DiskName.{DiskName}
use Rattle.merge_ranges.specs.Name.{is_name, spelled, spelled_on_disk, on_disk_of, range_and_kind}
use Rattle.std.specs.Prelude.{decimal}
use Rattle.std.specs.Str.Parse.{digits_value}
use Rattle.std.proofs.lemmas.Fmt.{decimal_is_IsNumeral}
use Rattle.merge_ranges.proofs.KindLaws.{ending-injective}
use Rattle.merge_ranges.proofs.Texts.{one_cut}
use Rattle.merge_ranges.proofs.NameLaws.{spelled-parts, not_temporary, entity_name-without, decimal-without, from_small, to_small}

pub joined : (text rest entity tail : List ℕ) (o : Option FileName) → text ≡ codes "v1-" ++ rest → rest ≡ entity ++ 46 ∷ tail
    → IfSome o (λ n. entity_name n.entity ≡ entity) → IfSome o (λ n. range_and_kind n.range n.kind ≡ tail) → IfSome o (λ n. spelled n ≡ text)
joined text rest entity tail None first second e t = tt
joined text rest entity tail (Some n) first second e t =
    spelled-parts n ∙ (λ i. codes "v1-" ++ (e i ++ 46 ∷ t i)) ∙ ap (λ l. codes "v1-" ++ l) (sym second) ∙ sym first

module _ (text : List ℕ) (o : Option FileName) where
  temporary-by : (front : List ℕ) (n : FileName) (t : Bool) → text ≡ front ++ codes ".tmp" → ((other : List ℕ) → text ≡ other ++ codes ".tmp" → front ≡ other)
      → (is_name n ≡ true → spelled n ≡ front → o ≡ Some n) → is_name n ≡ true → spelled_on_disk (record { name = n; temp = t }) ≡ text
      → on_disk_of o true ≡ Some (record { name = n; temp = t })
  unfolding spelled_on_disk
  temporary-by front n true found only read is same = ap (λ x. on_disk_of x true) (read is (sym (only (spelled n) (sym same))))
  temporary-by front n false found only read is same = absurd (not_temporary n front (same ∙ found))

  -- a text with the ending of temporary names is that of a temporary name only
  pub temporary : (front : List ℕ) → text ≡ front ++ codes ".tmp" → ((other : List ℕ) → text ≡ other ++ codes ".tmp" → front ≡ other)
      → ((n : FileName) → is_name n ≡ true → spelled n ≡ front → o ≡ Some n) → (name : DiskName) → is_name name.name ≡ true → spelled_on_disk name ≡ text
      → on_disk_of o true ≡ Some name
  temporary front found only read name = temporary-by front name.name name.temp found only (read name.name)

  lasting-by : (n : FileName) (t : Bool) → ((other : List ℕ) → text ≡ other ++ codes ".tmp" → ⊥)
      → (is_name n ≡ true → spelled n ≡ text → o ≡ Some n) → is_name n ≡ true → spelled_on_disk (record { name = n; temp = t }) ≡ text
      → on_disk_of o false ≡ Some (record { name = n; temp = t })
  unfolding spelled_on_disk
  lasting-by n true none read is same = absurd (none (spelled n) (sym same))
  lasting-by n false none read is same = ap (λ x. on_disk_of x false) (read is same)

  pub lasting : ((other : List ℕ) → text ≡ other ++ codes ".tmp" → ⊥) → ((n : FileName) → is_name n ≡ true → spelled n ≡ text → o ≡ Some n)
      → (name : DiskName) → is_name name.name ≡ true → spelled_on_disk name ≡ text → on_disk_of o false ≡ Some name
  lasting none read name = lasting-by name.name name.temp none (read name.name)

pub temporary-text : (text front : List ℕ) (o : Option FileName) → text ≡ front ++ codes ".tmp" → IfSome o (λ n. spelled n ≡ front) → IfSome (on_disk_of o true) (λ n. spelled_on_disk n ≡ text)
unfolding spelled_on_disk
temporary-text text front None found same = tt
temporary-text text front (Some n) found same = ap (λ l. l ++ codes ".tmp") same ∙ sym found

pub lasting-text : (text : List ℕ) (o : Option FileName) → IfSome o (λ n. spelled n ≡ text) → IfSome (on_disk_of o false) (λ n. spelled_on_disk n ≡ text)
unfolding spelled_on_disk
lasting-text text None same = tt
lasting-text text (Some n) same = same

decimal-injective : (a b : ℕ) → a < 2 ^ 64 → b < 2 ^ 64 → decimal a ≡ decimal b → a ≡ b
decimal-injective a b small_a small_b same =
    sym (decimal_is_IsNumeral a small_a).1 ∙ ap (digits_value 10) same ∙ (decimal_is_IsNumeral b small_b).1

dash_low : 45 < 48
dash_low = omega arith

dot_low : 46 < 48
dot_low = omega arith

-- no two names of the grammar are spelled alike
pub spelled-injective : (n o : FileName) → is_name n ≡ true → is_name o ≡ true → spelled n ≡ spelled o → n ≡ o
spelled-injective n o is_n is_o same =
    let whole : codes "v1-" ++ (entity_name n.entity ++ 46 ∷ range_and_kind n.range n.kind) ≡ codes "v1-" ++ (entity_name o.entity ++ 46 ∷ range_and_kind o.range o.kind) =
    sym (spelled-parts n) ∙ same ∙ spelled-parts o in
    let first = one_cut 46 _ _ _ _ (entity_name-without n.entity) (entity_name-without o.entity) (ap (drop 3) whole) in
    let second = one_cut 45 _ _ _ _ (decimal-without n.range.from 45 (from_small n is_n) dash_low) (decimal-without o.range.from 45 (from_small o is_o) dash_low) first.1 in
    let third = one_cut 46 _ _ _ _ (decimal-without n.range.to 46 (to_small n is_n) dot_low) (decimal-without o.range.to 46 (to_small o is_o) dot_low) second.1 in
    let entity = entity_name-injective n.entity o.entity first.0 in
    let from = decimal-injective n.range.from o.range.from (from_small n is_n) (from_small o is_o) second.0 in
    let to = decimal-injective n.range.to o.range.to (to_small n is_n) (to_small o is_o) third.0 in
    let kind = ending-injective n.kind o.kind third.1 in
    λ i. record { entity = entity i; range = record { from = from i; to = to i }; kind = kind i }
