-- The walk that looks for the first group that doesn't go on.
use Rattle.std.proofs.Common.{◌≡◌, ℕ, ◌+◌, ◌<◌, ◌≤◌, ◌==◌, ◌&&◌, Bool, true, false, cond, List, [], ◌∷◌, length, get_or, drop, map, Option, Some, None, refl, arith, sym, ◌∙◌, ap, eqb-true}
use Rattle.std.specs.Prelude.{◌||◌, not}
use Rattle.std.proofs.lemmas.Bool.{eqb-false}
use Rattle.std.proofs.lemmas.List.{drop_all, length-map, length-drop}
use Rattle.agg_model.specs.declared.entity.Entity.{Entity}
use Rattle.agg_model.specs.declared.entity.Range.{Range}
use Rattle.agg_model.specs.Entity.{entity_number}
use Rattle.collate_step.specs.Groups.{GroupFiles}
use Rattle.merge_files.specs.Adjacent.{ends_well, gap_from, first_gap}
use Rattle.merge_files.proofs.Words.{drop_at}

ends-by : (to : ℕ) (g : GroupFiles) (rest : List GroupFiles) (t : Bool) → (t ≡ true → length rest ≡ 0) → (t ≡ false → 0 < length rest)
    → ends_well to g rest ≡ (not t || g.range.to == to)
ends-by to g [] true last more = refl
ends-by to g [] false last more = absurd (omega (arith, more refl))
ends-by to g (h ∷ hs) true last more = absurd (omega (arith, last refl))
ends-by to g (h ∷ hs) false last more = refl

length-rest : {Z : Type 0} (value : Z → GroupFiles) (groups : List Z) (i : ℕ) → i < length groups → length (map value (drop (i + 1) groups)) + (i + 1) ≡ length groups
length-rest value groups i within = grind (arith, length-map, length-drop)

module _ {Z : Type 0} (value : Z → GroupFiles) (e : Entity) (to : ℕ) (groups : List Z) where
  abbrev goes : ℕ → ℕ → Z → Bool
  goes from i z = (entity_number (value z).entity == entity_number e) && (((value z).range.from == from) && (not (i + 1 == length groups) || ((value z).range.to == to)))

  pub gap-next : (from i : ℕ) (z : Z) (t : Bool) → i < length groups → z ≡ get_or groups i z → goes from i z ≡ t
      → gap_from e to from i (map value (drop i groups)) ≡ cond t (gap_from e to (value z).range.to (i + 1) (map value (drop (i + 1) groups))) (Some i)
  gap-next from i z t within is goes_is =
      let rest = map value (drop (i + 1) groups) in
      let count = length-rest value groups i within in
      let ends : ends_well to (value z) rest ≡ (not (i + 1 == length groups) || (value z).range.to == to) =
      ends-by to (value z) rest (i + 1 == length groups)
      (λ last. omega (arith, count, eqb-true (i + 1) (length groups) last))
      (λ more. omega (arith, count, within, eqb-false (i + 1) (length groups) more)) in
      ap (λ zs. gap_from e to from i (map value zs)) (drop_at groups i z within is)
      ∙ (λ j. cond ((entity_number (value z).entity == entity_number e) && (((value z).range.from == from) && ends j)) (gap_from e to (value z).range.to (i + 1) rest) (Some i))
      ∙ ap (λ s. cond s (gap_from e to (value z).range.to (i + 1) rest) (Some i)) goes_is

  pub gap-none : (from i : ℕ) → length groups ≤ i → gap_from e to from i (map value (drop i groups)) ≡ None
  gap-none from i over = ap (λ zs. gap_from e to from i (map value zs)) (drop_all i groups over)

pub gap-start : {Z : Type 0} (value : Z → GroupFiles) (groups : List Z) (z : Z) (r : Range) → 0 < length groups → z ≡ get_or groups 0 z
    → gap_from (value z).entity r.to r.from 0 (map value groups) ≡ first_gap (map value groups) r
gap-start value [] z r some is = absurd (omega arith)
gap-start value (y ∷ ys) z r some is =
    ap (λ x. gap_from (value x).entity r.to r.from 0 (map value (y ∷ ys))) is
