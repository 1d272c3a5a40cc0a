use Rattle.std.proofs.Common.{◌≡◌, ◌≢◌, ℕ, ◌+◌, ◌<◌, ◌≤◌, List, Bool, true, false, nat_lt, Some, refl, sym, ◌∙◌, ap, arith, ltb-true, ltb-false}
use Rattle.std.specs.Cmp.Lexicographic.{bytes_decides}
use Rattle.std.proofs.lemmas.Bool.{false≢true}
use Rattle.merge_ranges.specs.Kind.{kind_number, ending}
use Rattle.merge_ranges.proofs.KindLaws.{kind_number-injective, kind_number-below, ending-injective}
use Rattle.agg_model.specs.declared.entity.FileKind.{FileKind}
use Rattle.merge_ranges.proofs.kind.kind_of.Goals as goal

pub returns-then-eq-clause-only : goal.returns-then-eq-clause-only
returns-then-eq-clause-only c =
    λ e same.
    let equal = (bytes_decides _ _).0 (sym c.eq.ensures ∙ c.if-eq.true) in
    ap Some (ending-injective c.numbered-kind.result e (sym (c.as_bytes.ensures.value ∙ c.ending_of.ensures) ∙ equal ∙ sym same))

squeezed : {a b : ℕ} → a < b + 1 → b ≤ a → a ≡ b
squeezed h g = omega arith

module _ (number : ℕ) (entity : FileKind) (name : List ℕ) (before : (e : FileKind) → kind_number e < number → ending e ≢ name) (is : kind_number entity ≡ number) (other : ending entity ≢ name) where
  one_more-by : (e : FileKind) (t : Bool) → nat_lt (kind_number e) number ≡ t → kind_number e < number + 1 → ending e ≢ name
  one_more-by e true is_below below same = before e (ltb-true (kind_number e) number is_below) same
  one_more-by e false is_below below same =
      let number_is : kind_number e ≡ number = squeezed below (ltb-false (kind_number e) number is_below) in
      other (ap ending (sym (kind_number-injective e entity (number_is ∙ sym is))) ∙ same)

  -- neither the entities before nor this one have the name
  one_more : (e : FileKind) → kind_number e < number + 1 → ending e ≢ name
  one_more e = one_more-by e (nat_lt (kind_number e) number) refl

pub loop-number-preserved : goal.loop-number-preserved
loop-number-preserved c =
    one_more c.loop-number.number c.numbered-kind.result c.args.text.now c.loop-number.invariant c.numbered-kind.ensures
    (λ same. false≢true (sym c.if-eq.false ∙ c.eq.ensures ∙ (bytes_decides _ _).1 (c.as_bytes.ensures.value ∙ c.ending_of.ensures ∙ same)))

pub returns-clause-only : goal.returns-clause-only
returns-clause-only c = λ e same. absurd (c.loop-number.invariant e (omega (arith, kind_number-below e)) same)
