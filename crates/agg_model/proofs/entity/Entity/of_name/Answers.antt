use Rattle.std.proofs.Common.{◌≡◌, ◌≢◌, ℕ, ◌+◌, ◌<◌, ◌≤◌, List, Bool, true, false, nat_lt, Some, refl, sym, ◌∙◌, ap, arith, ltb-true, ltb-false}
use Rattle.std.specs.Cmp.Lexicographic.{bytes_decides}
use Rattle.std.proofs.lemmas.Bool.{false≢true}
use Rattle.agg_model.specs.Entity.{entity_number, entity_name}
use Rattle.agg_model.proofs.EntityLaws.{entity_number-injective, entity_number-below, entity_name-injective}
use Rattle.agg_model.specs.declared.entity.Entity.{Entity}
use Rattle.agg_model.proofs.entity.Entity.of_name.Goals as goal

pub returns-then-eq-clause-only : goal.returns-then-eq-clause-only
returns-then-eq-clause-only c =
    λ e same.
    let equal = (bytes_decides _ _).0 (sym c.eq.ensures ∙ c.if-eq.true) in
    ap Some (entity_name-injective c.numbered-entity.result e (sym (c.as_bytes.ensures.value ∙ c.name.ensures) ∙ equal ∙ sym same))

squeezed : {a b : ℕ} → a < b + 1 → b ≤ a → a ≡ b
squeezed h g = omega arith

module _ (number : ℕ) (entity : Entity) (name : List ℕ) (before : (e : Entity) → entity_number e < number → entity_name e ≢ name) (is : entity_number entity ≡ number) (other : entity_name entity ≢ name) where
  one_more-by : (e : Entity) (t : Bool) → nat_lt (entity_number e) number ≡ t → entity_number e < number + 1 → entity_name e ≢ name
  one_more-by e true is_below below same = before e (ltb-true (entity_number e) number is_below) same
  one_more-by e false is_below below same =
      let number_is : entity_number e ≡ number = squeezed below (ltb-false (entity_number e) number is_below) in
      other (ap entity_name (sym (entity_number-injective e entity (number_is ∙ sym is))) ∙ same)

  -- neither the entities before nor this one have the name
  one_more : (e : Entity) → entity_number e < number + 1 → entity_name e ≢ name
  one_more e = one_more-by e (nat_lt (entity_number e) number) refl

pub loop-number-preserved : goal.loop-number-preserved
loop-number-preserved c =
    one_more c.loop-number.number c.numbered-entity.result c.args.name.now c.loop-number.invariant c.numbered-entity.ensures
    (λ same. false≢true (sym c.if-eq.false ∙ c.eq.ensures ∙ (bytes_decides _ _).1 (c.as_bytes.ensures.value ∙ c.name.ensures ∙ same)))

pub returns-clause-only : goal.returns-clause-only
returns-clause-only c = λ e same. absurd (c.loop-number.invariant e (omega (arith, entity_number-below e)) same)
