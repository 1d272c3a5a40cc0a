use Rattle.agg_model.specs.declared.change.Change.{Change}
use Rattle.std.proofs.Common.{◌≡◌, ℕ, ◌+◌, ◌≤◌, ◌<◌, length, inl, inr, sym, ◌∙◌, ap, arith, slice_get}
use Rattle.std.proofs.Math.Nat.{eq-or-lt_of_le}
use Rattle.std.proofs.lemmas.Option.{get_or_from_slice_get, slice_get_past}
use Rattle.agg_model.specs.Entity.{entity_number}
use Rattle.collate_step.proofs.runs.run_length.Goals as goal

pub loop-place-preserved : goal.loop-place-preserved
loop-place-preserved c =
    λ place x below at.
    let here = c.is_of.ensures.0 (let is = c.if-not-is_of.false in is) in
    elim (eq-or-lt_of_le (within below)) [
      | inl same ↦
          let read : c.index-changes-place.result ≡ x =
          c.index-changes-place.is
          ∙ get_or_from_slice_get c.args.changes.now c.loop-place.place x c.index-changes-place.result (ap (slice_get c.args.changes.now) (sym same) ∙ at) in
          ap (λ (y : Change). entity_number y.entity) (sym read) ∙ here
      | inr less ↦ c.loop-place.invariant place x less at
    ]
  where
    within : {x y : ℕ} → x < y + 1 → x ≤ y
    within h = omega arith

pub returns-clause-ends : goal.returns-clause-ends
returns-clause-ends c =
    λ x at same.
    let none = slice_get_past c.args.changes.now (length c.args.changes.now) (omega arith) in
    let wrong = sym none ∙ at in
    cc
