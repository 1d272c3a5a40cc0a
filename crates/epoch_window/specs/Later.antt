-- Rows that a call that may have failed left as they were.
use Rattle.std.specs.Prelude.{◌≡◌, ℕ, ◌≤◌}
use Rattle.std.proofs.Common.{refl, ap, ◌∙◌, le_refl, le_trans}
use Rattle.row_epochs.specs.Versions.{Versions}
use Rattle.epoch_window.specs.Seen.{told_from}

-- only the count of faults may have risen
pub record IsLater (first then : Versions) : Type 0 where
  pub same : then ≡ record first { faults = then.faults }
  pub no_fall : first.faults ≤ then.faults

-- it is reflexive and transitive, and what an epoch sees stays
pub later_refl : (v : Versions) → IsLater v v
later_refl v = record { same = refl; no_fall = le_refl v.faults }

pub later_trans : (a b c : Versions) → IsLater a b → IsLater b c → IsLater a c
later_trans a b c first then = record {
  same = then.same ∙ ap (λ (v : Versions). record v { faults = c.faults }) first.same;
  no_fall = le_trans first.no_fall then.no_fall;
}

pub told_same : (a b : Versions) (epoch epoch' from from' : ℕ) → IsLater a b → epoch' ≡ epoch → from' ≡ from →
    told_from epoch' from' b ≡ told_from epoch from a
told_same a b epoch epoch' from from' later is_epoch is_from =
    (λ i. told_from (is_epoch i) (is_from i) b) ∙ ap (λ (v : Versions). told_from epoch from v) later.same
