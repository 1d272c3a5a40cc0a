-- The search for a seed.
use Rattle.std.proofs.Common.{◌≡◌, ℕ, suc, ◌+◌, ◌-◌, ◌<◌, ◌≤◌, Bool, true, false, cond, Some, None, sym, ap, ◌∙◌, arith}
use Rattle.recsplit_index.specs.Nodes.{first_from}

step_by : (works : ℕ → Bool) (more x : ℕ) (t : Bool) → works x ≡ t → first_from works (suc more) x ≡ cond t (Some x) (first_from works more (x + 1))
unfolding first_from
step_by works more x t is = ap (λ (b : Bool). cond b (Some x) (first_from works more (x + 1))) is

-- a seed that doesn't work
pub seed_more : (works : ℕ → Bool) (tries x : ℕ) → x < tries → works x ≡ false → first_from works (tries - x) x ≡ first_from works tries 0 → first_from works (tries - (x + 1)) (x + 1) ≡ first_from works tries 0
seed_more works tries x lt fails is =
    let more : tries - x ≡ suc (tries - (x + 1)) = omega arith in
    sym (ap (λ (n : ℕ). first_from works n x) more ∙ step_by works (tries - (x + 1)) x false fails) ∙ is

-- one that does
pub seed_found : (works : ℕ → Bool) (tries x : ℕ) → x < tries → works x ≡ true → first_from works (tries - x) x ≡ first_from works tries 0 → Some x ≡ first_from works tries 0
seed_found works tries x lt holds is =
    let more : tries - x ≡ suc (tries - (x + 1)) = omega arith in
    sym (ap (λ (n : ℕ). first_from works n x) more ∙ step_by works (tries - (x + 1)) x true holds) ∙ is

-- and none
pub seed_none : (works : ℕ → Bool) (tries x : ℕ) → tries ≤ x → first_from works (tries - x) x ≡ first_from works tries 0 → None ≡ first_from works tries 0
unfolding first_from
seed_none works tries x le is =
    let none : tries - x ≡ 0 = omega arith in
    sym (ap (λ (n : ℕ). first_from works n x) none) ∙ is
