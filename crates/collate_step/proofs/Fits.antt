-- The group of one step fits.
use Rattle.std.specs.Prelude.{◌≡◌, ℕ, ◌+◌, ◌-◌, ◌%◌, ◌<◌, ◌==◌, ◌&&◌, nat_le, true}
use Rattle.std.proofs.Common.{sym, arith, subst, eq-eqb, le-leb}
use Rattle.merge_ranges.specs.Cut.{is_size, is_aligned}
use Rattle.collate_step.specs.Groups.{step_range}

one_step : (k : ℕ) → k + 1 - k ≡ 1
one_step k = omega arith

mod_one : (k : ℕ) → k % 1 ≡ 0
mod_one k = omega arith

pub aligned_step : (k : ℕ) → k < 4096 → is_aligned (step_range k) ≡ true
unfolding is_aligned
aligned_step k small =
    let P = λ (s : ℕ). (is_size s && (k % s == 0) && nat_le (k + 1) 4096) ≡ true in
    subst P (sym (one_step k)) (λ i. true && (eq-eqb (k % 1) 0 (mod_one k) i) && (le-leb (k + 1) 4096 (omega (arith, small)) i))
