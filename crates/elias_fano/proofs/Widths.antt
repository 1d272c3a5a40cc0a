-- The width of the low parts.
use Rattle.std.proofs.Common.{◌≡◌, ℕ, zero, suc, ◌+◌, ◌*◌, ◌/◌, ◌^◌, ◌<◌, ◌≤◌, refl, sym, arith}
use Rattle.std.proofs.Math.Nat.{pow-succ', suc-mul, mul-le-mul_right, lt-div-mul-add}
use Rattle.std.proofs.lemmas.Nat.{pow_pos, div_below}
use Rattle.std.proofs.lemmas.Bool.{lt-ltb, le-ltb, lt-leb}
use Rattle.elias_fano.specs.Spelling.{halvings, low_width}

pub halvings-is : (most n k : ℕ) → k < most → 2 ^ k ≤ n → n < 2 * 2 ^ k → halvings most n ≡ k
unfolding halvings
halvings-is zero n k lt low high = absurd (omega arith)
halvings-is (suc most) n zero lt low high = rw (lt-ltb n 2 (omega arith)) refl
halvings-is (suc most) n (suc k) lt low high =
    let p = pow-succ' 2 k in
    let big : 2 ≤ n = omega (arith, p, pow_pos k) in
    rw (le-ltb n 2 big) (omega (arith, halvings-is most (n / 2) k (omega arith) (omega (arith, p)) (omega (arith, p))))

pub low_width-is : (count last k : ℕ) → count < last → k < 64 → 2 ^ k ≤ last / count → last / count < 2 * 2 ^ k → k ≡ low_width count last
low_width-is count last k lt narrow low high = rw (lt-leb last count lt) (sym (halvings-is 64 (last / count) k narrow low high))

-- the upper part is short
pub short_upper : (count last k : ℕ) → 0 < count → last / count < 2 * 2 ^ k → last / 2 ^ k ≤ 2 * count
short_upper count last k pos high =
    let whole : last < (last / count + 1) * count = omega (arith, lt-div-mul-add {a = last} {b = count} pos, suc-mul (last / count) count, add_one (last / count)) in
    let most : (last / count + 1) * count ≤ 2 * 2 ^ k * count = mul-le-mul_right count (omega arith) in
    let turn : 2 * 2 ^ k * count ≡ 2 * count * 2 ^ k = grind arith in
    let less : last / 2 ^ k < 2 * count = div_below last (2 ^ k) (2 * count) (pow_pos k) (omega (arith, whole, most, turn)) in
    omega (arith, less)
  where
    add_one : (n : ℕ) → (n + 1) * count ≡ n * count + count
    add_one n = omega (arith, suc-mul n count)
