-- The bytes of ids are ordered as the ids are.
use Rattle.std.proofs.Common.{◌≡◌, inl, inr, ℕ, zero, suc, ◌+◌, ◌*◌, ◌/◌, ◌%◌, ◌^◌, ◌<◌, ◌≤◌, List, [], ◌∷◌, ◌++◌, refl, sym, ap, ◌∙◌, arith}
use Rattle.std.proofs.Math.Nat.{mod-lt, mod-eq_of_lt, mul-le-mul_right, pow-suc, one-le-pow, mul_comm, suc-mul, div-one, mod-one}
use Rattle.std.proofs.lemmas.Bool.{cases_order}
use Rattle.std.specs.declared.cmp.Ordering.{Ordering}
use Rattle.std.specs.declared.cmp.Ordering.TheVariants.{Less, Equal, Greater}
use Rattle.std.specs.Ordering.{nat_cmp, ordering_then}
use Rattle.std.specs.Cmp.{nat_cmp_is, tied_itself}
use Rattle.std.specs.Cmp.Lexicographic.{slice_cmp, nat_list_cmp_total}
use Rattle.std.specs.Int.{w64, to_be_bytes, bytes_high_first, byte_at}
use lib.Arith.{mod-mul}
use Rattle.agg_outside.specs.declared.rows.RowId.{RowId}
use Rattle.agg_outside.specs.Rows.{id_cmp}
use Rattle.agg_outside.specs.RowOrder.{id_cmp_same}
use Rattle.real_devices.specs.IdBytes.{ended, id_bytes}

-- ---- what a comparison of numbers answers

lower : (a b : ℕ) → a < b → nat_cmp a b ≡ Less
lower a b h = sym (nat_cmp_is a b Less h)

same : (a b : ℕ) → a ≡ b → nat_cmp a b ≡ Equal
same a b h = sym (nat_cmp_is a b Equal h)

higher : (a b : ℕ) → b < a → nat_cmp a b ≡ Greater
higher a b h = sym (nat_cmp_is a b Greater h)

-- three comparisons in turn
then_assoc : (r s t : Ordering) → ordering_then (ordering_then r s) t ≡ ordering_then r (ordering_then s t)
then_assoc Less s t = refl
then_assoc Equal s t = refl
then_assoc Greater s t = refl

-- ---- texts

-- behind two texts with their ends, what follows decides where the texts are the same
pub ended-cmp : (a b u v : List ℕ) → slice_cmp nat_cmp (ended a ++ u) (ended b ++ v) ≡ ordering_then (slice_cmp nat_cmp a b) (slice_cmp nat_cmp u v)
ended-cmp [] [] u v = refl
ended-cmp [] (zero ∷ b) u v = refl
ended-cmp [] (suc y ∷ b) u v = rw (lower zero (suc y) (omega arith)) refl
ended-cmp (zero ∷ a) [] u v = refl
ended-cmp (zero ∷ a) (zero ∷ b) u v = ended-cmp a b u v
ended-cmp (zero ∷ a) (suc y ∷ b) u v = rw (lower zero (suc y) (omega arith)) refl
ended-cmp (suc x ∷ a) [] u v = rw (higher (suc x) zero (omega arith)) refl
ended-cmp (suc x ∷ a) (zero ∷ b) u v = rw (higher (suc x) zero (omega arith)) refl
ended-cmp (suc x ∷ a) (suc y ∷ b) u v =
    ap (λ (r : Ordering). ordering_then (nat_cmp (suc x) (suc y)) r) (ended-cmp a b u v)
    ∙ sym (then_assoc (nat_cmp (suc x) (suc y)) (slice_cmp nat_cmp a b) (slice_cmp nat_cmp u v))

-- ---- numbers

-- numbers of two digits are compared by the first, and then by the second
digits-cmp-same : (w a b d : ℕ) → b < w → d < w → nat_cmp (a * w + b) (a * w + d) ≡ nat_cmp b d
digits-cmp-same w a b d p q = elim (cases_order b d) [
  | inl e ↦ same (a * w + b) (a * w + d) (omega arith) ∙ sym (same b d e)
  | inr rest ↦ elim rest [
    | inl below ↦ lower (a * w + b) (a * w + d) (omega arith) ∙ sym (lower b d below)
    | inr above ↦ higher (a * w + b) (a * w + d) (omega arith) ∙ sym (higher b d above)
  ]
]

digits_below : (w a b c d : ℕ) → b < w → a < c → a * w + b < c * w + d
digits_below w a b c d p h =
    let more : suc a * w ≤ c * w = mul-le-mul_right w h in
    let split : suc a * w ≡ a * w + w = suc-mul a w in
    omega arith

digits-cmp : (w a b c d : ℕ) → b < w → d < w → nat_cmp (a * w + b) (c * w + d) ≡ ordering_then (nat_cmp a c) (nat_cmp b d)
digits-cmp w a b c d p q = elim (cases_order a c) [
  | inl e ↦
      ap (λ (n : ℕ). nat_cmp (a * w + b) (n * w + d)) (sym e) ∙ digits-cmp-same w a b d p q
      ∙ ap (λ (r : Ordering). ordering_then r (nat_cmp b d)) (sym (same a c e))
  | inr rest ↦ elim rest [
    | inl below ↦
        lower (a * w + b) (c * w + d) (digits_below w a b c d p below)
        ∙ ap (λ (r : Ordering). ordering_then r (nat_cmp b d)) (sym (lower a c below))
    | inr above ↦
        higher (a * w + b) (c * w + d) (digits_below w c d a b q above)
        ∙ ap (λ (r : Ordering). ordering_then r (nat_cmp b d)) (sym (higher a c above))
  ]
]

byte_at-is : (k n : ℕ) → byte_at k n ≡ n / 256 ^ k % 256
byte_at-is zero n = ap (λ (m : ℕ). m % 256) (sym (div-one n))
byte_at-is (suc k) n = refl

-- what the lowest bytes of a number are worth: the highest of them, and those below it
low_split : (k n : ℕ) → n % 256 ^ suc k ≡ byte_at k n * 256 ^ k + n % 256 ^ k
low_split k n =
    let whole : 256 ^ suc k ≡ 256 * 256 ^ k = pow-suc 256 k ∙ mul_comm (256 ^ k) 256 in
    let some : 0 < 256 ^ k = omega (arith, one-le-pow k 256 (omega arith)) in
    let parts : n % (256 * 256 ^ k) ≡ (n / 256 ^ k % 256) * 256 ^ k + n % 256 ^ k = mod-mul n {m = 256} {c = 256 ^ k} (omega arith) some in
    ap (λ (m : ℕ). n % m) whole ∙ parts ∙ ap (λ (m : ℕ). m * 256 ^ k + n % 256 ^ k) (sym (byte_at-is k n))

low_below : (k n : ℕ) → n % 256 ^ k < 256 ^ k
low_below k n = mod-lt n (omega (arith, one-le-pow k 256 (omega arith)))

step-cmp : (k n m : ℕ) → nat_cmp (n % 256 ^ suc k) (m % 256 ^ suc k) ≡ ordering_then (nat_cmp (byte_at k n) (byte_at k m)) (nat_cmp (n % 256 ^ k) (m % 256 ^ k))
step-cmp k n m =
    ap (λ (x : ℕ). nat_cmp x (m % 256 ^ suc k)) (low_split k n)
    ∙ ap (λ (x : ℕ). nat_cmp (byte_at k n * 256 ^ k + n % 256 ^ k) x) (low_split k m)
    ∙ digits-cmp (256 ^ k) (byte_at k n) (n % 256 ^ k) (byte_at k m) (m % 256 ^ k) (low_below k n) (low_below k m)

-- behind the lowest bytes of two numbers, what follows decides where those are the same
high_first-cmp : (k n m : ℕ) (u v : List ℕ) → slice_cmp nat_cmp (bytes_high_first k n ++ u) (bytes_high_first k m ++ v) ≡ ordering_then (nat_cmp (n % 256 ^ k) (m % 256 ^ k)) (slice_cmp nat_cmp u v)
high_first-cmp zero n m u v =
    let none : nat_cmp (n % 1) (m % 1) ≡ Equal = same (n % 1) (m % 1) (mod-one n ∙ sym (mod-one m)) in
    ap (λ (r : Ordering). ordering_then r (slice_cmp nat_cmp u v)) (sym none)
high_first-cmp (suc k) n m u v =
    let first = nat_cmp (byte_at k n) (byte_at k m) in
    let rest = nat_cmp (n % 256 ^ k) (m % 256 ^ k) in
    ap (λ (r : Ordering). ordering_then first r) (high_first-cmp k n m u v)
    ∙ sym (then_assoc first rest (slice_cmp nat_cmp u v))
    ∙ ap (λ (r : Ordering). ordering_then r (slice_cmp nat_cmp u v)) (sym (step-cmp k n m))

-- the same of whole numbers of 64 bits
pub number-cmp : (n m : ℕ) (u v : List ℕ) → n < 2 ^ 64 → m < 2 ^ 64 → slice_cmp nat_cmp (to_be_bytes w64 n ++ u) (to_be_bytes w64 m ++ v) ≡ ordering_then (nat_cmp n m) (slice_cmp nat_cmp u v)
number-cmp n m u v p q =
    let left : n % 18446744073709551616 ≡ n = mod-eq_of_lt p in
    let right : m % 18446744073709551616 ≡ m = mod-eq_of_lt q in
    high_first-cmp 8 n m u v
    ∙ ap (λ (x : ℕ). ordering_then (nat_cmp x (m % 18446744073709551616)) (slice_cmp nat_cmp u v)) left
    ∙ ap (λ (x : ℕ). ordering_then (nat_cmp n x) (slice_cmp nat_cmp u v)) right

-- ---- ids

then_equal : (r : Ordering) → ordering_then r Equal ≡ r
then_equal Less = refl
then_equal Equal = refl
then_equal Greater = refl

last-cmp : (n m : ℕ) → n < 2 ^ 64 → m < 2 ^ 64 → slice_cmp nat_cmp (to_be_bytes w64 n) (to_be_bytes w64 m) ≡ nat_cmp n m
last-cmp n m p q = number-cmp n m [] [] p q ∙ then_equal (nat_cmp n m)

-- both numbers of an id are of 64 bits
pub record IsWide (id : RowId) : Type 0 where
  pub tx : id.tx < 2 ^ 64
  pub born : id.born < 2 ^ 64

-- the bytes of two ids are ordered as the ids are
pub id_bytes-cmp : (a b : RowId) → IsWide a → IsWide b → slice_cmp nat_cmp (id_bytes a) (id_bytes b) ≡ id_cmp a b
unfolding id_cmp
id_bytes-cmp a b p q =
    let entities = nat_cmp a.entity b.entity in
    let keys = slice_cmp nat_cmp a.key b.key in
    let texts = ended-cmp a.key b.key (to_be_bytes w64 a.tx ++ to_be_bytes w64 a.born) (to_be_bytes w64 b.tx ++ to_be_bytes w64 b.born) in
    let numbers = number-cmp a.tx b.tx (to_be_bytes w64 a.born) (to_be_bytes w64 b.born) p.tx q.tx in
    let last = last-cmp a.born b.born p.born q.born in
    ap (λ (r : Ordering). ordering_then entities r) texts
    ∙ ap (λ (r : Ordering). ordering_then entities (ordering_then keys r)) numbers
    ∙ ap (λ (r : Ordering). ordering_then entities (ordering_then keys (ordering_then (nat_cmp a.tx b.tx) r))) last

-- two ids with the same bytes are one
pub id_bytes-same : (a b : RowId) → IsWide a → IsWide b → id_bytes a ≡ id_bytes b → a ≡ b
id_bytes-same a b p q e =
    let tie : slice_cmp nat_cmp (id_bytes a) (id_bytes b) ≡ Equal =
    ap (λ (bytes : List ℕ). slice_cmp nat_cmp (id_bytes a) bytes) (sym e) ∙ tied_itself nat_list_cmp_total (id_bytes a) in
    id_cmp_same a b (sym (id_bytes-cmp a b p q) ∙ tie)
