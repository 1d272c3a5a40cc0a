-- Levels and their spelling.
use Rattle.std.proofs.Common.{◌≡◌, ℕ, zero, suc, ◌+◌, ◌-◌, ◌*◌, ◌^◌, ◌%◌, ◌/◌, ◌<◌, ◌≤◌, false, eqb, List, [], ◌∷◌, ◌++◌, length, map, get_or, drop, bit_and, refl, sym, ap, subst, ◌∙◌, append_assoc, arith, inl, inr}
use Rattle.std.specs.List.{range_with_len}
use Rattle.std.specs.Int.{div_ceil, w32, w64, to_be_bytes, from_be_bytes}
use Rattle.std.proofs.lemmas.List.{append-nil, length-append, drop_at, drop-drop}
use Rattle.std.proofs.lemmas.Bool.{cases_order, ne_eqb, le-leb, lt-leb}
use Rattle.std.proofs.lemmas.List.FromFn.{fill_by_all, map-range_with_len_more}
use Rattle.std.proofs.lemmas.Grind.{div_ceil_times, pow_more}
use Rattle.std.proofs.lemmas.Nat.{pow-add, and_mask, shr_split}
use Rattle.std.proofs.Math.Nat.{mul-le-mul_left, mul-le-mul_right, pow-le-pow_right, one-le-pow}
use Rattle.std.specs.Prelude.{slice_index}
use Rattle.file_numbers.proofs.Listed.{length-number_bytes, numbers_at_again, number_at, number_bytes-push}
use Rattle.file_numbers.specs.Lists.{number_bytes, numbers_at, AreNumbers}
use Rattle.btree_index.specs.Levels.{entries, level, levels, top_from, levels_below, header, spelling, offsets_in, IsHeld}

-- ---- entries

-- an entry stands for a key
pub entry_lt : (k n s : ℕ) → 0 < s → k < div_ceil n s → k * s < n
entry_lt k n s pos lt =
    let next : (k + 1) * s ≤ div_ceil n s * s = mul-le-mul_right s (omega arith) in
    let one : (k + 1) * s ≡ k * s + s = omega arith in
    omega (arith, (div_ceil_times n s pos).1, next)

pub entry_ge : (k n s : ℕ) → 0 < s → div_ceil n s ≤ k → n ≤ k * s
entry_ge k n s pos le =
    let times : div_ceil n s * s ≤ k * s = mul-le-mul_right s le in
    omega (arith, (div_ceil_times n s pos).0, times)

-- ---- levels

pub stride_small : (j : ℕ) → j < 16 → 16 ^ j < 2 ^ 64
stride_small j lt = let some : 0 < 16 = omega arith in let below : j ≤ 15 = omega arith in let le : 16 ^ j ≤ 16 ^ 15 = pow-le-pow_right some below in omega (arith, le)

-- a level is four bits
pub sixteen : (j : ℕ) → 16 ^ j ≡ 2 ^ (4 * j)
sixteen zero = refl
sixteen (suc j) =
    let next : suc j ≡ j + 1 = omega arith in
    let bits : 4 * suc j ≡ 4 * j + 4 = omega arith in
    ap (λ (k : ℕ). 16 ^ k) next ∙ pow_more 16 j ∙ ap (λ (n : ℕ). n * 16) (sixteen j) ∙ sym (ap (λ (k : ℕ). 2 ^ k) bits ∙ pow-add 2 (4 * j) 4)

pub shifted : (j : ℕ) → j < 16 → 1 * 2 ^ (4 * j) % 2 ^ 64 ≡ 16 ^ j
shifted j lt =
    let small = stride_small j lt in
    let one : 1 * 2 ^ (4 * j) ≡ 16 ^ j = omega (arith, sixteen j) in
    omega (arith, ap (λ (n : ℕ). n % 2 ^ 64) one, small)

pub rest_of : (n j s : ℕ) → s ≡ 16 ^ j → bit_and n (s - 1) ≡ n % 2 ^ (4 * j)
rest_of n j s is = ap (λ (m : ℕ). bit_and n (m - 1)) (is ∙ sixteen j) ∙ and_mask n (4 * j)

-- where something is left, a stride is at least two, or the whole is less than it was
pub more_fits : (n j rest : ℕ) → n < 2 ^ 64 → rest ≡ n % 2 ^ (4 * j) → (rest ≡ 0 → ⊥) → n / 2 ^ (4 * j) + 1 < 2 ^ 64
more_fits n j rest fits rest-is some =
    let s = 2 ^ (4 * j) in
    let stride : 0 < s = one-le-pow (4 * j) 2 (omega arith) in
    let times : n / s * 1 ≤ n / s * s = mul-le-mul_left (n / s) stride in
    omega (arith, times, shr_split n (4 * j), rest-is, some, fits)

-- as many entries as whole strides, and one more for what is left
pub entries_whole : (n j rest : ℕ) → rest ≡ n % 2 ^ (4 * j) → rest ≡ 0 → n / 2 ^ (4 * j) ≡ entries n j
unfolding entries
entries_whole n j rest rest-is none =
    let left : n % 2 ^ (4 * j) ≡ 0 = sym rest-is ∙ none in
    rw (sixteen j, left) (omega arith)

pub entries_more : (n j rest : ℕ) → rest ≡ n % 2 ^ (4 * j) → (rest ≡ 0 → ⊥) → n / 2 ^ (4 * j) + 1 ≡ entries n j
unfolding entries
entries_more n j rest rest-is some =
    let left : 0 < n % 2 ^ (4 * j) = omega (arith, rest-is, some) in
    rw (sixteen j) (omega (arith, left))

pub stride_some : (j : ℕ) → 0 < 16 ^ j
stride_some j = one-le-pow j 16 (omega arith)

entries_zero : (n : ℕ) → entries n 0 ≡ n
unfolding entries
entries_zero n =
    elim (cases_order n (div_ceil n 1)) [
      | inl same ↦ sym same
      | inr (inl lt) ↦ absurd (omega (arith, entry_lt n n 1 (omega arith) lt))
      | inr (inr lt) ↦ absurd (omega (arith, entry_ge (div_ceil n 1) n 1 (omega arith) (omega arith)))
    ]

-- the lowest level lists all
pub level_zero : (offsets : List ℕ) → level offsets 0 ≡ offsets
unfolding level
level_zero offsets =
    let n = length offsets in
    let f : ℕ → ℕ = λ k. slice_index offsets (k * 16 ^ 0) in
    let all : map f (range_with_len 0 (entries n 0)) ≡ map f (range_with_len 0 n) = ap (λ (m : ℕ). map f (range_with_len 0 m)) (entries_zero n) in
    all ∙ sym (fill_by_all f offsets n 0 refl (λ k lt. let once : k * 16 ^ 0 ≡ k = omega arith in ap (λ (i : ℕ). get_or offsets i 0) (sym once)))

levels_tail : (offsets : List ℕ) (j : ℕ) → (upper : List ℕ) × (levels_below offsets (suc j) ≡ upper ++ number_bytes offsets)
unfolding levels_below
levels_tail offsets zero = ([], append-nil (number_bytes (level offsets 0)) ∙ ap number_bytes (level_zero offsets))
levels_tail offsets (suc j) =
    let below = levels_tail offsets j in
    (number_bytes (level offsets (suc j)) ++ below.0, ap (λ (x : List ℕ). number_bytes (level offsets (suc j)) ++ x) below.1 ∙ sym (append_assoc (number_bytes (level offsets (suc j))) below.0 (number_bytes offsets)))

levels_some : (m : ℕ) → (j : ℕ) × (levels (suc m) ≡ suc j)
unfolding levels
levels_some m =
    let t = top_from 15 0 (suc m) in
    let some : eqb (suc m) 0 ≡ false = ne_eqb (suc m) 0 (λ e. omega arith) in
    let more : t + 1 ≡ suc t = omega arith in
    (t, rw some more)

-- the lowest level stands last
pub spelling_tail : (offsets : List ℕ) → (upper : List ℕ) × (spelling offsets ≡ upper ++ number_bytes offsets)
unfolding spelling number_bytes
spelling_tail [] = (spelling [], sym (append-nil (spelling [])))
spelling_tail (x ∷ xs) =
    let offsets = x ∷ xs in
    let some = levels_some (length xs) in
    let below = levels_tail offsets some.0 in
    let head = header (length offsets) in
    (head ++ below.0, ap (λ (j : ℕ). head ++ levels_below offsets j) some.1 ∙ ap (λ (t : List ℕ). head ++ t) below.1 ∙ sym (append_assoc head below.0 (number_bytes offsets)))

-- ---- what is seen in a spelling

last_part : (upper offsets : List ℕ) → drop (length (upper ++ number_bytes offsets) - 8 * length offsets) (upper ++ number_bytes offsets) ≡ number_bytes offsets
last_part upper offsets =
    let len : length (upper ++ number_bytes offsets) - 8 * length offsets ≡ length upper = omega (arith, length-append upper (number_bytes offsets), length-number_bytes offsets) in
    rw len (drop_at upper (number_bytes offsets) (length upper) refl)

pub last_of_spelling : (offsets bytes : List ℕ) → bytes ≡ spelling offsets → drop (length bytes - 8 * length offsets) bytes ≡ number_bytes offsets
last_of_spelling offsets bytes is =
    let tail = spelling_tail offsets in
    ap (λ (b : List ℕ). drop (length b - 8 * length offsets) b) (is ∙ tail.1) ∙ last_part tail.0 offsets

pub spelling_long : (offsets bytes : List ℕ) → bytes ≡ spelling offsets → 8 * length offsets ≤ length bytes
spelling_long offsets bytes is =
    let tail = spelling_tail offsets in
    omega (arith, ap length (is ∙ tail.1), length-append tail.0 (number_bytes offsets), length-number_bytes offsets)

pub seen : (offsets bytes : List ℕ) (count : ℕ) → AreNumbers offsets → count ≡ length offsets → bytes ≡ spelling offsets → offsets_in count bytes ≡ offsets
unfolding offsets_in
seen offsets bytes count fits counted is =
    rw counted (ap (numbers_at (length offsets)) (last_of_spelling offsets bytes is ∙ sym (append-nil (number_bytes offsets))) ∙ numbers_at_again offsets [] fits)

pub held : (offsets bytes : List ℕ) (count : ℕ) → AreNumbers offsets → count ≡ length offsets → bytes ≡ spelling offsets → IsHeld count bytes
held offsets bytes count fits counted is =
    let same = seen offsets bytes count fits counted is in
    record { counted = rw same counted; fits = rw same fits; spelled = rw same is }

-- the number at a place of the lowest level, counted from the end
pub read_last : (offsets bytes : List ℕ) (place : ℕ) → AreNumbers offsets → bytes ≡ spelling offsets → place < length offsets → from_be_bytes w64 (drop (length bytes - 8 * (length offsets - place)) bytes) ≡ get_or offsets place 0
read_last offsets bytes place fits is lt =
    let start = length bytes - 8 * length offsets in
    let at : length bytes - 8 * (length offsets - place) ≡ start + 8 * place = omega (arith, spelling_long offsets bytes is) in
    let part : drop (length bytes - 8 * (length offsets - place)) bytes ≡ drop (8 * place) (number_bytes offsets ++ []) =
    ap (λ (k : ℕ). drop k bytes) at ∙ sym (drop-drop (8 * place) start bytes) ∙ ap (drop (8 * place)) (last_of_spelling offsets bytes is ∙ sym (append-nil (number_bytes offsets)))
    in
    ap (from_be_bytes w64) part ∙ number_at place offsets [] fits lt

-- ---- as the loops go

pub top_here : (n j : ℕ) → j < 15 → entries n j ≤ 16 → top_from 15 0 n ≡ top_from (15 - j) j n → j ≡ top_from 15 0 n
unfolding top_from
top_here n j lt few is =
    let more : 15 - j ≡ suc (14 - j) = omega arith in
    let here : top_from (15 - j) j n ≡ j = ap (λ (m : ℕ). top_from m j n) more ∙ rw (le-leb (entries n j) 16 few) refl in
    sym (is ∙ here)

pub top_more : (n j : ℕ) → j < 15 → 16 < entries n j → top_from 15 0 n ≡ top_from (15 - j) j n → top_from 15 0 n ≡ top_from (15 - (j + 1)) (j + 1) n
unfolding top_from
top_more n j lt many is =
    let more : 15 - j ≡ suc (15 - (j + 1)) = omega arith in
    is ∙ ap (λ (m : ℕ). top_from m j n) more ∙ rw (lt-leb (entries n j) 16 many) refl

pub top_last : (n j : ℕ) → 15 ≤ j → j ≤ 15 → top_from 15 0 n ≡ top_from (15 - j) j n → 15 ≡ top_from 15 0 n
unfolding top_from
top_last n j ge le is =
    let all : j ≡ 15 = omega arith in
    sym (is ∙ ap (λ (i : ℕ). top_from (15 - i) i n) all)

-- one entry more
pub level_more : (offsets front out new : List ℕ) (j k : ℕ) → out ≡ front ++ number_bytes (map (λ i. slice_index offsets (i * 16 ^ j)) (range_with_len 0 k)) → new ≡ out ++ to_be_bytes w64 (slice_index offsets (k * 16 ^ j))
    → new ≡ front ++ number_bytes (map (λ i. slice_index offsets (i * 16 ^ j)) (range_with_len 0 (k + 1)))
level_more offsets front out new j k so_far is =
    let f : ℕ → ℕ = λ i. slice_index offsets (i * 16 ^ j) in
    let some = map f (range_with_len 0 k) in
    let more : map f (range_with_len 0 (k + 1)) ≡ some ++ f k ∷ [] = map-range_with_len_more f 0 k k (omega arith) in
    is ∙ ap (λ (x : List ℕ). x ++ to_be_bytes w64 (f k)) so_far ∙ append_assoc front (number_bytes some) (to_be_bytes w64 (f k))
    ∙ ap (λ (x : List ℕ). front ++ x) (sym (number_bytes-push some (f k)) ∙ ap number_bytes (sym more))

pub level_all : (offsets front out : List ℕ) (j k : ℕ) → k ≡ entries (length offsets) j → out ≡ front ++ number_bytes (map (λ i. slice_index offsets (i * 16 ^ j)) (range_with_len 0 k)) → out ≡ front ++ number_bytes (level offsets j)
unfolding level
level_all offsets front out j k all is = is ∙ ap (λ (n : ℕ). front ++ number_bytes (map (λ i. slice_index offsets (i * 16 ^ j)) (range_with_len 0 n))) all

pub entry_of : (k n j : ℕ) → k < entries n j → k * 16 ^ j < n
unfolding entries
entry_of k n j lt = entry_lt k n (16 ^ j) (stride_some j) lt

-- one level more
pub below_more : (offsets out new whole : List ℕ) (j i : ℕ) → 0 < j → i ≡ j - 1 → out ++ levels_below offsets j ≡ whole → new ≡ out ++ number_bytes (level offsets i) → new ++ levels_below offsets i ≡ whole
unfolding levels_below
below_more offsets out new whole j i some i-is so_far is =
    let j-is : j ≡ suc i = omega arith in
    ap (λ (x : List ℕ). x ++ levels_below offsets i) is ∙ append_assoc out (number_bytes (level offsets i)) (levels_below offsets i)
    ∙ ap (λ (k : ℕ). out ++ levels_below offsets k) (sym j-is) ∙ so_far

pub below_all : (offsets out whole : List ℕ) (j : ℕ) → j ≤ 0 → out ++ levels_below offsets j ≡ whole → out ≡ whole
unfolding levels_below
below_all offsets out whole j none so_far =
    let zero-is : j ≡ 0 = omega arith in
    sym (append-nil out) ∙ ap (λ (k : ℕ). out ++ levels_below offsets k) (sym zero-is) ∙ so_far

pub level_none : (front : List ℕ) → front ≡ front ++ number_bytes []
unfolding number_bytes
level_none front = sym (append-nil front)

pub begun : (offsets out0 out1 out2 out3 : List ℕ) (n : ℕ) → n ≡ levels (length offsets) → out0 ≡ [] → out1 ≡ out0 ++ to_be_bytes w32 0x4147_4231 → out2 ≡ out1 ++ to_be_bytes w32 n → out3 ≡ out2 ++ to_be_bytes w64 (length offsets)
    → out3 ++ levels_below offsets n ≡ spelling offsets
unfolding spelling header
begun offsets out0 out1 out2 out3 n n-is e0 e1 e2 e3 =
    let empty : out1 ≡ to_be_bytes w32 0x4147_4231 = e1 ∙ ap (λ (x : List ℕ). x ++ to_be_bytes w32 0x4147_4231) e0 in
    let two : out2 ≡ to_be_bytes w32 0x4147_4231 ++ to_be_bytes w32 n = e2 ∙ ap (λ (x : List ℕ). x ++ to_be_bytes w32 n) empty in
    let three = e3 ∙ ap (λ (x : List ℕ). x ++ to_be_bytes w64 (length offsets)) two in
    ap (λ (x : List ℕ). x ++ levels_below offsets n) three
    ∙ ap (λ (k : ℕ). to_be_bytes w32 0x4147_4231 ++ to_be_bytes w32 k ++ to_be_bytes w64 (length offsets) ++ levels_below offsets k) n-is

-- ---- what is held

pub record IsHeldAs (count : ℕ) (bytes offsets : List ℕ) : Type 0 where
  pub counted : count ≡ length offsets
  pub fits : AreNumbers offsets
  pub spelled : bytes ≡ spelling offsets

pub held_as : {count : ℕ} {bytes : List ℕ} (v : List ℕ) → IsHeld count bytes → offsets_in count bytes ≡ v → IsHeldAs count bytes v
held_as {count} {bytes} v h is = subst (λ (w : List ℕ). IsHeldAs count bytes w) is (record { counted = h.counted; fits = h.fits; spelled = h.spelled })

pub entry_past : (k n j : ℕ) → entries n j ≤ k → n ≤ k * 16 ^ j
unfolding entries
entry_past k n j le = entry_ge k n (16 ^ j) (stride_some j) le

pub levels_suc : (m : ℕ) → levels (suc m) ≡ top_from 15 0 (suc m) + 1
unfolding levels
levels_suc m =
    let some : eqb (suc m) 0 ≡ false = ne_eqb (suc m) 0 (λ e. omega arith) in
    rw some refl

pub levels_none : (n : ℕ) → levels n ≡ 0 → n ≡ 0
levels_none zero e = refl
levels_none (suc m) e = omega (arith, levels_suc m)

pub spelling_16 : (offsets bytes : List ℕ) → bytes ≡ spelling offsets → 16 ≤ length bytes
unfolding spelling header
spelling_16 offsets bytes is = rw is (omega arith)
