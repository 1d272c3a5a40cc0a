-- A search among the entries of a level.
use Rattle.std.proofs.Common.{◌≡◌, ℕ, ◌+◌, ◌-◌, ◌*◌, ◌/◌, ◌^◌, ◌<◌, ◌≤◌, min, List, drop, sym, subst, ◌∙◌, arith, inl, inr}
use Rattle.std.specs.Int.{w64, from_be_bytes}
use Rattle.std.specs.Cmp.Lexicographic.{nat_list_cmp_total}
use Rattle.std.proofs.lemmas.Bool.{cases_lt}
use Rattle.std.proofs.lemmas.Grind.{pow_more}
use Rattle.std.proofs.Math.Nat.{mul-le-mul_right, pow-le-pow_right}
use Rattle.word_file.specs.Spelling.{IsPlace}
use Rattle.btree_index.specs.Levels.{entries}
use Rattle.word_file.specs.Paired.{key_count, key_at, KeysAscend, IsBelow}
use Rattle.btree_index.specs.Keys.{AreBelow, IsNotBelow, IsLevel}
use Rattle.btree_index.proofs.Spellings.{entry_of, entry_past, stride_some}

-- what is left to search, and how many words were read for it
pub record IsSearching (words : List (List ℕ)) (key : List ℕ) (j low high before now : ℕ) : Type 0 where
  pub order : low ≤ high
  pub within : high ≤ entries (key_count words) j
  pub below : AreBelow words key j low
  pub not_below : IsNotBelow words key j high
  pub probes : ℕ
  pub taken : now ≡ before + probes
  pub small : (high - low) * 2 ^ probes ≤ 16
  pub few : probes ≤ 5

halved : (d rest probes : ℕ) → 1 ≤ d → 2 * rest ≤ d → d * 2 ^ probes ≤ 16 → (rest * 2 ^ (probes + 1) ≤ 16) × (probes + 1 ≤ 5)
halved d rest probes some half small =
    let double : 2 ^ (probes + 1) ≡ 2 ^ probes * 2 = pow_more 2 probes in
    let less : 2 * rest * 2 ^ probes ≤ d * 2 ^ probes = mul-le-mul_right (2 ^ probes) half in
    let one : 1 * 2 ^ probes ≤ d * 2 ^ probes = mul-le-mul_right (2 ^ probes) some in
    let same : rest * (2 ^ probes * 2) ≡ 2 * rest * 2 ^ probes = omega arith in
    let enough : probes ≤ 4 =
    elim (cases_lt probes 5) [
      | inl lt ↦ omega arith
      | inr ge ↦ let two : 0 < 2 = omega arith in let high : 2 ^ 5 ≤ 2 ^ probes = pow-le-pow_right two ge in absurd (omega (arith, high))
    ]
    in
    (rw double (omega (arith, less, same)), omega arith)

pub begins : (words : List (List ℕ)) (key : List ℕ) (j from to steps : ℕ) → from ≤ to → from ≤ entries (key_count words) j → to ≤ from + 16 → AreBelow words key j from → IsNotBelow words key j to
    → IsSearching words key j from (min to (entries (key_count words) j)) steps steps
begins words key j from to steps order some few below not_below =
    let all = entries (key_count words) j in
    record {
      order = omega arith;
      within = omega arith;
      below = below;
      not_below =
          elim (cases_lt all to) [
            | inl lt ↦ let is : min to all ≡ all = omega arith in subst (λ (m : ℕ). IsNotBelow words key j m) (sym is) (λ there _. absurd (omega (arith, entry_past all (key_count words) j (omega arith))))
            | inr le ↦ let is : min to all ≡ to = omega arith in subst (λ (m : ℕ). IsNotBelow words key j m) (sym is) not_below
          ];
      probes = 0;
      taken = omega arith;
      small = omega arith;
      few = omega arith;
    }

-- where an entry's key stands
pub entry_place : (words : List (List ℕ)) (part : List ℕ) (j k at : ℕ) → IsLevel words j part → k < entries (key_count words) j → at ≡ from_be_bytes w64 (drop (8 * k) part) → IsPlace words at (2 * (k * 16 ^ j))
entry_place words part j k at l lt is =
    let there = entry_of k (key_count words) j lt in
    record { within = omega (arith, there); offset = is ∙ l.reads k lt }

pub below_through : (words : List (List ℕ)) (key : List ℕ) (j middle : ℕ) → KeysAscend words → middle * 16 ^ j < key_count words → IsBelow (key_at words (middle * 16 ^ j)) key → AreBelow words key j (middle + 1)
below_through words key j middle ascend within below k lt there =
    elim (cases_lt k middle) [
      | inl less ↦
          let next : (k + 1) * 16 ^ j ≤ middle * 16 ^ j = mul-le-mul_right (16 ^ j) (omega arith) in
          let more : (k + 1) * 16 ^ j ≡ k * 16 ^ j + 16 ^ j = omega arith in
          let first = ascend (k * 16 ^ j) (middle * 16 ^ j) (omega (arith, next, more, stride_some j)) within in
          nat_list_cmp_total.trans (key_at words (k * 16 ^ j)) (key_at words (middle * 16 ^ j)) key first below
      | inr ge ↦ let same : middle ≡ k = omega arith in subst (λ (m : ℕ). IsBelow (key_at words (m * 16 ^ j)) key) same below
    ]

pub goes_up : (words : List (List ℕ)) (key : List ℕ) (j low high middle before now after : ℕ) → KeysAscend words → low < high → middle ≡ low + (high - low) / 2 → after ≡ now + 1 → IsBelow (key_at words (middle * 16 ^ j)) key
    → IsSearching words key j low high before now → IsSearching words key j (middle + 1) high before after
goes_up words key j low high middle before now after ascend lt is step below s =
    let there : middle < high = omega arith in
    let rest = halved (high - low) (high - (middle + 1)) s.probes (omega arith) (omega arith) s.small in
    record {
      order = omega arith;
      within = s.within;
      below = below_through words key j middle ascend (entry_of middle (key_count words) j (omega (arith, s.within))) below;
      not_below = s.not_below;
      probes = s.probes + 1;
      taken = omega (arith, s.taken);
      small = rest.0;
      few = rest.1;
    }

pub goes_down : (words : List (List ℕ)) (key : List ℕ) (j low high middle before now after : ℕ) → low < high → middle ≡ low + (high - low) / 2 → after ≡ now + 1 → (IsBelow (key_at words (middle * 16 ^ j)) key → ⊥)
    → IsSearching words key j low high before now → IsSearching words key j low middle before after
goes_down words key j low high middle before now after lt is step not_below s =
    let rest = halved (high - low) (middle - low) s.probes (omega arith) (omega arith) s.small in
    record {
      order = omega arith;
      within = omega (arith, s.within);
      below = s.below;
      not_below = λ there. not_below;
      probes = s.probes + 1;
      taken = omega (arith, s.taken);
      small = rest.0;
      few = rest.1;
    }
