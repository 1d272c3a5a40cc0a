-- The state of a descent.
use Rattle.std.proofs.Common.{◌≡◌, ℕ, zero, suc, ◌+◌, ◌-◌, ◌*◌, ◌^◌, ◌<◌, ◌≤◌, List, length, drop, sym, ap, subst, ◌∙◌, arith}
use Rattle.std.proofs.lemmas.Grind.{pow_more}
use Rattle.std.proofs.lemmas.List.{length-drop}
use Rattle.file_numbers.specs.Lists.{AreNumbers}
use Rattle.btree_index.specs.Levels.{entries, levels, levels_below, spelling}
use Rattle.word_file.specs.Paired.{key_count, key_at, key_offsets, KeysAscend, IsBelow}
use Rattle.btree_index.specs.Keys.{AreBelow, IsNotBelow, IsLevel, IsFirstNotBelow}
use Rattle.btree_index.proofs.Spellings.{entry_of, levels_none}
use Rattle.btree_index.proofs.Searches.{below_through}
use Rattle.btree_index.proofs.Seeks.{entry_in, entries_few, is_level, next_part, first_part, top_few}

-- what a search of level j may begin with
pub record IsReady (words : List (List ℕ)) (key : List ℕ) (j from to : ℕ) : Type 0 where
  pub some : from ≤ entries (key_count words) j
  pub below : AreBelow words key j from
  pub not_below : IsNotBelow words key j to

-- the levels from this one down are still to be searched
pub record IsDescending (words : List (List ℕ)) (key bytes : List ℕ) (level start from to place before now : ℕ) : Type 0 where
  pub part : drop start bytes ≡ levels_below (key_offsets words) level
  pub started : start ≤ length bytes
  pub order : from ≤ to
  pub few : to ≤ from + 16
  pub ready : (j : ℕ) → level ≡ suc j → IsReady words key j from to
  pub done : level ≡ 0 → IsFirstNotBelow words key place
  pub taken : now + 5 * level ≤ before + 5 * levels (key_count words)
  pub top : level ≤ 16

pub begins : (words : List (List ℕ)) (key bytes : List ℕ) (level steps : ℕ) → bytes ≡ spelling (key_offsets words) → 16 ≤ length bytes → level ≡ levels (key_count words) → level ≤ 16 → key_count words < 2 ^ 64
    → IsDescending words key bytes level 16 0 16 0 steps steps
begins words key bytes level steps is long level-is top small = record {
  part = first_part words bytes is ∙ ap (levels_below (key_offsets words)) (sym level-is);
  started = long;
  order = omega arith;
  few = omega arith;
  ready = λ j e. record { some = omega arith; below = λ k lt there. absurd (omega arith); not_below = λ there. absurd (omega (arith, top_few (key_count words) j small (sym level-is ∙ e))) };
  done = λ e. let none : key_count words ≡ 0 = levels_none (key_count words) (sym level-is ∙ e) in record { within = omega arith; before = λ p lt. absurd (omega arith); there = λ lt _. absurd (omega arith) };
  taken = omega (arith, level-is);
  top = top;
}

moved : (m j : ℕ) → 16 * m * 16 ^ j ≡ m * 16 ^ suc j
moved m j =
    let next : suc j ≡ j + 1 = omega arith in
    let more : 16 ^ suc j ≡ 16 ^ j * 16 = ap (λ (i : ℕ). 16 ^ i) next ∙ pow_more 16 j in
    let same : 16 * m * 16 ^ j ≡ m * (16 ^ j * 16) = omega arith in
    same ∙ ap (λ (s : ℕ). m * s) (sym more)

not_below_under : (words : List (List ℕ)) (key : List ℕ) (j m : ℕ) → IsNotBelow words key (suc j) m → IsNotBelow words key j (16 * m)
not_below_under words key j m h = subst (λ (p : ℕ). p < key_count words → IsBelow (key_at words p) key → ⊥) (sym (moved m j)) h

-- the entries under the one before the first that isn't below
under : (words : List (List ℕ)) (key : List ℕ) (j place : ℕ) → KeysAscend words → place ≤ entries (key_count words) (suc j) → AreBelow words key (suc j) place → IsNotBelow words key (suc j) place → IsReady words key j (16 * place - 15) (16 * place)
under words key j zero ascend within below not_below = record { some = omega arith; below = λ k lt there. absurd (omega arith); not_below = not_below_under words key j zero not_below }
under words key j (suc p) ascend within below not_below =
    let at = entry_of p (key_count words) (suc j) (omega arith) in
    let here : 16 * p * 16 ^ j < key_count words = rw moved at in
    let last : IsBelow (key_at words (16 * p * 16 ^ j)) key = subst (λ (q : ℕ). IsBelow (key_at words q) key) (sym (moved p j)) (below p (omega arith) at) in
    let first : 16 * p + 1 ≡ 16 * suc p - 15 = omega arith in
    record {
      some = omega (arith, entry_in (16 * p) (key_count words) j here);
      below = subst (λ (m : ℕ). AreBelow words key j m) first (below_through words key j (16 * p) ascend here last);
      not_below = not_below_under words key j (suc p) not_below;
    }

-- the lowest level lists all
lowest : (words : List (List ℕ)) (key : List ℕ) (place : ℕ) → place ≤ entries (key_count words) 0 → AreBelow words key 0 place → IsNotBelow words key 0 place → IsFirstNotBelow words key place
lowest words key place within below not_below = record {
  within = omega (arith, entries_few (key_count words) 0);
  before = λ p lt.
      let once : p * 16 ^ 0 ≡ p = omega arith in
      subst (λ (q : ℕ). IsBelow (key_at words q) key) once (below p lt (entry_of p (key_count words) 0 (omega arith)));
  there = λ lt is.
      let once : place ≡ place * 16 ^ 0 = omega arith in
      not_below (omega (arith, once)) (subst (λ (q : ℕ). IsBelow (key_at words q) key) once is);
}

pub goes_on : (words : List (List ℕ)) (key bytes : List ℕ) (level i start from to place after before now then_ : ℕ) → KeysAscend words → level ≡ suc i → IsLevel words i (drop start bytes) → after ≤ entries (key_count words) i
    → AreBelow words key i after → IsNotBelow words key i after → then_ ≤ now + 5 → IsDescending words key bytes level start from to place before now
    → IsDescending words key bytes i (start + 8 * entries (key_count words) i) (16 * after - 15) (16 * after) after before then_
goes_on words key bytes level i start from to place after before now then_ ascend is here within below not_below step d = record {
  part = next_part words bytes start i (d.part ∙ ap (levels_below (key_offsets words)) is);
  started = omega (arith, here.long, length-drop start bytes, d.started);
  order = omega arith;
  few = omega arith;
  ready = λ j e.
      under words key j after ascend (subst (λ (k : ℕ). after ≤ entries (key_count words) k) e within) (subst (λ (k : ℕ). AreBelow words key k after) e below)
      (subst (λ (k : ℕ). IsNotBelow words key k after) e not_below);
  done = λ e.
      lowest words key after (subst (λ (k : ℕ). after ≤ entries (key_count words) k) e within) (subst (λ (k : ℕ). AreBelow words key k after) e below) (subst (λ (k : ℕ). IsNotBelow words key k after) e not_below);
  taken = omega (arith, d.taken);
  top = omega (arith, d.top);
}

pub level_here : {words : List (List ℕ)} {key bytes : List ℕ} {level start from to place before now : ℕ} → AreNumbers (key_offsets words) → 0 < level → IsDescending words key bytes level start from to place before now → IsLevel words (level - 1) (drop start bytes)
level_here {words} {key} {bytes} {level} {start} fits some d =
    let down : level ≡ suc (level - 1) = omega arith in
    is_level words (drop start bytes) (level - 1) fits (d.part ∙ ap (levels_below (key_offsets words)) down)
