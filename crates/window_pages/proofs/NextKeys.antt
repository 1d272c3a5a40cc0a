-- The next key of all groups, and of files and window.
use Rattle.std.proofs.Common.{◌≡◌, ℕ, zero, ◌*◌, ◌||◌, Bool, true, false, cond, List, [], ◌∷◌, take, map, Option, Some, None, refl, sym, ap, subst, ◌∙◌, arith}
use Rattle.std.specs.Prelude.{nat_eq, not, slice_get, unwrap_or}
use Rattle.std.specs.List.{filter}
use Rattle.std.specs.Ordering.{is_lt, is_eq, ordering_reverse}
use Rattle.std.specs.Cmp.Lexicographic.{pointwise, bytes_decides, nat_list_cmp_total}
use Rattle.std.specs.declared.cmp.Ordering.{Ordering}
use Rattle.std.specs.declared.cmp.Ordering.TheVariants.{Less, Equal, Greater}
use Rattle.agg_model.specs.declared.change.Change.{Change}
use Rattle.agg_model.specs.declared.contents.Times.{Times}
use Rattle.agg_model.specs.declared.entity.Entity.{Entity}
use Rattle.agg_model.specs.declared.entity.Range.{Range}
use Rattle.agg_model.specs.ChangeList.{ChangeList}
use Rattle.agg_model.specs.Contents.{times}
use Rattle.agg_model.specs.Listed.{is_from}
use Rattle.agg_model.specs.Pairs.{KeysAscend}
use Rattle.collate_step.specs.Groups.{GroupFiles, group_of, groups_for}
use Rattle.hot_keeper.specs.Windows.{window_keys}
use Rattle.inverted_index.specs.EfFile.{list_keys, numbers_of}
use Rattle.window_laws.specs.Pages.{IsNext, behind_key, lesser}
use Rattle.window_laws.specs.Parts.{changes_from, is_between, numbers_between}
use Rattle.window_laws.proofs.KeyOrder.{below_behind, from_chain, next_both}
use Rattle.window_laws.proofs.Listed.{next-from}
use Rattle.window_reads.specs.Folds.{numbers_in_groups}
use Rattle.window_reads.specs.Standing.{Stand, part_in}
use Rattle.window_reads.proofs.Stands.{stand-numbers, numbers-all}
use Rattle.window_pages.specs.Places.{Place, next_from, places_from, least_next}
use Rattle.window_pages.specs.Standing.{StandFor}
use Rattle.window_pages.proofs.KeyWalks.{order, next-found}
use Rattle.window_pages.proofs.Places.{above-from}
use Rattle.window_pages.proofs.Finds.{keys-ascend}

-- the first key of a file that isn't below the first one is its next key
next-by : (t : Times) (ts : List Times) (first : List ℕ) (u : Bool) → is_from (Some first) t.key ≡ u → KeysAscend (list_keys (t ∷ ts))
    → IsNext (λ k. unwrap_or (numbers_of ts k) []) first (next_from first ts) → IsNext (λ k. unwrap_or (numbers_of (t ∷ ts) k) []) first (cond u (Some t.key) (next_from first ts))
next-by t ts first true is up rest =
    next-found (t ∷ ts) first zero t.key up (omega arith) (λ p below. absurd (omega (arith, below))) refl (turn (is_lt (order t.key first)) is)
  where
    turn : (r : Bool) → not r ≡ true → r ≡ false
    turn true h = cc
    turn false h = refl
next-by t ts first false is up rest = record {
  from = rest.from;
  passed = λ k from under. ap (λ v. unwrap_or (cond v (Some t.items) (numbers_of ts k)) []) (other k from) ∙ rest.passed k from under;
}
  where
    other-by : (k : List ℕ) (v : Bool) → pointwise nat_eq t.key k ≡ v → is_from (Some first) k ≡ true → v ≡ false
    other-by k true same from =
        let bad = sym is ∙ ap (is_from (Some first)) ((bytes_decides t.key k).0 same) ∙ from in
        cc
    other-by k false same from = refl

    other : (k : List ℕ) → is_from (Some first) k ≡ true → pointwise nat_eq t.key k ≡ false
    other k from = other-by k (pointwise nat_eq t.key k) refl from

next-in : (ts : List Times) (first : List ℕ) → KeysAscend (list_keys ts) → IsNext (λ k. unwrap_or (numbers_of ts k) []) first (next_from first ts)
next-in [] first up = record { from = tt; passed = λ k from under. refl }
next-in (t ∷ ts) first up = next-by t ts first (is_from (Some first) t.key) refl up (next-in ts first up.1)

-- the least of the next keys of all groups is the next key of all
module _ (list : ChangeList) (e : Entity) (size : ℕ) (first : List ℕ) (a b : ℕ) where
  next-one : (r : Range) → IsNext (λ k. filter (is_between a b) (unwrap_or (numbers_of (group_of list e r).ef.lists k) [])) first (next_from first (group_of list e r).ef.lists)
  next-one r =
      let next = next-in (group_of list e r).ef.lists first (keys-ascend list.size list.changes e r.from r.to) in
      record { from = next.from; passed = λ k from under. ap (filter (is_between a b)) (next.passed k from under) }

  next-ranges : (rs : List Range)
      → IsNext (λ k. numbers_between (map (part_in size) (map (group_of list e) rs)) k a b) first (least_next (places_from first (map (group_of list e) rs)))
  next-ranges [] = record { from = tt; passed = λ k from under. refl }
  next-ranges (r ∷ rs) =
      next_both (λ k. filter (is_between a b) (unwrap_or (numbers_of (group_of list e r).ef.lists k) [])) (λ k. numbers_between (map (part_in size) (map (group_of list e) rs)) k a b) first
      (next_from first (group_of list e r).ef.lists) (least_next (places_from first (map (group_of list e) rs))) (next-one r) (next-ranges rs)

-- ---- files and window

first-of-one : (xs : List (List ℕ)) → slice_get (take 1 xs) 0 ≡ slice_get xs 0
first-of-one [] = refl
first-of-one (x ∷ xs) = refl

next-all : (list : ChangeList) (files : List GroupFiles) (told : Option (List Change)) (size end at : ℕ) → Stand list files told size end at
    → (e : Entity) (a b : ℕ) (first : List ℕ) (o p q : Option (List ℕ)) (keys : List (List ℕ)) → IsNext (λ k. numbers_in_groups e k a b files) first o
    → keys ≡ take 1 (window_keys (changes_from (end * list.size) list.changes) e first a b) → p ≡ slice_get keys 0 → q ≡ lesser o p
    → IsNext (λ k. times list.changes e k a b) first q
next-all list files told size end at stand e a b first o p q keys next keys_are p_is q_is =
    let cs = changes_from (end * list.size) list.changes in
    let two = next-from (end * list.size) list.changes e first a b in
    let all = next_both (λ k. numbers_in_groups e k a b files) (λ k. times cs e k a b) first o (slice_get (window_keys cs e first a b) 0) next two in
    let same : lesser o (slice_get (window_keys cs e first a b) 0) ≡ q =
    sym (q_is ∙ ap (lesser o) (p_is ∙ ap (λ l. slice_get l 0) keys_are ∙ first-of-one (window_keys cs e first a b))) in
    let whole : IsNext (λ k. times list.changes e k a b) first (lesser o (slice_get (window_keys cs e first a b) 0)) =
    record { from = all.from; passed = λ k from under. stand-numbers list files told size end at stand e k a b ∙ all.passed k from under } in
    subst (λ r. IsNext (λ k. times list.changes e k a b) first r) same whole

pub next-key : (list : ChangeList) (e : Entity) (groups : List GroupFiles) (told : Option (List Change)) (size end at : ℕ) → StandFor list e groups told size end at
    → (a b : ℕ) (first : List ℕ) (places : List Place) (p q : Option (List ℕ)) (keys : List (List ℕ)) → places ≡ places_from first groups
    → keys ≡ take 1 (window_keys (changes_from (end * list.size) list.changes) e first a b) → p ≡ slice_get keys 0 → q ≡ lesser (least_next places) p
    → IsNext (λ k. times list.changes e k a b) first q
next-key list e groups told size end at s a b first places p q keys are keys_are p_is q_is =
    let ranges = (s.stand.files_are e).0 in
    let files : groups_for e s.files ≡ map (group_of list e) ranges = (s.stand.files_are e).1.1 in
    let same : places ≡ places_from first (map (group_of list e) ranges) = are ∙ ap (places_from first) (s.groups_are ∙ files) in
    let next = next-ranges list e size first a b ranges in
    let here : IsNext (λ k. numbers_in_groups e k a b s.files) first (least_next places) =
    subst (λ ps. IsNext (λ k. numbers_in_groups e k a b s.files) first (least_next ps)) (sym same)
    (record {
      from = next.from;
      passed = λ k from under. numbers-all size e k a b s.files ∙ ap (λ gs. numbers_between (map (part_in size) gs) k a b) files ∙ next.passed k from under;
    }) in
    next-all list s.files told size end at s.stand e a b first (least_next places) p q keys here keys_are p_is q_is

-- the least key above one that isn't below the first one isn't either
above-behind : (r : Ordering) → r ≡ ordering_reverse r → (is_lt r || is_eq r) ≡ true
above-behind Less h = refl
above-behind Equal h = refl
above-behind Greater h = cc

pub behind-from : (first k : List ℕ) → is_from (Some first) k ≡ true → is_from (Some first) (behind_key k) ≡ true
behind-from first k from =
    let above = above-from k (behind_key k) (below_behind k k ∙ above-behind (order k k) (nat_list_cmp_total.antisymm k k)) in
    from_chain (behind_key k) k first above from
