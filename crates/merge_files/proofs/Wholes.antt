-- What the groups of a list over adjoining ranges hold together is what its group over all of them holds.
use Rattle.std.proofs.Common.{AllPairs, ◌≡◌, ℕ, ◌+◌, ◌-◌, ◌*◌, ◌%◌, ◌<◌, ◌==◌, ◌&&◌, nat_le, Bool, true, false, cond, List, [], ◌∷◌, length, get_or, map, Option, Some, None, refl, arith, sym, ◌∙◌, ap, subst, eq-eqb}
use Rattle.std.specs.Prelude.{unwrap_or}
use Rattle.std.specs.Option.{option_map}
use Rattle.agg_model.specs.declared.entity.Entity.{Entity}
use Rattle.agg_model.specs.declared.entity.Range.{Range}
use Rattle.agg_model.specs.declared.change.Change.{Change}
use Rattle.agg_model.specs.declared.contents.Pair.{Pair}
use Rattle.agg_model.specs.declared.contents.Before.{Before}
use Rattle.agg_model.specs.declared.contents.Times.{Times}
use Rattle.agg_model.specs.ChangeList.{ChangeList, IsChangeList}
use Rattle.agg_model.specs.Contents.{kv_contents, v_contents, ef_contents, changes_over, keys_of, times_of}
use Rattle.agg_model.specs.Pairs.{KeysAscend, pair_keys, word_in, newest_word}
use Rattle.agg_model.proofs.ContentsLaws.{kv_contents-ArePairs, keys_of-ascend, changes_over-KeysRise}
use Rattle.content_laws.specs.Looks.{before_in, numbers_in}
use Rattle.content_laws.specs.Looks as looks
use Rattle.content_laws.specs.Parts.{Adjoin, kv_files, v_files, ef_files, kept_word, numbers_over, before_over}
use Rattle.content_laws.proofs.OneContent.{one-kv, one-v, one-ef}
use Rattle.content_laws.proofs.PairParts.{word-parts}
use Rattle.content_laws.proofs.BeforeParts.{before-parts}
use Rattle.content_laws.proofs.TimesParts.{numbers-parts}
use Rattle.domain_core.specs.KvFile.{TaggedPairs}
use Rattle.history_core.specs.Befores.{order_of, IsEarlier}
use Rattle.history_core.specs.VFile.{TaggedBefores}
use Rattle.history_core.proofs.FileLaws.{v_contents-AreBefores}
use Rattle.collate_step.specs.Groups.{GroupFiles, IsDomain, group_of, kv_of, v_of, pairs_of}
use Rattle.agg_model.specs.declared.limits.TheConstants.{STEPS_MOST}
use Rattle.agg_model.specs.Entity.{entity_number}
use Rattle.merge_ranges.specs.Cut.{is_size, is_aligned}
use Rattle.merge_files.specs.Adjacent.{befores_of, lists_of, ends_well, gap_from, first_gap}

module _ (list : ChangeList) (e : Entity) where
  pairs-group : (r : Range) → IsDomain e → pairs_of (group_of list e r) ≡ kv_contents list.size list.changes e r.from r.to
  pairs-group r domain =
      ap (λ t. unwrap_or (option_map (λ (f : TaggedPairs). f.pairs) (cond t (Some (kv_of list e r)) None)) []) domain

  pairs-groups : (rs : List Range) → IsDomain e → map pairs_of (map (group_of list e) rs) ≡ kv_files list.size list.changes e rs
  pairs-groups [] domain = refl
  pairs-groups (r ∷ rs) domain = λ i. pairs-group r domain i ∷ pairs-groups rs domain i

  befores-group : (r : Range) → IsDomain e → befores_of (group_of list e r) ≡ v_contents list.size list.changes e r.from r.to
  befores-group r domain =
      ap (λ t. unwrap_or (option_map (λ (f : TaggedBefores). f.befores) (cond t (Some (v_of list e r)) None)) []) domain

  pub befores-groups : (rs : List Range) → IsDomain e → map befores_of (map (group_of list e) rs) ≡ v_files list.size list.changes e rs
  befores-groups [] domain = refl
  befores-groups (r ∷ rs) domain = λ i. befores-group r domain i ∷ befores-groups rs domain i

  lists-groups : (rs : List Range) → map lists_of (map (group_of list e) rs) ≡ ef_files list.size list.changes e rs
  lists-groups [] = refl
  lists-groups (r ∷ rs) = λ i. ef_contents list.size list.changes e r.from r.to ∷ lists-groups rs i

keys-lists : (cs : List Change) (e : Entity) (from to : ℕ) (ks : List (List ℕ)) → map (λ (t : Times). t.key) (map (times_of cs e from to) ks) ≡ ks
keys-lists cs e from to [] = refl
keys-lists cs e from to (k ∷ ks) = λ i. k ∷ keys-lists cs e from to ks i

lists-ascend : (size : ℕ) (cs : List Change) (e : Entity) (a b : ℕ) → KeysAscend (map (λ (t : Times). t.key) (ef_contents size cs e a b))
unfolding ef_contents
lists-ascend size cs e a b =
    let rows = changes_over size cs e a b in
    subst KeysAscend (sym (keys-lists cs e (a * size) (b * size) (keys_of rows))) (keys_of-ascend rows (changes_over-KeysRise size cs e a b))

looks-earlier : (bs : List Before) → AllPairs IsEarlier bs → AllPairs looks.IsEarlier bs
unfolding order_of
looks-earlier bs up = up

module _ (list : ChangeList) (e : Entity) (a b : ℕ) (ranges : List Range) (groups : List GroupFiles) (valid : IsChangeList list)
    (adjoin : Adjoin a ranges b) (are : groups ≡ map (group_of list e) ranges) where
  pub pairs-whole : (ps : List Pair) → IsDomain e → KeysAscend (pair_keys ps) → ((k : List ℕ) → word_in ps k ≡ kept_word a (newest_word (map pairs_of groups) k))
      → ps ≡ kv_contents list.size list.changes e a b
  pairs-whole ps domain up words =
      one-kv ps (kv_contents list.size list.changes e a b) up (kv_contents-ArePairs list.size list.changes e a b valid.fit).ascend
      (λ k. words k
      ∙ ap (λ fs. kept_word a (newest_word fs k)) (ap (map pairs_of) are ∙ pairs-groups list e ranges domain)
      ∙ sym (word-parts list.size list.changes e k valid.ascend valid.fit a b ranges adjoin))

  pub befores-whole : (bs : List Before) → IsDomain e → AllPairs IsEarlier bs → ((k : List ℕ) (n : ℕ) → before_in bs k n ≡ before_over (map befores_of groups) k n)
      → bs ≡ v_contents list.size list.changes e a b
  befores-whole bs domain up words =
      one-v bs (v_contents list.size list.changes e a b) (looks-earlier bs up)
      (looks-earlier (v_contents list.size list.changes e a b) (v_contents-AreBefores list e a b valid).ascend)
      (λ k n. words k n
      ∙ ap (λ fs. before_over fs k n) (ap (map befores_of) are ∙ befores-groups list e ranges domain)
      ∙ sym (before-parts list.changes e k n list.size a b ranges adjoin))

  pub lists-whole : (ts : List Times) → KeysAscend (map (λ (t : Times). t.key) ts) → ((k : List ℕ) → numbers_in ts k ≡ numbers_over (map lists_of groups) k)
      → ts ≡ ef_contents list.size list.changes e a b
  lists-whole ts up numbers =
      one-ef ts (ef_contents list.size list.changes e a b) up (lists-ascend list.size list.changes e a b)
      (λ k. numbers k
      ∙ ap (λ fs. numbers_over fs k) (ap (map lists_of) are ∙ lists-groups list e ranges)
      ∙ sym (numbers-parts list.size list.changes e k a b ranges valid.ascend adjoin))

-- ---- groups of a list over adjoining ranges leave no gap

ends : (list : ChangeList) (e : Entity) (r : Range) (rs : List Range) (to : ℕ) → Adjoin r.to rs to → ends_well to (group_of list e r) (map (group_of list e) rs) ≡ true
ends list e r [] to adjoin = eq-eqb r.to to adjoin
ends list e r (q ∷ rs) to adjoin = refl

no-gap-from : (list : ChangeList) (e : Entity) (ranges : List Range) (from to i : ℕ) → Adjoin from ranges to → gap_from e to from i (map (group_of list e) ranges) ≡ None
no-gap-from list e [] from to i adjoin = refl
no-gap-from list e (r ∷ rs) from to i adjoin =
    λ j. cond (eq-eqb (entity_number e) (entity_number e) refl j && (eq-eqb r.from from adjoin.0 j && ends list e r rs to adjoin.1.1 j)) (no-gap-from list e rs r.to to (i + 1) adjoin.1.1 j) (Some i)

-- an aligned range isn't empty
opened : (r : Range) → is_aligned r ≡ ((is_size (r.to - r.from) && (r.from % (r.to - r.from) == 0)) && nat_le r.to STEPS_MOST)
unfolding is_aligned
opened r = refl

not-empty : (r : Range) → is_aligned r ≡ true → r.from ≡ r.to → ⊥
not-empty r aligned same =
    let none : r.to - r.from ≡ 0 = omega (arith, same) in
    let wrong : false ≡ true = (λ i. (is_size (sym none i) && (r.from % (sym none i) == 0)) && nat_le r.to STEPS_MOST) ∙ sym (opened r) ∙ aligned in
    cc

pub no-gap : (list : ChangeList) (e : Entity) (r : Range) (ranges : List Range) (groups : List GroupFiles) → is_aligned r ≡ true → Adjoin r.from ranges r.to
    → groups ≡ map (group_of list e) ranges → first_gap groups r ≡ None
no-gap list e r [] groups aligned adjoin are = absurd (not-empty r aligned adjoin)
no-gap list e r (q ∷ qs) groups aligned adjoin are =
    ap (λ gs. first_gap gs r) are ∙ no-gap-from list e (q ∷ qs) r.from r.to 0 adjoin

pub some-groups : (groups : List GroupFiles) (r : Range) → first_gap groups r ≡ None → 0 < length groups
some-groups [] r is = absurd cc
some-groups (g ∷ gs) r is = omega arith

-- the first of them says whose they are
pub first-is : (list : ChangeList) (e : Entity) (r : Range) (ranges : List Range) (groups : List GroupFiles) (g : GroupFiles) → is_aligned r ≡ true → Adjoin r.from ranges r.to
    → groups ≡ map (group_of list e) ranges → g ≡ get_or groups 0 g → (g.entity ≡ e) × (g.ef.tag.step ≡ list.size)
first-is list e r [] groups g aligned adjoin are is = absurd (not-empty r aligned adjoin)
first-is list e r (q ∷ qs) groups g aligned adjoin are is =
    let same : g ≡ group_of list e q = is ∙ ap (λ gs. get_or gs 0 g) are in
    (ap (λ (h : GroupFiles). h.entity) same, ap (λ (h : GroupFiles). h.ef.tag.step) same)

pub first-value : {Z : Type 0} (value : Z → GroupFiles) (groups : List Z) (z : Z) → 0 < length groups → z ≡ get_or groups 0 z → value z ≡ get_or (map value groups) 0 (value z)
first-value value [] z some is = absurd (omega arith)
first-value value (y ∷ ys) z some is = ap value is

pub some-of : {Z : Type 0} (value : Z → GroupFiles) (groups : List Z) → 0 < length (map value groups) → 0 < length groups
some-of value [] some = some
some-of value (y ∷ ys) some = omega arith

pub clash : {A : Type 0} {o : Option A} {x : A} → o ≡ Some x → o ≡ None → ⊥
clash is none = cc
