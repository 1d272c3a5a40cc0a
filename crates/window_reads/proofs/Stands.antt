-- Files and a window that stand for a list tell its values and numbers.
use Rattle.std.specs.Prelude.{◌≡◌, ℕ, ◌*◌, ◌<◌, ◌≤◌, ◌==◌, ◌++◌, ◌&&◌, nat_eq, nat_le, Bool, true, false, cond, List, [], ◌∷◌, map, find, Option, Some, None, IfSome, unwrap_or, refl}
use Rattle.std.proofs.Common.{sym, ◌∙◌, ap, subst, lt-ltb, le-ltb}
use Rattle.std.specs.Option.{option_or, option_and_then, option_map}
use Rattle.std.specs.List.{filter}
use Rattle.std.specs.Cmp.Lexicographic.{pointwise}
use Rattle.agg_model.specs.declared.entity.Entity.{Entity}
use Rattle.agg_model.specs.declared.entity.Range.{Range}
use Rattle.agg_model.specs.declared.change.Change.{Change}
use Rattle.agg_model.specs.declared.contents.Before.{Before}
use Rattle.agg_model.specs.declared.contents.Times.{Times}
use Rattle.agg_model.specs.Entity.{entity_number}
use Rattle.agg_model.specs.ChangeList.{ChangeList, value_at, last_change}
use Rattle.agg_model.specs.declared.change.Act.{Act}
use Rattle.hot_keeper.specs.Windows.{act_of_change}
use Rattle.agg_model.specs.Contents.{times}
use Rattle.agg_model.specs.Pairs.{newest_word, held_value, value_over}
use Rattle.collate_step.specs.Groups.{GroupFiles, group_of, kv_of, v_of, groups_for, pairs_of, pairs_for, IsDomain}
use Rattle.content_laws.specs.Looks.{numbers_in, before_in}
use Rattle.domain_core.specs.KvFile.{TaggedPairs}
use Rattle.history_core.specs.VFile.{TaggedBefores}
use Rattle.history_core.specs.Befores.{value_before}
use Rattle.inverted_index.specs.EfFile as ef
use Rattle.window_laws.specs.Parts.{Part, part_of, ArePartsBelow, changes_from, newest_in, numbers_of, word_before, first_before, value_found, is_between, numbers_between}
use Rattle.window_laws.proofs.Values.{value-covered}
use Rattle.window_laws.proofs.Numbers.{numbers-covered}
use Rattle.window_reads.specs.Standing.{Stand, befores_of, part_in, parts_for}
use Rattle.window_reads.specs.Folds.{word_before_in, first_word, numbers_in_groups, all_numbers, value_left}

-- ---- answers that are passed on

pub told_so : {A : Type 0} (o : Option A) (x : A) (P : A → Type 0) → o ≡ Some x → IfSome o P → P x
told_so o x P is h = subst (λ o. IfSome o P) is h

pub if_some_all : {A : Type 0} (o : Option A) (P : A → Type 0) → ((x : A) → P x) → IfSome o P
if_some_all None P h = tt
if_some_all (Some x) P h = h x

pub if_some_then : {A : Type 0} (o : Option A) (P Q : A → Type 0) → ((x : A) → P x → Q x) → IfSome o P → IfSome o Q
if_some_then None P Q so h = tt
if_some_then (Some x) P Q so h = so x h

-- ---- two words for one look

before-same : (bs : List Before) (k : List ℕ) (t : ℕ) → value_before bs k t ≡ before_in bs k t
before-same [] k t = refl
before-same (b ∷ bs) k t = ap (λ o. cond (pointwise nat_eq b.key k && b.tx == t) (Some b.value) o) (before-same bs k t)

numbers-same : (ts : List Times) (k : List ℕ) → ef.numbers_of ts k ≡ numbers_in ts k
numbers-same [] k = refl
numbers-same (t ∷ ts) k = ap (λ o. cond (pointwise nat_eq t.key k) (Some t.items) o) (numbers-same ts k)

word-same-by : (bs : List Before) (k : List ℕ) (n : ℕ) (o : Option (List ℕ))
    → option_and_then (λ t. value_before bs k t) (option_and_then (find (nat_le n)) o) ≡ option_and_then (λ t. before_in bs k t) (find (nat_le n) (unwrap_or o []))
word-same-by bs k n None = refl
word-same-by bs k n (Some ns) = by (find (nat_le n) ns)
  where
    by : (p : Option ℕ) → option_and_then (λ t. value_before bs k t) p ≡ option_and_then (λ t. before_in bs k t) p
    by None = refl
    by (Some t) = before-same bs k t

pub word-same : (size : ℕ) (g : GroupFiles) (k : List ℕ) (n : ℕ) → word_before_in g k n ≡ word_before (part_in size g) k n
word-same size g k n =
    word-same-by (befores_of g) k n (ef.numbers_of g.ef.lists k)
    ∙ ap (λ o. option_and_then (λ t. before_in (befores_of g) k t) (find (nat_le n) (unwrap_or o []))) (numbers-same g.ef.lists k)

module _ (size : ℕ) (e : Entity) (k : List ℕ) where
  first-by : (n : ℕ) (g : GroupFiles) (fs : List GroupFiles) (rest : Option (List ℕ)) (t u : Bool) → rest ≡ first_before (map (part_in size) fs) k n → nat_le (g.range.to * size) n ≡ u
      → option_or (cond t (cond u None (word_before_in g k n)) None) rest ≡ first_before (map (part_in size) (cond t (g ∷ fs) fs)) k n
  first-by n g fs rest true true is late = is ∙ ap (λ u. cond u (first_before (map (part_in size) fs) k n) (option_or (word_before (part_in size g) k n) (first_before (map (part_in size) fs) k n))) (sym late)
  first-by n g fs rest true false is late =
      (λ i. option_or (word-same size g k n i) (is i))
      ∙ ap (λ u. cond u (first_before (map (part_in size) fs) k n) (option_or (word_before (part_in size g) k n) (first_before (map (part_in size) fs) k n))) (sym late)
  first-by n g fs rest false u is late = is

  first-same : (n : ℕ) (gs : List GroupFiles) → first_word size e k n gs ≡ first_before (parts_for size e gs) k n
  first-same n [] = refl
  first-same n (g ∷ gs) =
      first-by n g (groups_for e gs) (first_word size e k n gs) (entity_number g.entity == entity_number e) (nat_le (g.range.to * size) n) (first-same n gs) refl

  kvs : (gs : List GroupFiles) → map (λ p. p.kv) (map (part_in size) gs) ≡ map pairs_of gs
  kvs [] = refl
  kvs (g ∷ gs) = ap (λ l. pairs_of g ∷ l) (kvs gs)

  newest-same : (gs : List GroupFiles) → newest_word (pairs_for e gs) k ≡ newest_in (parts_for size e gs) k
  newest-same gs = ap (λ fs. newest_word fs k) (sym (kvs (groups_for e gs)))

  -- what a read below the end of the files finds
  pub before-end : (n : ℕ) (gs : List GroupFiles) (word : Option (List ℕ)) → word ≡ option_or (first_word size e k n gs) (newest_word (pairs_for e gs) k)
      → held_value word ≡ held_value (option_or (first_before (parts_for size e gs) k n) (newest_in (parts_for size e gs) k))
  before-end n gs word is = ap held_value (is ∙ (λ i. option_or (first-same n gs i) (newest-same gs i)))

  pub at-end : (gs : List GroupFiles) → held_value (newest_word (pairs_for e gs) k) ≡ held_value (newest_in (parts_for size e gs) k)
  at-end gs = ap held_value (newest-same gs)

  module _ (a b : ℕ) where
    numbers-by : (g : GroupFiles) (fs : List GroupFiles) (rest : List ℕ) (t : Bool) → rest ≡ numbers_between (map (part_in size) fs) k a b
        → cond t (filter (is_between a b) (unwrap_or (ef.numbers_of g.ef.lists k) [])) [] ++ rest ≡ numbers_between (map (part_in size) (cond t (g ∷ fs) fs)) k a b
    numbers-by g fs rest true is = (λ i. filter (is_between a b) (unwrap_or (numbers-same g.ef.lists k i) []) ++ is i)
    numbers-by g fs rest false is = is

    pub numbers-all : (gs : List GroupFiles) → numbers_in_groups e k a b gs ≡ numbers_between (parts_for size e gs) k a b
    numbers-all [] = refl
    numbers-all (g ∷ gs) = numbers-by g (groups_for e gs) (numbers_in_groups e k a b gs) (entity_number g.entity == entity_number e) (numbers-all gs)

-- ---- a list's groups as the laws of files see them

-- what the files hold, where the entity is a domain
abbrev part_if : ChangeList → Entity → Range → Bool → Part
part_if list e r t = record {
  from = r.from * list.size;
  to = r.to * list.size;
  kv = unwrap_or (option_map (λ (f : TaggedPairs). f.pairs) (cond t (Some (kv_of list e r)) None)) [];
  v = unwrap_or (option_map (λ (f : TaggedBefores). f.befores) (cond t (Some (v_of list e r)) None)) [];
  ef = (group_of list e r).ef.lists;
}

part-of-group : (list : ChangeList) (e : Entity) (r : Range) → IsDomain e → part_in list.size (group_of list e r) ≡ part_of list.size list.changes e r
part-of-group list e r domain = ap (λ t. part_if list e r t) domain

parts-of : (list : ChangeList) (e : Entity) (ranges : List Range) → IsDomain e → map (part_in list.size) (map (group_of list e) ranges) ≡ map (part_of list.size list.changes e) ranges
parts-of list e [] domain = refl
parts-of list e (r ∷ rs) domain = λ i. part-of-group list e r domain i ∷ parts-of list e rs domain i

-- the lists alone are the same for every entity
lists-of : (list : ChangeList) (e : Entity) (k : List ℕ) (a b : ℕ) (ranges : List Range)
    → numbers_between (map (part_in list.size) (map (group_of list e) ranges)) k a b ≡ numbers_between (map (part_of list.size list.changes e) ranges) k a b
lists-of list e k a b [] = refl
lists-of list e k a b (r ∷ rs) = ap (λ l. filter (is_between a b) (numbers_of (part_of list.size list.changes e r) k) ++ l) (lists-of list e k a b rs)

module _ (list : ChangeList) (files : List GroupFiles) (told : Option (List Change)) (size end at : ℕ) (stand : Stand list files told size end at) where
  abbrev behind : List Change
  behind = changes_from (end * list.size) list.changes

  -- files and window tell each value
  pub stand-value : (e : Entity) (k : List ℕ) (n : ℕ) → IsDomain e → value_at list.changes e k n ≡ value_found (parts_for size e files) behind e k (end * size) n
  stand-value e k n domain =
      let ranges = stand.files_are e in
      let are : ArePartsBelow list e end (parts_for list.size e files) = (ranges.0, (ranges.1.0, ap (map (part_in list.size)) ranges.1.1 ∙ parts-of list e ranges.0 domain)) in
      value-covered list e k end n (parts_for list.size e files) stand.are_changes are
      ∙ ap (λ s. value_found (parts_for s e files) behind e k (end * s) n) stand.size_is

  -- and the numbers of each key
  pub stand-numbers : (e : Entity) (k : List ℕ) (a b : ℕ) → times list.changes e k a b ≡ all_numbers e files behind k a b
  stand-numbers e k a b =
      let ranges = stand.files_are e in
      numbers-covered list e k end a b (map (part_of list.size list.changes e) ranges.0) stand.are_changes (ranges.0, (ranges.1.0, refl))
      ∙ ap (λ ns. ns ++ times behind e k a b)
      (sym (numbers-all list.size e k a b files ∙ ap (λ gs. numbers_between (map (part_in list.size) gs) k a b) ranges.1.1 ∙ lists-of list e k a b ranges.0))

-- ---- what a read finds, as the laws of files say it

module _ (size : ℕ) (e : Entity) (k : List ℕ) (n end : ℕ) (gs : List GroupFiles) (cs : List Change) where
  pub found-below : (word : Option (List ℕ)) → n < end → word ≡ option_or (first_word size e k n gs) (newest_word (pairs_for e gs) k) → held_value word ≡ value_found (parts_for size e gs) cs e k end n
  found-below word low is =
      before-end size e k n gs word is
      ∙ ap (λ t. cond t (held_value (option_or (first_before (parts_for size e gs) k n) (newest_in (parts_for size e gs) k))) (value_over (held_value (newest_in (parts_for size e gs) k)) (last_change cs e k n))) (sym (lt-ltb n end low))

  left-by : (found : Option (List ℕ)) (o : Option Change) → value_left found (option_map (λ (c : Change). c.act) o) ≡ value_over found o
  left-by found None = refl
  left-by found (Some c) = refl

  pub found-behind : (act : Option Act) → end ≤ n → act ≡ act_of_change (last_change cs e k n) → value_left (held_value (newest_word (pairs_for e gs) k)) act ≡ value_found (parts_for size e gs) cs e k end n
  found-behind act high is =
      (λ i. value_left (at-end size e k gs i) (is i))
      ∙ left-by (held_value (newest_in (parts_for size e gs) k)) (last_change cs e k n)
      ∙ ap (λ t. cond t (held_value (option_or (first_before (parts_for size e gs) k n) (newest_in (parts_for size e gs) k))) (value_over (held_value (newest_in (parts_for size e gs) k)) (last_change cs e k n))) (sym (le-ltb n end high))
