-- What the groups that stand at a key tell of it is what all groups tell.
use Rattle.std.proofs.Common.{◌≡◌, ℕ, ◌*◌, ◌==◌, ◌||◌, ◌++◌, Bool, true, false, cond, List, [], ◌∷◌, map, Option, Some, None, refl, sym, ap, subst, ◌∙◌}
use Rattle.std.specs.Prelude.{nat_eq, nat_le, nat_lt, find, is_some, unwrap_or}
use Rattle.std.specs.Option.{option_or, option_and_then, option_map}
use Rattle.std.specs.List.{filter}
use Rattle.std.specs.Cmp.Lexicographic.{pointwise}
use Rattle.agg_model.specs.declared.change.Change.{Change}
use Rattle.agg_model.specs.declared.contents.Pair.{Pair}
use Rattle.agg_model.specs.declared.entity.Entity.{Entity}
use Rattle.agg_model.specs.declared.entity.Range.{Range}
use Rattle.agg_model.specs.declared.page.PageRow.{PageRow}
use Rattle.agg_model.specs.Entity.{is_domain_entity}
use Rattle.agg_model.specs.ChangeList.{ChangeList, value_at, last_change}
use Rattle.agg_model.specs.Contents.{kv_contents, ef_contents, keys_of, changes_over, pair_at, kept_keys, times, times_of}
use Rattle.agg_model.specs.Listed.{is_from}
use Rattle.agg_model.specs.Pairs.{KeysAscend, word_in, held_value, value_over}
use Rattle.agg_model.proofs.ContentsLaws.{keys_of-ascend, changes_over-KeysRise}
use Rattle.collate_step.specs.Groups.{GroupFiles, group_of, kv_of, groups_for, pairs_of, IsDomain}
use Rattle.domain_core.specs.KvFile.{TaggedPairs}
use Rattle.history_core.specs.Befores.{value_before}
use Rattle.inverted_index.specs.EfFile.{list_keys, numbers_of}
use Rattle.window_laws.specs.Pages.{row_at}
use Rattle.window_laws.specs.Parts.{changes_from, first_before, newest_in, value_found, is_between, numbers_between}
use Rattle.window_laws.specs.Parts as parts
use Rattle.window_reads.specs.Standing.{Stand, befores_of, part_in, parts_for}
use Rattle.window_reads.specs.Folds.{word_before_in, numbers_in_groups}
use Rattle.window_reads.proofs.Stands.{stand-value, stand-numbers, word-same, numbers-all}
use Rattle.window_pages.specs.Places.{Place, next_from, place_from, places_from, is_at}
use Rattle.window_pages.specs.Finds.{numbers_at, has_any, has_between, have_between, word_before, word_from, first_word, word_at, newest_word, value_at_places}
use Rattle.window_pages.specs.Standing.{StandFor, StandsAt, IsNotAbove, IsLeast}
use Rattle.window_pages.proofs.Places.{numbers-at}
use Rattle.window_pages.proofs.PageRows.{one_row}

-- ---- a key that has no numbers in a group has no pair there

pair-by : (t : Bool) (items value : List ℕ) (r s : Option (List ℕ)) → (r ≡ None → s ≡ None) → cond t (Some items) r ≡ None → cond t (Some value) s ≡ None
pair-by true items value r s rest h = cc
pair-by false items value r s rest h = rest h

kept-by : (u t : Bool) (cs : List Change) (e : Entity) (n : ℕ) (k x : List ℕ) (items : List ℕ) (r : Option (List ℕ)) (ks : List (List ℕ)) → t ≡ pointwise nat_eq x k
    → (r ≡ None → word_in (map (pair_at cs e n) ks) k ≡ None) → cond t (Some items) r ≡ None → word_in (map (pair_at cs e n) (cond u (x ∷ ks) ks)) k ≡ None
kept-by true t cs e n k x items r ks same rest h =
    (λ i. cond (sym same i) (Some (pair_at cs e n x).value) (word_in (map (pair_at cs e n) ks) k)) ∙ pair-by t items (pair_at cs e n x).value r (word_in (map (pair_at cs e n) ks) k) rest h
kept-by false true cs e n k x items r ks same rest h = cc
kept-by false false cs e n k x items r ks same rest h = rest h

module _ (cs : List Change) (e : Entity) (from to n : ℕ) (k : List ℕ) where
  no-pair : (p : List ℕ → Bool) (ks : List (List ℕ)) → numbers_of (map (times_of cs e from to) ks) k ≡ None → word_in (map (pair_at cs e n) (filter p ks)) k ≡ None
  no-pair p [] h = refl
  no-pair p (x ∷ ks) h =
      kept-by (p x) (pointwise nat_eq x k) cs e n k x (times cs e x from to) (numbers_of (map (times_of cs e from to) ks) k) (filter p ks) refl (no-pair p ks) h

  no-word : (ks : List (List ℕ)) → numbers_of (map (times_of cs e from to) ks) k ≡ None → word_in (map (pair_at cs e n) ks) k ≡ None
  no-word [] h = refl
  no-word (x ∷ ks) h =
      pair-by (pointwise nat_eq x k) (times cs e x from to) (pair_at cs e n x).value (numbers_of (map (times_of cs e from to) ks) k) (word_in (map (pair_at cs e n) ks) k) (no-word ks) h

  no-kept : (t : Bool) (ks : List (List ℕ)) → numbers_of (map (times_of cs e from to) ks) k ≡ None
      → word_in (map (pair_at cs e n) (cond t (filter (λ l. is_some (value_at cs e l n)) ks) ks)) k ≡ None
  no-kept true ks h = no-pair (λ l. is_some (value_at cs e l n)) ks h
  no-kept false ks h = no-word ks h

no-pair-in : (size : ℕ) (cs : List Change) (e : Entity) (a b : ℕ) (k : List ℕ) → numbers_of (ef_contents size cs e a b) k ≡ None → word_in (kv_contents size cs e a b) k ≡ None
unfolding ef_contents kv_contents
no-pair-in size cs e a b k h = no-kept cs e (a * size) (b * size) (b * size) k (a == 0) (keys_of (changes_over size cs e a b)) h

keys-lists : (cs : List Change) (e : Entity) (from to : ℕ) (ks : List (List ℕ)) → list_keys (map (times_of cs e from to) ks) ≡ ks
keys-lists cs e from to [] = refl
keys-lists cs e from to (k ∷ ks) = λ i. k ∷ keys-lists cs e from to ks i

pub keys-ascend : (size : ℕ) (cs : List Change) (e : Entity) (a b : ℕ) → KeysAscend (list_keys (ef_contents size cs e a b))
unfolding ef_contents
keys-ascend size cs e a b =
    let ks = keys_of (changes_over size cs e a b) in
    subst KeysAscend (sym (keys-lists cs e (a * size) (b * size) ks)) (keys_of-ascend (changes_over size cs e a b) (changes_over-KeysRise size cs e a b))

-- ---- group by group

has-append : (xs ys : List ℕ) → has_any (xs ++ ys) ≡ (has_any xs || has_any ys)
has-append [] ys = refl
has-append (x ∷ xs) ys = refl

module _ (list : ChangeList) (e : Entity) (first k : List ℕ) (from : is_from (Some first) k ≡ true) where
  abbrev group : Range → GroupFiles
  group r = group_of list e r

  numbers-here : (r : Range) → IsNotAbove k (next_from first (group r).ef.lists) → numbers_at (place_from first (group r)) k ≡ numbers_of (group r).ef.lists k
  numbers-here r low = numbers-at first k from (group r).ef.lists (keys-ascend list.size list.changes e r.from r.to) low

  no-pair-of : (r : Range) (t : Bool) → numbers_of (group r).ef.lists k ≡ None → word_in (unwrap_or (option_map (λ (f : TaggedPairs). f.pairs) (cond t (Some (kv_of list e r)) None)) []) k ≡ None
  no-pair-of r true none = no-pair-in list.size list.changes e r.from r.to k none
  no-pair-of r false none = refl

  word-by : (r : Range) (t : Bool) → is_at (next_from first (group r).ef.lists) k ≡ t → cond t (numbers_of (group r).ef.lists k) None ≡ numbers_of (group r).ef.lists k
      → cond t (word_in (pairs_of (group r)) k) None ≡ word_in (pairs_of (group r)) k
  word-by r true at is = refl
  word-by r false at is = sym (no-pair-of r (is_domain_entity e) (sym is))

  word-here : (r : Range) → IsNotAbove k (next_from first (group r).ef.lists) → word_at k (place_from first (group r)) ≡ word_in (pairs_of (group r)) k
  word-here r low = word-by r (is_at (next_from first (group r).ef.lists) k) refl (numbers-here r low)

  module _ (size : ℕ) where
    before-here : (n : ℕ) (r : Range) → IsNotAbove k (next_from first (group r).ef.lists) → word_before k n (place_from first (group r)) ≡ parts.word_before (part_in size (group r)) k n
    before-here n r low =
        ap (λ o. option_and_then (λ t. value_before (befores_of (group r)) k t) (option_and_then (find (nat_le n)) o)) (numbers-here r low)
        ∙ word-same size (group r) k n

    first-by : (u : Bool) (w x rest rest' : Option (List ℕ)) → w ≡ x → rest ≡ rest' → option_or (cond u None w) rest ≡ cond u rest' (option_or x rest')
    first-by true w x rest rest' is same = same
    first-by false w x rest rest' is same = λ i. option_or (is i) (same i)

    first-found : (n : ℕ) (rs : List Range) → IsLeast k (places_from first (map (group_of list e) rs)) → first_word size k n (places_from first (map (group_of list e) rs)) ≡ first_before (map (part_in size) (map (group_of list e) rs)) k n
    first-found n [] low = refl
    first-found n (r ∷ rs) low =
        first-by (nat_le (r.to * size) n) (word_before k n (place_from first (group r))) (parts.word_before (part_in size (group r)) k n)
        (first_word size k n (places_from first (map (group_of list e) rs))) (first_before (map (part_in size) (map (group_of list e) rs)) k n)
        (before-here n r low.0) (first-found n rs low.1)

    newest-found : (rs : List Range) → IsLeast k (places_from first (map (group_of list e) rs)) → newest_word k (places_from first (map (group_of list e) rs)) ≡ newest_in (map (part_in size) (map (group_of list e) rs)) k
    newest-found [] low = refl
    newest-found (r ∷ rs) low = λ i. option_or (newest-found rs low.1 i) (word-here r low.0 i)

    between-found : (a b : ℕ) (rs : List Range) → IsLeast k (places_from first (map (group_of list e) rs))
        → have_between k a b (places_from first (map (group_of list e) rs)) ≡ has_any (numbers_between (map (part_in size) (map (group_of list e) rs)) k a b)
    between-found a b [] low = refl
    between-found a b (r ∷ rs) low =
        (λ i. has_any (filter (is_between a b) (unwrap_or (numbers-here r low.0 i) [])) || between-found a b rs low.1 i)
        ∙ sym (has-append (filter (is_between a b) (unwrap_or (numbers_of (group r).ef.lists k) [])) (numbers_between (map (part_in size) (map (group_of list e) rs)) k a b))

    value-found-at : (cs : List Change) (end n : ℕ) (rs : List Range) → IsLeast k (places_from first (map (group_of list e) rs))
        → value_at_places size (places_from first (map (group_of list e) rs)) cs e k end n ≡ value_found (map (part_in size) (map (group_of list e) rs)) cs e k end n
    value-found-at cs end n rs low =
        λ i. cond (nat_lt n end) (held_value (option_or (first-found n rs low i) (newest-found rs low i))) (value_over (held_value (newest-found rs low i)) (last_change cs e k n))

-- ---- groups and window that stand for a list

module _ (list : ChangeList) (e : Entity) (groups : List GroupFiles) (told : Option (List Change)) (size end at : ℕ) (s : StandFor list e groups told size end at)
    (k : List ℕ) (places : List Place) (p : StandsAt k places groups) where
  abbrev behind : List Change
  behind = changes_from (end * list.size) list.changes

  abbrev ranges : List Range
  ranges = (s.stand.files_are e).0

  are-files : groups_for e s.files ≡ map (group_of list e) ranges
  are-files = (s.stand.files_are e).1.1

  are-groups : groups ≡ map (group_of list e) ranges
  are-groups = s.groups_are ∙ are-files

  are-places : places ≡ places_from p.first (map (group_of list e) ranges)
  are-places = p.are ∙ ap (places_from p.first) are-groups

  is-least : IsLeast k (places_from p.first (map (group_of list e) ranges))
  is-least = subst (IsLeast k) are-places p.least

  -- they tell its value
  pub value-at : (n : ℕ) → IsDomain e → value_at list.changes e k n ≡ value_at_places size places (changes_from (end * list.size) list.changes) e k (end * size) n
  value-at n domain =
      stand-value list s.files told size end at s.stand e k n domain
      ∙ ap (λ gs. value_found (map (part_in size) gs) behind e k (end * size) n) are-files
      ∙ sym (value-found-at list e p.first k p.from size behind (end * size) n ranges is-least)
      ∙ ap (λ ps. value_at_places size ps behind e k (end * size) n) (sym are-places)

  -- and whether it has numbers
  pub change-at : (a b : ℕ) → has_any (times list.changes e k a b) ≡ (have_between k a b places || has_any (times (changes_from (end * list.size) list.changes) e k a b))
  change-at a b =
      ap has_any (stand-numbers list s.files told size end at s.stand e k a b)
      ∙ has-append (numbers_in_groups e k a b s.files) (times behind e k a b)
      ∙ ap (λ t. t || has_any (times behind e k a b))
      (ap has_any (numbers-all size e k a b s.files ∙ ap (λ gs. numbers_between (map (part_in size) gs) k a b) are-files)
      ∙ sym (between-found list e p.first k p.from size a b ranges is-least)
      ∙ ap (have_between k a b) (sym are-places))

-- ---- the row of a key

module _ (k : List ℕ) (value : Option (List ℕ)) where
  pub row-none : (ns : List ℕ) → has_any ns ≡ false → [] ≡ row_at k value ns
  row-none [] none = refl
  row-none (n ∷ ns) none = cc

  pub row-some : (ns : List ℕ) → has_any ns ≡ true → one_row k value ∷ [] ≡ row_at k value ns
  row-some [] some = cc
  row-some (n ∷ ns) some = refl
