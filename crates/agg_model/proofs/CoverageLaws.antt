-- Laws of the look into files and hot changes: together they have each value from the end of the files on.
use Rattle.std.specs.Prelude.{◌≡◌, ℕ, zero, suc, ◌+◌, ◌*◌, ◌≤◌, ◌<◌, ◌==◌, ◌&&◌, ◌||◌, nat_eq, nat_le, nat_lt, Bool, true, false, cond, List, [], ◌∷◌, ◌++◌, length, map, All, Option, Some, None, IfSome, is_some, refl}
use Rattle.std.proofs.Common.{add-one, sym, ◌∙◌, ap, arith, lt-ltb, le-leb, leb-true, ltb-true, leb-false, eqb-true}
use Rattle.std.specs.Option.{option_or, option_and_then}
use Rattle.std.specs.List.{filter, list_any}
use Rattle.std.specs.Cmp.{second_so}
use Rattle.std.specs.Cmp.Lexicographic.{pointwise, bytes_decides}
use Rattle.std.proofs.lemmas.Bool.{lt-leb}
use Rattle.std.proofs.lemmas.List.Sorted.{list_any-IsPermutation}
use Rattle.agg_model.specs.declared.entity.Entity.{Entity}
use Rattle.agg_model.specs.declared.change.Change.{Change}
use Rattle.agg_model.specs.declared.contents.Pair.{Pair}
use Rattle.agg_model.specs.Entity.{entity_number}
use Rattle.agg_model.specs.Place.{place, is_of}
use Rattle.agg_model.specs.Batch.{AscendFrom, IsChange, IsValue}
use Rattle.agg_model.specs.ChangeList.{last_where, last_change, value_at, value_of, is_of_before}
use Rattle.agg_model.specs.Arranged.{arranged, last_before}
use Rattle.agg_model.proofs.ArrangedLaws.{option_or-none, option_or-assoc, last_where-passes, only_of, last_change-arranged, arranged-IsPermutation}
use Rattle.agg_model.proofs.GrownLaws.{late, none_late, AscendFrom-All}
use Rattle.agg_model.specs.Contents.{is_within, is_of_within, changes_over, goes_on, keys_of, word_of, pair_at, kept_keys, kv_contents}
use Rattle.agg_model.proofs.ContentsLaws.{kv_contents-later, value_at-fits}
use Rattle.agg_model.specs.Pairs.{word_in, newest_word, held_value, step_files, hot_change, value_over, only_from}

-- ---- the last change of a key: hot, or before the hot ones

module _ (e : Entity) (k : List ℕ) (from n : ℕ) (order : from ≤ n) where
  -- from `from` on a change is hot or not before n
  hot-by : (c : Change) (t : Bool) → from ≤ c.tx → (t && (nat_le from c.tx && nat_lt c.tx n)) ≡ (t && nat_lt c.tx n)
  hot-by c true h = ap (λ t. t && nat_lt c.tx n) (le-leb from c.tx h)
  hot-by c false h = refl

  hot : (c : Change) → from ≤ c.tx → is_of_within e k from n c ≡ is_of_before e k n c
  unfolding is_of_within is_of_before
  hot c h = hot-by c (is_of e k c) h

  cold-by : (c : Change) (t : Bool) → c.tx < from → (t && (nat_le from c.tx && nat_lt c.tx n)) ≡ false
  cold-by c true h = ap (λ t. t && nat_lt c.tx n) (lt-leb from c.tx h)
  cold-by c false h = refl

  cold : (c : Change) → c.tx < from → is_of_within e k from n c ≡ false
  unfolding is_of_within
  cold c h = cold-by c (is_of e k c) h

  early-by : (c : Change) (t : Bool) → c.tx < from → (t && nat_lt c.tx from) ≡ (t && nat_lt c.tx n)
  early-by c true h = lt-ltb c.tx from h ∙ sym (lt-ltb c.tx n (lt_chain h order))
    where
      lt_chain : {x y z : ℕ} → x < y → y ≤ z → x < z
      lt_chain h g = omega arith
  early-by c false h = refl

  early : (c : Change) → c.tx < from → is_of_before e k from c ≡ is_of_before e k n c
  unfolding is_of_before
  early c h = early-by c (is_of e k c) h

  abbrev if_hot : Change → Option Change
  if_hot c = cond (is_of_within e k from n c) (Some c) None

  abbrev if_before : ℕ → Change → Option Change
  if_before m c = cond (is_of_before e k m c) (Some c) None

  abbrev last_hot : List Change → Option Change
  last_hot cs = last_where (is_of_within e k from n) cs

  abbrev last_of : ℕ → List Change → Option Change
  last_of m cs = last_where (is_of_before e k m) cs

  split-by : (c : Change) (cs : List Change) (t : Bool) → nat_le from c.tx ≡ t → AscendFrom c.tx cs → last_of n cs ≡ option_or (last_hot cs) (last_of from cs)
      → option_or (last_of n cs) (if_before n c) ≡ option_or (option_or (last_hot cs) (if_hot c)) (option_or (last_of from cs) (if_before from c))
  split-by c cs true is up rest =
      let low = leb-true from c.tx is in
      let none = none_late e k from cs (λ i z below. le_chain low (AscendFrom-All c.tx cs up i z below)) in
      let before_from = late e k from c low in
      ap (λ o. option_or o (if_before n c)) (rest ∙ ap (option_or (last_hot cs)) none ∙ option_or-none (last_hot cs))
      ∙ ap (λ t. option_or (last_hot cs) (cond t (Some c) None)) (sym (hot c low))
      ∙ sym (option_or-none (option_or (last_hot cs) (if_hot c)))
      ∙ (λ i. option_or (option_or (last_hot cs) (if_hot c)) (option_or (sym none i) (cond (sym before_from i) (Some c) None)))
    where
      le_chain : {x y z : ℕ} → x ≤ y → y ≤ z → x ≤ z
      le_chain h g = omega arith
  split-by c cs false is up rest =
      let high = leb-false from c.tx is in
      ap (λ o. option_or o (if_before n c)) rest
      ∙ option_or-assoc (last_hot cs) (last_of from cs) (if_before n c)
      ∙ (λ i. option_or (sym (option_or-none (last_hot cs)) i) (option_or (last_of from cs) (cond (sym (early c high) i) (Some c) None)))
      ∙ ap (λ t. option_or (option_or (last_hot cs) (cond t (Some c) None)) (option_or (last_of from cs) (if_before from c))) (sym (cold c high))

  -- the last change below n: the last hot one, or else the last below the hot ones
  pub last_where-split : (least : ℕ) (cs : List Change) → AscendFrom least cs → last_of n cs ≡ option_or (last_hot cs) (last_of from cs)
  last_where-split least [] up = refl
  last_where-split least (c ∷ cs) up =
      split-by c cs (nat_le from c.tx) refl up.1 (last_where-split c.tx cs up.1)

value_over-or : (hot before : Option Change) → option_and_then value_of (option_or hot before) ≡ value_over (option_and_then value_of before) hot
value_over-or None before = refl
value_over-or (Some c) before = refl

-- the value just before n: what the last hot change left, or else the value just before the hot ones
pub value_at-split : (cs : List Change) (e : Entity) (k : List ℕ) (from n : ℕ) → from ≤ n → AscendFrom 0 cs
    → value_at cs e k n ≡ value_over (value_at cs e k from) (hot_change cs e k from n)
unfolding value_at last_change hot_change
value_at-split cs e k from n order up =
    ap (option_and_then value_of) (last_where-split e k from n order 0 cs up)
    ∙ value_over-or (last_where (is_of_within e k from n) cs) (last_where (is_of_before e k from) cs)

-- ---- the last hot change by a look at the sorted changes

module _ (e : Entity) (k : List ℕ) (from n : ℕ) where
  first_two : (t u v : Bool) → (t && (u && v)) ≡ true → (t && u) ≡ true
  first_two true true v h = refl
  first_two true false v h = h
  first_two false u v h = h

  hot_passes : (c : Change) → is_of_within e k from n c ≡ true → (is_of e k c && nat_le from c.tx) ≡ true
  unfolding is_of_within
  hot_passes c h = first_two (is_of e k c) (nat_le from c.tx) (nat_lt c.tx n) h

  early_fails-by : (t : Bool) (c : Change) → c.tx < from → (t && nat_le from c.tx) ≡ false
  early_fails-by true c h = lt-leb from c.tx h
  early_fails-by false c h = refl

  early_fails : (c : Change) → is_of_before e k from c ≡ true → (is_of e k c && nat_le from c.tx) ≡ false
  unfolding is_of_before
  early_fails c h = early_fails-by (is_of e k c) c (ltb-true c.tx from (second_so (is_of e k c) (nat_lt c.tx from) h))

  only_from-or : (hot before : Option Change) → IfSome hot (λ c. is_of_within e k from n c ≡ true) → IfSome before (λ c. is_of_before e k from c ≡ true)
      → only_from from e k (option_or hot before) ≡ hot
  only_from-or None None h g = refl
  only_from-or None (Some c) h g = ap (λ t. cond t (Some c) None) (early_fails c g)
  only_from-or (Some c) before h g = ap (λ t. cond t (Some c) None) (hot_passes c h)

  only_from-only_of-by : (c : Change) (t : Bool) → is_of e k c ≡ t → only_from from e k (cond t (Some c) None) ≡ cond (t && nat_le from c.tx) (Some c) None
  only_from-only_of-by c true is = ap (λ t. cond (t && nat_le from c.tx) (Some c) None) is
  only_from-only_of-by c false is = refl

  only_from-only_of : (o : Option Change) → only_from from e k (only_of e k o) ≡ only_from from e k o
  only_from-only_of None = refl
  only_from-only_of (Some c) = only_from-only_of-by c (is_of e k c) refl

  hot_change-last : (cs : List Change) → from ≤ n → AscendFrom 0 cs → hot_change cs e k from n ≡ only_from from e k (last_change cs e k n)
  unfolding hot_change last_change
  hot_change-last cs order up =
      sym (ap (only_from from e k) (last_where-split e k from n order 0 cs up)
      ∙ only_from-or (last_where (is_of_within e k from n) cs) (last_where (is_of_before e k from) cs)
      (last_where-passes (is_of_within e k from n) cs) (last_where-passes (is_of_before e k from) cs))

  -- it is the last sorted change before the place of n, if that is one of this key and hot
  pub hot_change-arranged : (cs : List Change) → from ≤ n → AscendFrom 0 cs → hot_change cs e k from n ≡ only_from from e k (last_before (place e k n) (arranged cs))
  hot_change-arranged cs order up =
      hot_change-last cs order up
      ∙ ap (only_from from e k) (last_change-arranged e k n cs up)
      ∙ only_from-only_of (last_before (place e k n) (arranged cs))

-- ---- the word of a key in a file

and_false : (t : Bool) → (t && false) ≡ false
and_false true = refl
and_false false = refl

and_true : (t : Bool) → (t && true) ≡ t
and_true true = refl
and_true false = refl

twice : (t u : Bool) → (t || (t || u)) ≡ (t || u)
twice true u = refl
twice false u = refl

module _ (k : List ℕ) where
  abbrev is_key : List ℕ → Bool
  is_key l = pointwise nat_eq l k

  abbrev has_key : Change → Bool
  has_key c = pointwise nat_eq c.key k

  any_filtered-by : (p : List ℕ → Bool) (l : List ℕ) (ls : List (List ℕ)) (t u : Bool) → is_key l ≡ t → p l ≡ u → list_any is_key (filter p ls) ≡ (list_any is_key ls && p k)
      → list_any is_key (cond u (l ∷ filter p ls) (filter p ls)) ≡ ((t || list_any is_key ls) && p k)
  any_filtered-by p l ls true true is kept rest =
      ap (λ s. s || list_any is_key (filter p ls)) is ∙ sym (ap p (sym ((bytes_decides l k).0 is)) ∙ kept)
  any_filtered-by p l ls true false is kept rest =
      let left = ap p (sym ((bytes_decides l k).0 is)) ∙ kept in
      rest ∙ ap (λ s. list_any is_key ls && s) left ∙ and_false (list_any is_key ls) ∙ sym left
  any_filtered-by p l ls false true is kept rest = ap (λ s. s || list_any is_key (filter p ls)) is ∙ rest
  any_filtered-by p l ls false false is kept rest = rest

  any_filtered : (p : List ℕ → Bool) (ls : List (List ℕ)) → list_any is_key (filter p ls) ≡ (list_any is_key ls && p k)
  any_filtered p [] = refl
  any_filtered p (l ∷ ls) = any_filtered-by p l ls (is_key l) (p l) refl refl (any_filtered p ls)

  absorbed : (c : Change) (rows : List Change) → goes_on c.key rows ≡ true → (is_key c.key || list_any has_key rows) ≡ list_any has_key rows
  absorbed c [] is = cc
  absorbed c (d ∷ ds) is =
      ap (λ l. is_key l || (is_key d.key || list_any has_key ds)) ((bytes_decides c.key d.key).0 is)
      ∙ twice (is_key d.key) (list_any has_key ds)

  any_keys-by : (c : Change) (rows : List Change) (t : Bool) → goes_on c.key rows ≡ t → list_any is_key (keys_of rows) ≡ list_any has_key rows
      → list_any is_key (cond t (keys_of rows) (c.key ∷ keys_of rows)) ≡ (is_key c.key || list_any has_key rows)
  any_keys-by c rows true is rest = rest ∙ sym (absorbed c rows is)
  any_keys-by c rows false is rest = ap (λ s. is_key c.key || s) rest

  any_keys : (rows : List Change) → list_any is_key (keys_of rows) ≡ list_any has_key rows
  any_keys [] = refl
  any_keys (c ∷ rows) = any_keys-by c rows (goes_on c.key rows) refl (any_keys rows)

  any_within-by : (c : Change) (found : List Change) (one two any : Bool) → list_any has_key found ≡ any
      → list_any has_key (cond (one && two) (c ∷ found) found) ≡ (((one && has_key c) && two) || any)
  any_within-by c found true true any rest =
      ap (λ s. has_key c || s) rest ∙ ap (λ s. s || any) (sym (and_true (has_key c)))
  any_within-by c found true false any rest = rest ∙ ap (λ s. s || any) (sym (and_false (has_key c)))
  any_within-by c found false two any rest = rest

  any_within : (e : Entity) (from to : ℕ) (cs : List Change) → list_any has_key (filter (is_within e from to) cs) ≡ list_any (is_of_within e k from to) cs
  unfolding is_within is_of_within is_of
  any_within e from to [] = refl
  any_within e from to (c ∷ cs) =
      any_within-by c (filter (is_within e from to) cs) (entity_number c.entity == entity_number e) (nat_le from c.tx && nat_lt c.tx to)
      (list_any (is_of_within e k from to) cs) (any_within e from to cs)

  any_last-by : (c : Change) (o : Option Change) (t : Bool) → (t || is_some o) ≡ is_some (option_or o (cond t (Some c) None))
  any_last-by c None true = refl
  any_last-by c None false = refl
  any_last-by c (Some d) true = refl
  any_last-by c (Some d) false = refl

  any_last : (p : Change → Bool) (cs : List Change) → list_any p cs ≡ is_some (last_where p cs)
  any_last p [] = refl
  any_last p (c ∷ cs) = ap (λ s. p c || s) (any_last p cs) ∙ any_last-by c (last_where p cs) (p c)

  -- a key is one of those that changed where it has a last change there
  pub any_changed : (size : ℕ) (cs : List Change) (e : Entity) (a b : ℕ) → list_any is_key (keys_of (changes_over size cs e a b)) ≡ is_some (hot_change cs e k (a * size) (b * size))
  unfolding changes_over hot_change
  any_changed size cs e a b =
      let within = filter (is_within e (a * size) (b * size)) cs in
      any_keys (arranged within)
      ∙ sym (list_any-IsPermutation has_key within (arranged within) (arranged-IsPermutation within))
      ∙ any_within e (a * size) (b * size) cs
      ∙ any_last (is_of_within e k (a * size) (b * size)) cs

  word_in-pairs-by : (cs : List Change) (e : Entity) (n : ℕ) (l : List ℕ) (ls : List (List ℕ)) (t : Bool) → is_key l ≡ t
      → word_in (map (pair_at cs e n) ls) k ≡ cond (list_any is_key ls) (Some (word_of (value_at cs e k n))) None
      → cond t (Some (word_of (value_at cs e l n))) (word_in (map (pair_at cs e n) ls) k) ≡ cond (t || list_any is_key ls) (Some (word_of (value_at cs e k n))) None
  word_in-pairs-by cs e n l ls true is rest = ap (λ l. Some (word_of (value_at cs e l n))) ((bytes_decides l k).0 is)
  word_in-pairs-by cs e n l ls false is rest = rest

  word_in-pairs : (cs : List Change) (e : Entity) (n : ℕ) (ls : List (List ℕ)) → word_in (map (pair_at cs e n) ls) k ≡ cond (list_any is_key ls) (Some (word_of (value_at cs e k n))) None
  word_in-pairs cs e n [] = refl
  word_in-pairs cs e n (l ∷ ls) = word_in-pairs-by cs e n l ls (is_key l) refl (word_in-pairs cs e n ls)

  any_kept-by : (p : List ℕ → Bool) (ls : List (List ℕ)) (t : Bool) → list_any is_key (cond t (filter p ls) ls) ≡ cond t (list_any is_key ls && p k) (list_any is_key ls)
  any_kept-by p ls true = any_filtered p ls
  any_kept-by p ls false = refl

  -- a file has a key where that changed there; from step 0 on also only where it has a value at the end
  pub word_in-kv_contents : (size : ℕ) (cs : List Change) (e : Entity) (a b : ℕ) → let changed = is_some (hot_change cs e k (a * size) (b * size)) in let value = value_at cs e k (b * size) in
      word_in (kv_contents size cs e a b) k ≡ cond (cond (a == 0) (changed && is_some value) changed) (Some (word_of value)) None
  unfolding kv_contents
  word_in-kv_contents size cs e a b =
      let n = b * size in
      let p = λ (k : List ℕ). is_some (value_at cs e k n) in
      let keys = keys_of (changes_over size cs e a b) in
      let word = Some (word_of (value_at cs e k n)) in
      word_in-pairs cs e n (kept_keys cs e n a keys)
      ∙ ap (λ t. cond t word None) (any_kept-by p keys (a == 0))
      ∙ ap (λ t. cond (cond (a == 0) (t && p k) t) word None) (any_changed size cs e a b)

  -- ---- the newest word of files

  or_assoc : (x y z : Option (List ℕ)) → option_or (option_or x y) z ≡ option_or x (option_or y z)
  or_assoc None y z = refl
  or_assoc (Some w) y z = refl

  or_none : (x : Option (List ℕ)) → option_or x None ≡ x
  or_none None = refl
  or_none (Some w) = refl

  pub newest_word-push : (files : List (List Pair)) (file : List Pair) → newest_word (files ++ file ∷ []) k ≡ option_or (word_in file k) (newest_word files k)
  newest_word-push [] file = sym (or_none (word_in file k))
  newest_word-push (first ∷ files) file =
      ap (λ o. option_or o (word_in first k)) (newest_word-push files file)
      ∙ or_assoc (word_in file k) (newest_word files k) (word_in first k)

held-word : (o : Option (List ℕ)) → IfSome o (λ w. 1 ≤ length w) → held_value (Some (word_of o)) ≡ o
held-word None h = refl
held-word (Some []) h = absurd (omega arith)
held-word (Some (b ∷ bs)) h = refl

-- one file more: what it has of the key counts, and else what the files before it have
covered-step : (hot : Option Change) (first : Bool) (value found : Option (List ℕ)) → IfSome value (λ w. 1 ≤ length w) → (first ≡ true → found ≡ None) → value ≡ value_over (held_value found) hot
    → value ≡ held_value (option_or (cond (cond first (is_some hot && is_some value) (is_some hot)) (Some (word_of value)) None) found)
covered-step None true value found some none is = is
covered-step None false value found some none is = is
covered-step (Some c) true None found some none is = ap held_value (sym (none refl))
covered-step (Some c) true (Some w) found some none is = sym (held-word (Some w) some)
covered-step (Some c) false value found some none is = sym (held-word value some)

at_least : {n m : ℕ} → n ≡ 0 → n ≤ m
at_least h = omega arith

value_at-start : (cs : List Change) (e : Entity) (k : List ℕ) (n : ℕ) → n ≡ 0 → value_at cs e k n ≡ None
unfolding value_at last_change
value_at-start cs e k n is = ap (option_and_then value_of) (none_late e k n cs (λ i z below. at_least is))

module _ (size : ℕ) (cs : List Change) (e : Entity) where
  not_empty : (o : Option (List ℕ)) → IfSome o IsValue → IfSome o (λ w. 1 ≤ length w)
  not_empty None h = tt
  not_empty (Some w) h = h.not_empty

  none_found : (k : List ℕ) (f : ℕ) → f ≡ 0 → newest_word (step_files size cs e f) k ≡ None
  none_found k zero h = refl
  none_found k (suc f) h = absurd (omega arith)

  -- the files of the first steps tell each value just before the end of them
  pub value_at-covered : (k : List ℕ) (f : ℕ) → AscendFrom 0 cs → All IsChange cs → value_at cs e k (f * size) ≡ held_value (newest_word (step_files size cs e f) k)
  value_at-covered k zero up fit = value_at-start cs e k (0 * size) (omega arith)
  value_at-covered k (suc f) up fit =
      let n = (f + 1) * size in
      let from = f * size in
      let hot = hot_change cs e k from n in
      let order : from ≤ n = omega arith in
      let found = newest_word (step_files size cs e f) k in
      ap (λ m. value_at cs e k (m * size)) (sym (add-one f))
      ∙ covered-step hot (f == 0) (value_at cs e k n) found
      (not_empty (value_at cs e k n) (value_at-fits cs e k n fit))
      (λ is. none_found k f (eqb-true f 0 is))
      (value_at-split cs e k from n order up ∙ ap (λ v. value_over v hot) (value_at-covered k f up fit))
      ∙ ap (λ o. held_value (option_or o found)) (sym (word_in-kv_contents k size cs e f (f + 1)))
      ∙ ap held_value (sym (newest_word-push k (step_files size cs e f) (kv_contents size cs e f (f + 1))))

  -- so each value from there on is told by the last sorted change before its place and by the files
  pub value_at-files : (k : List ℕ) (f n : ℕ) → f * size ≤ n → AscendFrom 0 cs → All IsChange cs
      → value_at cs e k n ≡ value_over (held_value (newest_word (step_files size cs e f) k)) (only_from (f * size) e k (last_before (place e k n) (arranged cs)))
  value_at-files k f n order up fit =
      value_at-split cs e k (f * size) n order up
      ∙ (λ i. value_over (value_at-covered k f up fit i) (hot_change-arranged e k (f * size) n cs order up i))

-- later changes leave the files of the first steps alone
pub step_files-later : (size : ℕ) (cs ds : List Change) (e : Entity) (f : ℕ) → All (λ d. f * size ≤ d.tx) ds → step_files size (cs ++ ds) e f ≡ step_files size cs e f
step_files-later size cs ds e zero late = refl
step_files-later size cs ds e (suc f) late =
    λ i. step_files-later size cs ds e f (λ j z below. lower (late j z below)) i ++ kv_contents-later size cs ds e f (f + 1) (λ j z below. same (late j z below)) i ∷ []
  where
    lower : {m : ℕ} → suc f * size ≤ m → f * size ≤ m
    lower h = omega arith

    same : {m : ℕ} → suc f * size ≤ m → (f + 1) * size ≤ m
    same h = omega arith
