-- Laws of groups that are added to a set: what holds of each, and that those of a new step replace none.
use Rattle.std.proofs.Common.{◌≡◌, inl, ℕ, zero, suc, ◌+◌, ◌*◌, ◌<◌, ◌≤◌, Bool, true, false, not, cond, ◌&&◌, ◌||◌, nat_le, nat_lt, List, [], ◌∷◌, ◌++◌, map, length, take, get_or, All, Contains, refl, ap, subst, sym, ◌∙◌, arith}
use Rattle.std.specs.List.{filter}
use Rattle.std.proofs.lemmas.Bool.{lt-leb}
use Rattle.std.proofs.lemmas.List.{take_more, map-append}
use Rattle.std.proofs.lemmas.List.Elements.{All-nil, All-cons, All-push, All-head, All-tail, All-map, All-contains, All-contains_itself, Contains-push, Contains-append_left, Contains-append_right, Contains-get_or}
use Rattle.agg_model.specs.declared.entity.Entity.{Entity}
use Rattle.agg_model.specs.declared.entity.Range.{Range}
use Rattle.merge_ranges.specs.Cut.{IsCutFrom, end_from}
use Rattle.merge_ranges.proofs.CutLaws.{end_from-above}
use Rattle.visible_files.specs.declared.ids.GroupId.{GroupId}
use Rattle.visible_files.specs.Ids.{same_entity, place, ranges_of, placed, all_placed, replaced_by, covers, is_covered, added_ids, gone_ids, AreCuts, ExtendsOrMerges}
use Rattle.visible_files.specs.Sets.{SetOf, SetsOf, NextSet}
use Rattle.visible_files.proofs.Cuts.{aligned-some, same_entity-itself}
use Rattle.collate_step.specs.Groups.{GroupFiles}
use Rattle.state_store.specs.Settling.{id_of_group, IsOfStep, CanAdd, Follows}

-- ---- what is placed

head_in : {X : Type 0} (x : X) (xs : List X) → Contains (x ∷ xs) x
head_in x xs = Contains-append_left (x ∷ []) xs x (Contains-push [] x)

module _ {X : Type 0} (id_of : X → GroupId) where
  placed-All : (P : X → Type 0) (x : X) (ys : List X) → P x → All P ys → All P (placed id_of x ys)
  placed-All P x [] h all = All-cons P x [] h all
  placed-All P x (y ∷ ys) h all = by (nat_lt (place (id_of y)) (place (id_of x))) (placed-All P x ys h (All-tail P y ys all))
    where
      by : (t : Bool) → All P (placed id_of x ys) → All P (cond t (y ∷ placed id_of x ys) (x ∷ y ∷ ys))
      by true rest = All-cons P y (placed id_of x ys) (All-head P y ys all) rest
      by false rest = All-cons P x (y ∷ ys) h all

  -- what holds of the added ones and of the others holds of all
  pub all_placed-All : (P : X → Type 0) (xs ys : List X) → All P xs → All P ys → All P (all_placed id_of xs ys)
  all_placed-All P [] ys one all = all
  all_placed-All P (x ∷ xs) ys one all =
      all_placed-All P xs (placed id_of x ys) (All-tail P x xs one) (placed-All P x ys (All-head P x xs one) all)

  placed-first : (x : X) (ys : List X) → Contains (placed id_of x ys) x
  placed-first x [] = head_in x []
  placed-first x (y ∷ ys) = by (nat_lt (place (id_of y)) (place (id_of x))) (placed-first x ys)
    where
      by : (t : Bool) → Contains (placed id_of x ys) x → Contains (cond t (y ∷ placed id_of x ys) (x ∷ y ∷ ys)) x
      by true rest = Contains-append_right (y ∷ []) (placed id_of x ys) x rest
      by false rest = head_in x (y ∷ ys)

  placed-keeps : (x : X) (ys : List X) → All (Contains (placed id_of x ys)) ys
  placed-keeps x [] = All-nil (Contains (placed id_of x []))
  placed-keeps x (y ∷ ys) = by (nat_lt (place (id_of y)) (place (id_of x))) (placed-keeps x ys)
    where
      by : (t : Bool) → All (Contains (placed id_of x ys)) ys → All (Contains (cond t (y ∷ placed id_of x ys) (x ∷ y ∷ ys))) (y ∷ ys)
      by true rest =
          All-cons (Contains (y ∷ placed id_of x ys)) y ys (head_in y (placed id_of x ys))
          (λ k d below. Contains-append_right (y ∷ []) (placed id_of x ys) (get_or ys k d) (rest k d below))
      by false rest = λ k d below. Contains-append_right (x ∷ []) (y ∷ ys) (get_or (y ∷ ys) k d) (Contains-get_or (y ∷ ys) k d below)

  -- the others are there
  pub all_placed-keeps : (xs ys : List X) → All (Contains (all_placed id_of xs ys)) ys
  all_placed-keeps [] ys = All-contains_itself ys
  all_placed-keeps (x ∷ xs) ys = λ k d below.
      All-contains (Contains (all_placed id_of xs (placed id_of x ys))) (placed id_of x ys) (get_or ys k d) (all_placed-keeps xs (placed id_of x ys)) (placed-keeps x ys k d below)

  -- and so are the added ones
  pub all_placed-has : (xs ys : List X) → All (Contains (all_placed id_of xs ys)) xs
  all_placed-has [] ys = All-nil (Contains ys)
  all_placed-has (x ∷ xs) ys =
      All-cons (Contains (all_placed id_of xs (placed id_of x ys))) x xs
      (All-contains (Contains (all_placed id_of xs (placed id_of x ys))) (placed id_of x ys) x (all_placed-keeps xs (placed id_of x ys)) (placed-first x ys))
      (all_placed-has xs (placed id_of x ys))

-- ---- nothing is replaced

abbrev pub IsFrom : ℕ → GroupId → Type 0
IsFrom step id = step ≤ id.range.from

abbrev pub IsBefore : ℕ → GroupId → Type 0
IsBefore step id = id.range.from < step

no_middle : (s t : Bool) → ((s && false) && t) ≡ false
no_middle true t = refl
no_middle false t = refl

le_lt : {a b c : ℕ} → a ≤ b → c < a → c < b
le_lt h g = omega (arith, h, g)

not_covers : (step : ℕ) (a id : GroupId) → IsFrom step a → IsBefore step id → covers a id ≡ false
unfolding covers
not_covers step a id up low =
    ap (λ t. (same_entity a.entity id.entity && t) && nat_le id.range.to a.range.to) (lt-leb a.range.from id.range.from (le_lt up low))
    ∙ no_middle (same_entity a.entity id.entity) (nat_le id.range.to a.range.to)

not_covered : (step : ℕ) (ids : List GroupId) (id : GroupId) → All (IsFrom step) ids → IsBefore step id → is_covered ids id ≡ false
not_covered step [] id up low = refl
not_covered step (a ∷ ids) id up low =
    λ i. not_covers step a id (All-head (IsFrom step) a ids up) low i || not_covered step ids id (All-tail (IsFrom step) a ids up) low i

pub none_covered : (step : ℕ) (covering ids : List GroupId) → All (IsFrom step) covering → All (IsBefore step) ids → filter (is_covered covering) ids ≡ []
none_covered step covering [] up low = refl
none_covered step covering (id ∷ ids) up low =
    by (is_covered covering id) (not_covered step covering id up (All-head (IsBefore step) id ids low)) (none_covered step covering ids up (All-tail (IsBefore step) id ids low))
  where
    by : (t : Bool) → t ≡ false → filter (is_covered covering) ids ≡ [] → cond t (id ∷ filter (is_covered covering) ids) (filter (is_covered covering) ids) ≡ []
    by true is rest = cc is
    by false is rest = rest

pub all_stay : {X : Type 0} (id_of : X → GroupId) (step : ℕ) (covering : List GroupId) (xs : List X) → All (IsFrom step) covering → All (λ x. IsBefore step (id_of x)) xs
    → filter (λ x. not (is_covered covering (id_of x))) xs ≡ xs
all_stay id_of step covering [] up low = refl
all_stay id_of step covering (x ∷ xs) up low =
    by (is_covered covering (id_of x)) (not_covered step covering (id_of x) up (All-head (λ y. IsBefore step (id_of y)) x xs low)) (all_stay id_of step covering xs up (All-tail (λ y. IsBefore step (id_of y)) x xs low))
  where
    by : (t : Bool) → t ≡ false → filter (λ y. not (is_covered covering (id_of y))) xs ≡ xs → cond (not t) (x ∷ filter (λ y. not (is_covered covering (id_of y))) xs) (filter (λ y. not (is_covered covering (id_of y))) xs) ≡ x ∷ xs
    by true is rest = cc is
    by false is rest = ap (λ l. x ∷ l) rest

-- ---- what holds of the ranges of each entity

pub each_range : (Q : Range → Type 0) (ids : List GroupId) → ((e : Entity) → All Q (ranges_of e ids)) → All (λ id. Q id.range) ids
each_range Q [] all = All-nil (λ (id : GroupId). Q id.range)
each_range Q (x ∷ ids) all =
    let P : Bool → Type 0 = λ t. All Q (cond t (x.range ∷ ranges_of x.entity ids) (ranges_of x.entity ids)) in
    All-cons (λ (id : GroupId). Q id.range) x ids
    (All-head Q x.range (ranges_of x.entity ids) (subst P (same_entity-itself x.entity) (all x.entity)))
    (each_range Q ids (λ e. rest e (same_entity x.entity e) (all e)))
  where
    rest : (e : Entity) (t : Bool) → All Q (cond t (x.range ∷ ranges_of e ids) (ranges_of e ids)) → All Q (ranges_of e ids)
    rest e true h = All-tail Q x.range (ranges_of e ids) h
    rest e false h = h

cut_before : (a : ℕ) (cut : List Range) (end : ℕ) → IsCutFrom a cut → end_from a cut ≡ end → All (λ r. r.from < end) cut
cut_before a [] end h e = All-nil (λ (r : Range). r.from < end)
cut_before a (r ∷ rs) end h e =
    let some : r.from < r.to = aligned-some r h.1 in
    let up : r.to ≤ end_from r.to rs = end_from-above r.to rs h.2 in
    All-cons (λ (q : Range). q.from < end) r rs (omega (arith, some, up, e)) (cut_before r.to rs end h.2 e)

-- each group of a set begins before the set's end
pub ids_before : (ids : List GroupId) (end : ℕ) → AreCuts ids end → All (IsBefore end) ids
ids_before ids end cuts = each_range (λ r. r.from < end) ids (λ e. cut_before 0 (ranges_of e ids) end (cuts.cut e) (cuts.ends e))

-- ---- groups of a step

pub are_from : (step : ℕ) (groups : List GroupFiles) → All (IsOfStep step) groups → All (IsFrom step) (map id_of_group groups)
are_from step groups all = All-map (IsFrom step) id_of_group groups (λ k d below. is_from (all k d below).from)
  where
    is_from : {a b : ℕ} → a ≡ b → b ≤ a
    is_from e = omega (arith, e)

pub they_extend : (ids : List GroupId) (end : ℕ) (groups : List GroupFiles) → AreCuts ids end → All (IsOfStep end) groups → All (ExtendsOrMerges ids) (map id_of_group groups)
they_extend ids end groups cuts all =
    All-map (ExtendsOrMerges ids) id_of_group groups (λ k d below. inl ((all k d below).from ∙ sym (cuts.ends (get_or groups k d).entity)))

-- ---- the set that is to follow

pub next_cuts : (now before : SetOf GroupFiles) (added placed : List GroupFiles) → now ≡ before → placed ≡ added → CanAdd before added → AreCuts (map id_of_group (replaced_by id_of_group now.groups placed)) (now.end + 1)
next_cuts now before added placed same is can =
    let P : SetOf GroupFiles → Type 0 = λ s. AreCuts (map id_of_group (replaced_by id_of_group s.groups placed)) (s.end + 1) in
    subst P (sym same) (subst (λ gs. AreCuts (map id_of_group (replaced_by id_of_group before.groups gs)) (before.end + 1)) (sym is) can.cuts)

pub next_extend : (now before : SetOf GroupFiles) (added placed : List GroupFiles) → now ≡ before → placed ≡ added → CanAdd before added → AreCuts before.ids before.end → All (ExtendsOrMerges now.ids) (map id_of_group placed)
next_extend now before added placed same is can cuts =
    let P : SetOf GroupFiles → Type 0 = λ s. All (ExtendsOrMerges s.ids) (map id_of_group placed) in
    subst P (sym same) (subst (λ gs. All (ExtendsOrMerges before.ids) (map id_of_group gs)) (sym is) (they_extend before.ids before.end added cuts can.of_step))

none_gone : (before : SetOf GroupFiles) (added : List GroupFiles) → CanAdd before added → AreCuts before.ids before.end → filter (is_covered (map id_of_group added)) before.ids ≡ []
none_gone before added can cuts = none_covered before.end (map id_of_group added) before.ids (are_from before.end added can.of_step) (ids_before before.ids before.end cuts)

pub follows : (old sets : SetsOf GroupFiles) (added placed : List GroupFiles) (count : ℕ) (next : NextSet GroupFiles) → sets.current ≡ old.current → placed ≡ added → CanAdd old.current added → AreCuts old.current.ids old.current.end
    → 14 * 7 ≤ sets.spare → next.before ≡ sets.current.groups → next.set.groups ≡ replaced_by id_of_group sets.current.groups placed → ((end : ℕ) → AreCuts (map id_of_group next.set.groups) end → next.set.end ≡ end)
    → length (added_ids sets.current.ids next.set.ids) ≡ count → count ≡ length placed → gone_ids sets.current.ids next.set.ids ≡ filter (is_covered (map id_of_group placed)) sets.current.ids → Follows sets added next
follows old sets added placed count next same is can cuts room before groups end long counted gone =
    let few : length (added_ids sets.current.ids next.set.ids) ≡ 7 = long ∙ counted ∙ ap length is ∙ can.count in
    let none : gone_ids sets.current.ids next.set.ids ≡ [] =
    gone ∙ (λ i. filter (is_covered (map id_of_group (is i))) (same i).ids) ∙ none_gone old.current added can cuts in
    let nothing : length (gone_ids sets.current.ids next.set.ids) ≡ 0 = ap length none in
    record {
      before = before;
      groups = groups ∙ ap (replaced_by id_of_group sets.current.groups) is;
      end = end (sets.current.end + 1) (subst (λ gs. AreCuts (map id_of_group gs) (sets.current.end + 1)) (sym groups) (next_cuts sets.current old.current added placed same is can));
      room = omega (arith, few, nothing, room);
    }

-- ---- one more of a list

module _ {A X : Type 0} (P : X → Type 0) (value : A → X) where
  pub all_taken : (xs : List A) (at : ℕ) (x : A) → at < length xs → x ≡ get_or xs at x → All P (map value (take at xs)) → P (value x) → All P (map value (take (at + 1) xs))
  all_taken xs at x below is all one =
      let taken : take (at + 1) xs ≡ take at xs ++ x ∷ [] = take_more xs at x below ∙ ap (λ y. take at xs ++ y ∷ []) (sym is) in
      subst (λ l. All P (map value l)) (sym taken)
      (subst (All P) (sym (map-append value (take at xs) (x ∷ []))) (All-push P (map value (take at xs)) (value x) all one))

  pub all_whole : (xs : List A) (n : ℕ) → length xs ≤ n → All P (map value (take n xs)) → All P (map value xs)
  all_whole xs n over all = subst (λ l. All P (map value l)) (take_whole xs n over) all
    where
      take_whole : (zs : List A) (n : ℕ) → length zs ≤ n → take n zs ≡ zs
      take_whole [] zero over = refl
      take_whole [] (suc n) over = refl
      take_whole (z ∷ zs) zero over = absurd (omega (arith, over))
      take_whole (z ∷ zs) (suc n) over = ap (λ l. z ∷ l) (take_whole zs n (omega (arith, over)))
