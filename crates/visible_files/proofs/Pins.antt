-- What pins and unpins do to the counts.
use Rattle.std.proofs.Common.{◌≡◌, ℕ, zero, suc, ◌+◌, ◌-◌, ◌≤◌, ◌<◌, ◌^◌, ◌==◌, Bool, true, false, cond, not, ◌&&◌, ◌||◌, List, [], ◌∷◌, ◌++◌, length, take, drop, get_or, set, map, Option, is_none, refl, add-one, sym, ◌∙◌, ap, subst, arith}
use Rattle.std.proofs.lemmas.Bool.{false≢true}
use Rattle.std.specs.List.{list_any, list_all}
use Rattle.std.specs.Option.{option_map_or}
use Rattle.std.proofs.lemmas.List.{drop_all, take_at}
use Rattle.agg_model.specs.declared.entity.FileKind.{FileKind}
use Rattle.merge_ranges.specs.Name.{has_kind}
use Rattle.merge_ranges.specs.declared.name.FileName.{FileName}
use Rattle.visible_files.specs.declared.ids.GroupId.{GroupId}
use Rattle.visible_files.specs.declared.held.HeldGroup.{HeldGroup}
use Rattle.agg_model.specs.declared.entity.FileKind.TheVariants.{Ef}
use Rattle.visible_files.specs.Ids.{same_id, place, places, Ascends, IsLowerBound, contains_id}
use Rattle.visible_files.specs.Held.{id_of_name, is_name_of, is_named, held_places, unpinned, pins_at, count_of, raised, is_shown_name, IsHeld, has_full, Unpins, named_once, is_shown, retired_names, names_left, name_with}
use Rattle.visible_files.proofs.Equalities.{or-false, or-true, both, any-same}
use Rattle.visible_files.proofs.Orders.{ascends_lower}
use Rattle.visible_files.proofs.Cuts.{same_id-itself}
use Rattle.agg_model.specs.Entity.{is_domain_entity}
use Rattle.merge_ranges.specs.Kind.{is_index_kind}
use Rattle.visible_files.proofs.Lookups.{is_name_of-id, is_name_of-other, there, count_of-at, contains-below}

-- ---- what doesn't depend on the pins

pub held_places-unpinned : (held : List HeldGroup) → held_places held ≡ map (λ (p : GroupId × Option FileKind). place p.0) (unpinned held)
held_places-unpinned [] = refl
held_places-unpinned (h ∷ hs) = ap (λ l. place h.id ∷ l) (held_places-unpinned hs)

pub held_places-same : (old new : List HeldGroup) → unpinned new ≡ unpinned old → held_places new ≡ held_places old
held_places-same old new e = held_places-unpinned new ∙ ap (map (λ (p : GroupId × Option FileKind). place p.0)) e ∙ sym (held_places-unpinned old)

names_of_all : List (GroupId × Option FileKind) → List FileName
names_of_all [] = []
names_of_all (p ∷ ps) = names_left p.0 p.1 ++ names_of_all ps

retired_names-unpinned : (held : List HeldGroup) → retired_names held ≡ names_of_all (unpinned held)
unfolding names_of_all
retired_names-unpinned [] = refl
retired_names-unpinned (h ∷ hs) = ap (λ l. names_left h.id h.retired ++ l) (retired_names-unpinned hs)

pub retired_names-same : (old new : List HeldGroup) → unpinned new ≡ unpinned old → retired_names new ≡ retired_names old
retired_names-same old new e = retired_names-unpinned new ∙ ap names_of_all e ∙ sym (retired_names-unpinned old)

any-unpinned : (p : GroupId → Option FileKind → Bool) (held : List HeldGroup) → list_any (λ h. p h.id h.retired) held ≡ list_any (λ (q : GroupId × Option FileKind). p q.0 q.1) (unpinned held)
any-unpinned p [] = refl
any-unpinned p (h ∷ hs) = ap (λ b. p h.id h.retired || b) (any-unpinned p hs)

pub any-same_but_pins : (p : GroupId → Option FileKind → Bool) (old new : List HeldGroup) → unpinned new ≡ unpinned old → list_any (λ h. p h.id h.retired) new ≡ list_any (λ h. p h.id h.retired) old
any-same_but_pins p old new e = any-unpinned p new ∙ ap (list_any (λ (q : GroupId × Option FileKind). p q.0 q.1)) e ∙ sym (any-unpinned p old)

-- ---- one pin less

once : (id : GroupId) (n : FileName) → named_once (id ∷ []) n ≡ cond (is_name_of n id) 1 0
once id n = ap (λ t. cond t 1 0) (or-false (is_name_of n id))

count-by : (a b : HeldGroup) (n : FileName) (t : Bool) → a.pins + 1 ≡ b.pins → cond t a.pins 0 + cond t 1 0 ≡ cond t b.pins 0
count-by a b n true e = e
count-by a b n false e = refl

pub count_of-set : (held : List HeldGroup) (i : ℕ) (d a : HeldGroup) (n : FileName) → i < length held → a.id ≡ (get_or held i d).id → a.pins + 1 ≡ (get_or held i d).pins
    → count_of (set held i a) n + named_once ((get_or held i d).id ∷ []) n ≡ count_of held n
count_of-set [] i d a n lt same less = absurd (omega arith)
count_of-set (x ∷ xs) zero d a n lt same less =
    let e = once x.id n in
    let s : pins_at n a ≡ cond (is_name_of n x.id) a.pins 0 = ap (λ id. cond (is_name_of n id) a.pins 0) same in
    let c = count-by a x n (is_name_of n x.id) less in
    omega (arith, e, s, c)
count_of-set (x ∷ xs) (suc i) d a n lt same less =
    let rest = count_of-set xs i d a n (omega arith) same less in
    omega (arith, rest)

pub unpinned-set : (held : List HeldGroup) (i : ℕ) (d a : HeldGroup) → i < length held → a.id ≡ (get_or held i d).id → a.retired ≡ (get_or held i d).retired → unpinned (set held i a) ≡ unpinned held
unpinned-set [] i d a lt same kind = refl
unpinned-set (x ∷ xs) zero d a lt same kind = λ k. (same k, kind k) ∷ unpinned xs
unpinned-set (x ∷ xs) (suc i) d a lt same kind = ap (λ l. (x.id, x.retired) ∷ l) (unpinned-set xs i d a (omega arith) same kind)

pub record Lowers (held : List HeldGroup) (id : GroupId) (at : ℕ) : Type 0 where
  pub within : at < length held
  pub id_is : (d : HeldGroup) → (get_or held at d).id ≡ id
  pub some : (d : HeldGroup) → 1 ≤ (get_or held at d).pins

pub lowers : (held : List HeldGroup) (id : GroupId) (at : ℕ) → Ascends 0 (held_places held) → IsLowerBound (λ (h : HeldGroup). place h.id) held (place id) at → 1 ≤ count_of held (name_with id Ef) → Lowers held id at
lowers held id at order b some =
    let r = there 0 held (name_with id Ef) at order b some in
    record {
      within = r.within;
      id_is = λ d. is_name_of-id (name_with id Ef) (get_or held at d).id (r.is d);
      some = λ d. subst (λ m. 1 ≤ m) (count_of-at 0 held (name_with id Ef) at d order r.within (r.is d)) some;
    }

less_one : (a b : ℕ) → 1 ≤ b → a ≡ b - 1 → a + 1 ≡ b
less_one a b h e = omega arith

pub lowered-counts : (held : List HeldGroup) (id : GroupId) (at : ℕ) (d a : HeldGroup) → Lowers held id at → a.id ≡ (get_or held at d).id → a.pins ≡ (get_or held at d).pins - 1
    → (n : FileName) → count_of (set held at a) n + named_once (id ∷ []) n ≡ count_of held n
lowered-counts held id at d a l same less n =
    subst (λ i. count_of (set held at a) n + named_once (i ∷ []) n ≡ count_of held n) (l.id_is d)
    (count_of-set held at d a n l.within same (less_one a.pins (get_or held at d).pins (l.some d) less))

-- ---- groups that are named

pub and-any : {X : Type 0} (p : X → Bool) (k : Bool) (xs : List X) → list_any (λ x. p x && k) xs ≡ (list_any p xs && k)
and-any p k [] = refl
and-any p k (x ∷ xs) = ap (λ b. (p x && k) || b) (and-any p k xs) ∙ by (p x) (list_any p xs) k
  where
    by : (a b k : Bool) → ((a && k) || (b && k)) ≡ ((a || b) && k)
    by true b true = refl
    by true true false = refl
    by true false false = refl
    by false b k = refl

pub is_named-kind : (ids : List GroupId) (n : FileName) → is_named ids n ≡ (contains_id ids (id_of_name n) && has_kind n.entity n.kind)
is_named-kind ids n = and-any (λ id. same_id id (id_of_name n)) (has_kind n.entity n.kind) ids

and-assoc : (a b c : Bool) → (a && (b && c)) ≡ ((a && b) && c)
and-assoc true b c = refl
and-assoc false b c = refl

pub is_shown_name-kind : (held : List HeldGroup) (n : FileName) → is_shown_name held n ≡ (is_shown held (id_of_name n) && has_kind n.entity n.kind)
is_shown_name-kind held n =
    any-same (λ (h : HeldGroup). is_none h.retired && is_name_of n h.id) (λ (h : HeldGroup). (is_none h.retired && same_id h.id (id_of_name n)) && has_kind n.entity n.kind)
    (λ h. and-assoc (is_none h.retired) (same_id h.id (id_of_name n)) (has_kind n.entity n.kind)) held
    ∙ and-any (λ (h : HeldGroup). is_none h.retired && same_id h.id (id_of_name n)) (has_kind n.entity n.kind) held

-- ---- one pin more

shown_name-below : (low : ℕ) (held : List HeldGroup) (n : FileName) → Ascends low (held_places held) → place (id_of_name n) < low → is_shown_name held n ≡ false
shown_name-below low [] n h below = refl
shown_name-below low (x ∷ xs) n h below =
    let a : low ≤ place x.id = h.0 in
    let apart : place x.id ≡ place (id_of_name n) → ⊥ = λ e. absurd (omega arith) in
    ap (λ t. (is_none x.retired && t) || is_shown_name xs n) (is_name_of-other n x.id apart)
    ∙ by (is_none x.retired) ∙ shown_name-below (suc (place x.id)) xs n h.1 (omega arith)
  where
    by : (t : Bool) → ((t && false) || is_shown_name xs n) ≡ is_shown_name xs n
    by true = refl
    by false = refl

raised-by : (x : HeldGroup) (n : FileName) (t u s : Bool) → (u ≡ true → s ≡ false)
    → cond (is_name_of n (cond t (record x { pins = x.pins + 1 }) x).id) (cond t (record x { pins = x.pins + 1 }) x).pins 0 ≡ cond u (cond t (x.pins + 1) x.pins) 0
    → cond (is_name_of n (cond t (record x { pins = x.pins + 1 }) x).id) (cond t (record x { pins = x.pins + 1 }) x).pins 0 + cond s 1 0 ≡ cond u x.pins 0 + cond ((t && u) || s) 1 0
raised-by x n true true s apart e = e' ∙ omega arith
  where
    e' : cond (is_name_of n x.id) (x.pins + 1) 0 + cond s 1 0 ≡ (x.pins + 1) + 0
    e' = ap (λ m. m + cond s 1 0) e ∙ ap (λ b. (x.pins + 1) + cond b 1 0) (apart refl)
raised-by x n true false s apart e = ap (λ m. m + cond s 1 0) e
raised-by x n false true s apart e = ap (λ m. m + cond s 1 0) e
raised-by x n false false s apart e = ap (λ m. m + cond s 1 0) e

raised-pins : (x : HeldGroup) (n : FileName) (t : Bool) → cond (is_name_of n (cond t (record x { pins = x.pins + 1 }) x).id) (cond t (record x { pins = x.pins + 1 }) x).pins 0 ≡ cond (is_name_of n x.id) (cond t (x.pins + 1) x.pins) 0
raised-pins x n true = refl
raised-pins x n false = refl

apart-rest : (x : HeldGroup) (xs : List HeldGroup) (n : FileName) → Ascends (suc (place x.id)) (held_places xs) → is_name_of n x.id ≡ true → is_shown_name xs n ≡ false
apart-rest x xs n h is =
    let same : place x.id ≡ place (id_of_name n) = ap place (is_name_of-id n x.id is) in
    shown_name-below (suc (place x.id)) xs n h (omega arith)

pub count_of-raised : (low : ℕ) (held : List HeldGroup) (n : FileName) → Ascends low (held_places held) → count_of (map raised held) n ≡ count_of held n + cond (is_shown_name held n) 1 0
count_of-raised low [] n h = refl
count_of-raised low (x ∷ xs) n h =
    let rest = count_of-raised (suc (place x.id)) xs n h.1 in
    let here = raised-by x n (is_none x.retired) (is_name_of n x.id) (is_shown_name xs n) (apart-rest x xs n h.1) (raised-pins x n (is_none x.retired)) in
    omega (arith, rest, here)

abbrev seen : HeldGroup → GroupId × Option FileKind
seen h = (h.id, h.retired)

unpinned-by : (x : HeldGroup) (t : Bool) → seen (cond t (record x { pins = x.pins + 1 }) x) ≡ seen x
unpinned-by x true = refl
unpinned-by x false = refl

pub unpinned-raised : (held : List HeldGroup) → unpinned (map raised held) ≡ unpinned held
unpinned-raised [] = refl
unpinned-raised (x ∷ xs) = λ i. unpinned-by x (is_none x.retired) i ∷ unpinned-raised xs i

pub full-at : (held : List HeldGroup) (i : ℕ) (d : HeldGroup) → has_full held ≡ false → i < length held → ((get_or held i d).pins == 2 ^ 64 - 1) ≡ false
full-at [] i d h lt = absurd (omega arith)
full-at (x ∷ xs) zero d h lt = by (x.pins == 2 ^ 64 - 1) h
  where
    by : (t : Bool) → (t || has_full xs) ≡ false → t ≡ false
    by true h = h
    by false h = refl
full-at (x ∷ xs) (suc i) d h lt = full-at xs i d (by (x.pins == 2 ^ 64 - 1) h) (omega arith)
  where
    by : (t : Bool) → (t || has_full xs) ≡ false → has_full xs ≡ false
    by true h = absurd (false≢true (sym h))
    by false h = h

-- the elements from a place on are as before, while those below are changed
pub over-at : {X : Type 0} (f : X → X) (xs : List X) (i : ℕ) (d : X) → i < length xs → get_or (map f (take i xs) ++ drop i xs) i d ≡ get_or xs i d
over-at f [] i d lt = absurd (omega arith)
over-at f (x ∷ xs) zero d lt = refl
over-at f (x ∷ xs) (suc i) d lt = over-at f xs i d (omega arith)

over-more-at : {X : Type 0} (f : X → X) (xs : List X) (i : ℕ) (d : X) → i < length xs → set (map f (take i xs) ++ drop i xs) i (f (get_or xs i d)) ≡ map f (take (suc i) xs) ++ drop (suc i) xs
over-more-at f [] i d lt = absurd (omega arith)
over-more-at f (x ∷ xs) zero d lt = refl
over-more-at f (x ∷ xs) (suc i) d lt = ap (λ l. f x ∷ l) (over-more-at f xs i d (omega arith))

-- a loop over each element in place
pub over-more : {X : Type 0} (f : X → X) (xs ys : List X) (i : ℕ) (d a : X) → ys ≡ map f (take i xs) ++ drop i xs → i < length xs → a ≡ f (get_or ys i d) → set ys i a ≡ map f (take (i + 1) xs) ++ drop (i + 1) xs
over-more f xs ys i d a is lt same =
    let at : a ≡ f (get_or xs i d) = same ∙ ap f (ap (λ l. get_or l i d) is ∙ over-at f xs i d lt) in
    let done : set ys i a ≡ map f (take (suc i) xs) ++ drop (suc i) xs = (λ k. set (is k) i (at k)) ∙ over-more-at f xs i d lt in
    rw add-one done

pub raise-ok : (xs ys : List HeldGroup) (i : ℕ) (d : HeldGroup) → ys ≡ map raised (take i xs) ++ drop i xs → has_full xs ≡ false → i < length xs → ((get_or ys i d).pins == 2 ^ 64 - 1) ≡ false
raise-ok xs ys i d is none lt =
    ap (λ (g : HeldGroup). g.pins == 2 ^ 64 - 1) (ap (λ l. get_or l i d) is ∙ over-at raised xs i d lt) ∙ full-at xs i d none lt

-- ---- one pin less for each of some groups

named-below : (low : ℕ) (ids : List GroupId) (n : FileName) → Ascends low (places ids) → place (id_of_name n) < low → is_named ids n ≡ false
named-below low ids n h below = is_named-kind ids n ∙ ap (λ t. t && has_kind n.entity n.kind) (contains-below low ids (id_of_name n) h below)

once-by : (t r : Bool) → (t ≡ true → r ≡ false) → cond (t || r) 1 0 ≡ cond t 1 0 + cond r 1 0
once-by true r apart = sym (ap (λ b. 1 + cond b 1 0) (apart refl))
once-by false r apart = omega arith

named-apart : (low : ℕ) (x : GroupId) (rest : List GroupId) (n : FileName) → Ascends low (places (x ∷ rest)) → is_name_of n x ≡ true → is_named rest n ≡ false
named-apart low x rest n h is =
    let same : place x ≡ place (id_of_name n) = ap place (is_name_of-id n x is) in
    named-below (suc (place x)) rest n h.1 (omega arith)

named_once-cons : (low : ℕ) (x : GroupId) (rest : List GroupId) (n : FileName) → Ascends low (places (x ∷ rest)) → named_once (x ∷ rest) n ≡ named_once (x ∷ []) n + named_once rest n
named_once-cons low x rest n h = once-by (is_name_of n x) (is_named rest n) (named-apart low x rest n h) ∙ ap (λ m. m + named_once rest n) (sym (once x n))

has_kind-ef : (id : GroupId) → has_kind id.entity Ef ≡ true
unfolding has_kind is_index_kind
has_kind-ef id = or-true (is_domain_entity id.entity)

pub is_name_of-ef : (id : GroupId) → is_name_of (name_with id Ef) id ≡ true
is_name_of-ef id = both (same_id id id) (has_kind id.entity Ef) (same_id-itself id) (has_kind-ef id)

pub unpins-start : (held : List HeldGroup) (ids : List GroupId) → Ascends 0 (places ids) → ((n : FileName) → is_named ids n ≡ true → 1 ≤ count_of held n) → Unpins held held ids ids
unpins-start held ids h p = record { order = h; pinned = p; counts = λ n. refl; others = refl }

module _ (before held : List HeldGroup) (ids rest : List GroupId) (x : GroupId) (u : Unpins before held ids (x ∷ rest)) where
  pub unpins-order : Ascends 0 (held_places before) → Ascends 0 (held_places held)
  unpins-order h = subst (λ l. Ascends 0 l) (sym (held_places-same before held u.others)) h

  pub unpins-pinned : 1 ≤ count_of held (name_with x Ef)
  unpins-pinned = u.pinned (name_with x Ef) (ap (λ t. t || is_named rest (name_with x Ef)) (is_name_of-ef x))

  none-by : (n : FileName) (t : Bool) → is_name_of n x ≡ t → is_named rest n ≡ true → named_once (x ∷ []) n ≡ 0
  none-by n true e is = absurd (false≢true (sym (named-apart 0 x rest n u.order e) ∙ is))
  none-by n false e is = once x n ∙ ap (λ t. cond t 1 0) e

  pub unpins-step : (new : List HeldGroup) → ((n : FileName) → count_of new n + named_once (x ∷ []) n ≡ count_of held n) → unpinned new ≡ unpinned held → Unpins before new ids rest
  unpins-step new counts others = record {
    order = ascends_lower (suc (place x)) 0 (places rest) u.order.1 (omega arith);
    pinned = λ n is.
        let some : 1 ≤ count_of held n = u.pinned n (ap (λ t. is_name_of n x || t) is ∙ or-true (is_name_of n x)) in
        let none = none-by n (is_name_of n x) refl is in
        let c = counts n in
        omega (arith, some, none, c);
    counts = λ n.
        let c = counts n in
        let k = u.counts n in
        let s = named_once-cons 0 x rest n u.order in
        omega (arith, c, k, s);
    others = others ∙ u.others;
  }

pub record UnpinsAll (before held : List HeldGroup) (ids : List GroupId) : Type 0 where
  pub counts : (n : FileName) → count_of held n + named_once ids n ≡ count_of before n
  pub others : unpinned held ≡ unpinned before

pub unpins-end : (before held : List HeldGroup) (ids : List GroupId) → Unpins before held ids [] → UnpinsAll before held ids
unpins-end before held ids u = record { counts = λ n. (let c = u.counts n in omega (arith, c)); others = u.others }

-- ---- all of it together

all-unpinned : (p : GroupId → Option FileKind → Bool) (held : List HeldGroup) → list_all (λ h. p h.id h.retired) held ≡ list_all (λ (q : GroupId × Option FileKind). p q.0 q.1) (unpinned held)
all-unpinned p [] = refl
all-unpinned p (h ∷ hs) = ap (λ b. p h.id h.retired && b) (all-unpinned p hs)

all-same_but_pins : (p : GroupId → Option FileKind → Bool) (old new : List HeldGroup) → unpinned new ≡ unpinned old → list_all (λ h. p h.id h.retired) new ≡ list_all (λ h. p h.id h.retired) old
all-same_but_pins p old new e = all-unpinned p new ∙ ap (list_all (λ (q : GroupId × Option FileKind). p q.0 q.1)) e ∙ sym (all-unpinned p old)

-- pins are no part of what holds of held groups
pub held-same : (ids : List GroupId) (old new : List HeldGroup) → IsHeld ids old → unpinned new ≡ unpinned old → IsHeld ids new
held-same ids old new h e = record {
  order = subst (λ l. Ascends 0 l) (sym (held_places-same old new e)) h.order;
  shown = λ id. any-same_but_pins (λ i o. is_none o && same_id i id) old new e ∙ h.shown id;
  hidden = λ id is. h.hidden id (sym (any-same_but_pins (λ i o. not (is_none o) && same_id i id) old new e) ∙ is);
  left = all-same_but_pins (λ i o. option_map_or (λ k. has_kind i.entity k) o true) old new e ∙ h.left;
}

pub shown_name-named : (ids : List GroupId) (held : List HeldGroup) (n : FileName) → IsHeld ids held → is_shown_name held n ≡ is_named ids n
shown_name-named ids held n h = is_shown_name-kind held n ∙ ap (λ b. b && has_kind n.entity n.kind) (h.shown (id_of_name n)) ∙ sym (is_named-kind ids n)

-- what a slice of all items leaves in a list
pub whole : {X : Type 0} (n : ℕ) (new old : List X) → length new ≡ length old → n ≡ length old → take n (new ++ drop (length new) old) ≡ new
whole n new old same is = ap (λ l. take n (new ++ l)) (drop_all (length new) old (omega arith)) ∙ take_at new [] n (omega arith)
