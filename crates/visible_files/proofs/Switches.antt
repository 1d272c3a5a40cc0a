-- What a next set does to the held groups.
use Rattle.std.proofs.Common.{◌≡◌, ℕ, zero, suc, ◌+◌, ◌≤◌, ◌<◌, Bool, true, false, cond, not, ◌&&◌, ◌||◌, ◌==◌, List, [], ◌∷◌, ◌++◌, length, get_or, set, map, Option, Some, None, is_none, refl, sym, ◌∙◌, ap, subst, arith}
use Rattle.std.proofs.lemmas.Bool.{false≢true}
use Rattle.std.proofs.lemmas.List.{get_or_default}
use Rattle.std.specs.List.{list_any, list_all, insert}
use Rattle.agg_model.specs.Entity.{is_domain_entity}
use Rattle.agg_model.specs.declared.entity.Entity.{Entity}
use Rattle.agg_model.specs.declared.entity.FileKind.{FileKind}
use Rattle.agg_model.specs.declared.entity.FileKind.TheVariants.{Kv, Bt, Kvi, V, Vi, Ef, Efi}
use Rattle.merge_ranges.specs.Kind.{kind_number, is_index_kind}
use Rattle.merge_ranges.specs.Name.{has_kind}
use Rattle.merge_ranges.specs.declared.name.FileName.{FileName}
use Rattle.visible_files.specs.declared.ids.GroupId.{GroupId}
use Rattle.visible_files.specs.declared.held.HeldGroup.{HeldGroup}
use Rattle.visible_files.specs.Ids.{same_id, place, places, Ascends, IsLowerBound, IsSet, Replaces, contains_id, covers, is_inside, added_ids, gone_ids}
use Rattle.visible_files.specs.Held.{id_of_name, is_name_of, is_named, held_ids, held_places, pins_at, count_of, kinds_from, names_with, names_left, retired_names, same_file, is_retired, is_shown, is_hidden, is_shown_name, first_kind, retired_without, has_kind_left, visible_group, AddsOne, Adds, IsHeld}
use Rattle.visible_files.proofs.Equalities.{or-false, or-true, both, first_of, second_of, any-append, any-insert, any-filter, any-at, any-same, any-map, some_of}
use Rattle.visible_files.proofs.Orders.{ascends-insert, ascends_lower}
use Rattle.visible_files.proofs.Cuts.{same_id-true, same_id-itself, covers-chain, covers-both, covers-alone}
use Rattle.visible_files.proofs.Lookups.{contains-below, is_name_of-id}
use Rattle.visible_files.proofs.Pins.{and-any, shown_name-named}

-- ---- one visible group more

abbrev pub new_group : GroupId → HeldGroup
new_group id = visible_group id

abbrev nothing : Bool → ℕ
nothing t = cond t 0 0

zero-by : (t : Bool) → nothing t ≡ 0
zero-by true = refl
zero-by false = refl

count_of-insert : (held : List HeldGroup) (at : ℕ) (id : GroupId) (n : FileName) → count_of (insert held at (new_group id)) n ≡ count_of held n
count_of-insert [] zero id n = let z = zero-by (is_name_of n id) in omega (arith, z)
count_of-insert [] (suc at) id n = let z = zero-by (is_name_of n id) in omega (arith, z)
count_of-insert (h ∷ hs) zero id n = let z = zero-by (is_name_of n id) in omega (arith, z)
count_of-insert (h ∷ hs) (suc at) id n = ap (λ m. pins_at n h + m) (count_of-insert hs at id n)

retired_names-insert : (held : List HeldGroup) (at : ℕ) (id : GroupId) → retired_names (insert held at (new_group id)) ≡ retired_names held
retired_names-insert [] zero id = refl
retired_names-insert [] (suc at) id = refl
retired_names-insert (h ∷ hs) zero id = refl
retired_names-insert (h ∷ hs) (suc at) id = ap (λ l. names_left h.id h.retired ++ l) (retired_names-insert hs at id)

left-insert : (held : List HeldGroup) (at : ℕ) (id : GroupId) → list_all has_kind_left (insert held at (new_group id)) ≡ list_all has_kind_left held
left-insert [] zero id = refl
left-insert [] (suc at) id = refl
left-insert (h ∷ hs) zero id = refl
left-insert (h ∷ hs) (suc at) id = ap (λ b. has_kind_left h && b) (left-insert hs at id)

contains-held : (held : List HeldGroup) (i : GroupId) → contains_id (held_ids held) i ≡ list_any (λ h. same_id h.id i) held
contains-held held i = any-map (λ (x : GroupId). same_id x i) (λ (h : HeldGroup). h.id) held

pub adds-one : (held : List HeldGroup) (id : GroupId) (at : ℕ) (new : List HeldGroup) → Ascends 0 (held_places held) → IsLowerBound (λ (h : HeldGroup). place h.id) held (place id) at
    → ((d : HeldGroup) → at < length held → place id < place (get_or held at d).id) → new ≡ insert held at (new_group id) → AddsOne id held new
adds-one held id at new order b apart made = record {
  order = subst (λ l. Ascends 0 (held_places l)) (sym made) (ascends-insert (λ (h : HeldGroup). place h.id) (new_group id) 0 held at order (omega arith) b apart);
  ids = λ i. contains-held new i ∙ ap (list_any (λ h. same_id h.id i)) made ∙ any-insert (λ (h : HeldGroup). same_id h.id i) at (new_group id) held ∙ ap (λ b. same_id id i || b) (sym (contains-held held i));
  counts = λ n. ap (λ l. count_of l n) made ∙ count_of-insert held at id n;
  shown = λ i. ap (λ l. is_shown l i) made ∙ any-insert (λ (h : HeldGroup). is_none h.retired && same_id h.id i) at (new_group id) held;
  hidden = λ i. ap (λ l. is_hidden l i) made ∙ any-insert (λ (h : HeldGroup). not (is_none h.retired) && same_id h.id i) at (new_group id) held;
  names = ap retired_names made ∙ retired_names-insert held at id;
  left = ap (list_all has_kind_left) made ∙ left-insert held at id;
}

-- ---- the next of a list is added, or was there

added-old : (before rest : List GroupId) (x : GroupId) → contains_id before x ≡ true → added_ids before (x ∷ rest) ≡ added_ids before rest
added-old before rest x is = ap (λ t. cond (not t) (x ∷ added_ids before rest) (added_ids before rest)) is

added-new : (before rest : List GroupId) (x : GroupId) → contains_id before x ≡ false → added_ids before (x ∷ rest) ≡ x ∷ added_ids before rest
added-new before rest x is = ap (λ t. cond (not t) (x ∷ added_ids before rest) (added_ids before rest)) is

module _ (before : List GroupId) (initial held : List HeldGroup) (all rest : List GroupId) (x : GroupId) (a : Adds before initial held all (x ∷ rest)) where
  pub adds-old : contains_id before x ≡ true → Adds before initial held all rest
  adds-old is = record {
    rises = ascends_lower (suc (place x)) 0 (places rest) a.rises.1 (omega arith);
    order = a.order;
    fresh = λ id h. a.fresh id (ap (λ l. contains_id l id) (added-old before rest x is) ∙ h);
    counts = a.counts;
    shown = λ id. ap (λ l. is_shown held id || contains_id l id) (sym (added-old before rest x is)) ∙ a.shown id;
    hidden = a.hidden;
    names = a.names;
    left = a.left;
  }

  pub adds-absent : contains_id before x ≡ false → contains_id (held_ids held) x ≡ false
  adds-absent is = a.fresh x (ap (λ l. contains_id l x) (added-new before rest x is) ∙ ap (λ t. t || contains_id (added_ids before rest) x) (same_id-itself x))

  -- a later one is another
  other-by : (id : GroupId) (t : Bool) → same_id x id ≡ t → contains_id (added_ids before rest) id ≡ true → t ≡ false
  other-by id true e h =
      let in_rest = any-filter (λ y. same_id y id) (λ y. not (contains_id before y)) rest in
      let some = some_of (λ y. not (contains_id before y) && same_id y id) rest (sym in_rest ∙ h) in
      let there : contains_id rest id ≡ true = any-at (λ y. same_id y id) rest some.at x some.within (ap (λ y. same_id y id) (some.is x) ∙ second_of (not (contains_id before some.item)) (same_id some.item id) some.pass) in
      let same : place x ≡ place id = ap place (same_id-true x id e) in
      absurd (false≢true (sym (contains-below (suc (place x)) rest id a.rises.1 (omega arith)) ∙ there))
  other-by id false e h = refl

  pub adds-new : (new : List HeldGroup) → contains_id before x ≡ false → AddsOne x held new → Adds before initial new all rest
  adds-new new is o = record {
    rises = ascends_lower (suc (place x)) 0 (places rest) a.rises.1 (omega arith);
    order = o.order;
    fresh = λ id h.
        o.ids id ∙ (λ k. other-by id (same_id x id) refl h k || a.fresh id (ap (λ l. contains_id l id) (added-new before rest x is) ∙ ap (λ b. same_id x id || b) h ∙ or-true (same_id x id)) k);
    counts = λ n. o.counts n ∙ a.counts n;
    shown = λ id.
        ap (λ b. b || contains_id (added_ids before rest) id) (o.shown id)
        ∙ turn (same_id x id) (is_shown held id) (contains_id (added_ids before rest) id)
        ∙ ap (λ l. is_shown held id || contains_id l id) (sym (added-new before rest x is)) ∙ a.shown id;
    hidden = λ id. o.hidden id ∙ a.hidden id;
    names = o.names ∙ a.names;
    left = o.left ∙ a.left;
  }
    where
      turn : (s h r : Bool) → ((s || h) || r) ≡ (h || (s || r))
      turn true true r = refl
      turn true false r = refl
      turn false h r = refl

long-by : (t : Bool) (x : GroupId) (ids : List GroupId) → length (cond (not t) (x ∷ ids) ids) ≡ cond t 0 1 + length ids
long-by true x ids = omega arith
long-by false x ids = omega arith

pub adds-room : (before rest whole : List GroupId) (x : GroupId) → whole ≡ x ∷ rest → contains_id before x ≡ false → (len len0 n cap0 cap : ℕ) → len + length (added_ids before whole) ≡ len0 + n → len0 + n ≤ cap0 → cap0 ≤ cap → len < cap
adds-room before rest whole x is new len len0 n cap0 cap long fits more =
    let e : length (added_ids before whole) ≡ suc (length (added_ids before rest)) = ap (λ l. length (added_ids before l)) is ∙ ap length (added-new before rest x new) in
    omega arith

pub adds-len : (before rest whole : List GroupId) (x : GroupId) → whole ≡ x ∷ rest → (new len len0 n : ℕ) → new ≡ len + cond (contains_id before x) 0 1 → len + length (added_ids before whole) ≡ len0 + n → new + length (added_ids before rest) ≡ len0 + n
adds-len before rest whole x is new len len0 n made long =
    let e : length (added_ids before whole) ≡ cond (contains_id before x) 0 1 + length (added_ids before rest) = ap (λ l. length (added_ids before l)) is ∙ long-by (contains_id before x) x (added_ids before rest) in
    omega arith

next-by : (before : List GroupId) (initial held new : List HeldGroup) (all rest : List GroupId) (x : GroupId) (t : Bool) → contains_id before x ≡ t → Adds before initial held all (x ∷ rest)
    → (contains_id before x ≡ true → new ≡ held) → (contains_id before x ≡ false → AddsOne x held new) → Adds before initial new all rest
next-by before initial held new all rest x true e a kept added = subst (λ l. Adds before initial l all rest) (sym (kept e)) (adds-old before initial held all rest x a e)
next-by before initial held new all rest x false e a kept added = adds-new before initial held all rest x a new e (added e)

pub adds-next : (before : List GroupId) (initial held new : List HeldGroup) (all rest : List GroupId) (x : GroupId) → Adds before initial held all (x ∷ rest)
    → (contains_id before x ≡ true → new ≡ held) → (contains_id before x ≡ false → AddsOne x held new) → Adds before initial new all rest
adds-next before initial held new all rest x a kept added = next-by before initial held new all rest x (contains_id before x) refl a kept added

-- ---- the visible groups that are no longer are replaced

next_state : GroupId → Bool → Option FileKind → Option FileKind
next_state id c None = cond (not c) (Some (first_kind id.entity)) None
next_state id c (Some k) = Some k

module _ (ids : List GroupId) where
  R : HeldGroup → HeldGroup
  R h = retired_without ids h

  retire-id-by : (h : HeldGroup) (t : Bool) → (cond t (record h { retired = Some (first_kind h.id.entity) }) h).id ≡ h.id
  retire-id-by h true = refl
  retire-id-by h false = refl

  retire-pins-by : (h : HeldGroup) (t : Bool) → (cond t (record h { retired = Some (first_kind h.id.entity) }) h).pins ≡ h.pins
  retire-pins-by h true = refl
  retire-pins-by h false = refl

  retire-id : (h : HeldGroup) → (retired_without ids h).id ≡ h.id
  retire-id h = retire-id-by h (is_none h.retired && not (contains_id ids h.id))

  retire-pins : (h : HeldGroup) → (retired_without ids h).pins ≡ h.pins
  retire-pins h = retire-pins-by h (is_none h.retired && not (contains_id ids h.id))

  retire-state-by : (h : HeldGroup) (o : Option FileKind) (c : Bool) → h.retired ≡ o → (cond (is_none o && not c) (record h { retired = Some (first_kind h.id.entity) }) h).retired ≡ next_state h.id c o
  unfolding next_state
  retire-state-by h None true e = e
  retire-state-by h None false e = refl
  retire-state-by h (Some k) c e = e

  retire-state : (h : HeldGroup) → (retired_without ids h).retired ≡ next_state h.id (contains_id ids h.id) h.retired
  retire-state h = retire-state-by h h.retired (contains_id ids h.id) refl

  pub retire-places : (held : List HeldGroup) → held_places (map (retired_without ids) held) ≡ held_places held
  retire-places [] = refl
  retire-places (h ∷ hs) = λ i. place (retire-id h i) ∷ retire-places hs i

  pub retire-counts : (held : List HeldGroup) (n : FileName) → count_of (map (retired_without ids) held) n ≡ count_of held n
  retire-counts [] n = refl
  retire-counts (h ∷ hs) n = λ i. cond (is_name_of n (retire-id h i)) (retire-pins h i) 0 + retire-counts hs n i

  shown-elem : (id : GroupId) (o : Option FileKind) (c s C : Bool) → (s ≡ true → c ≡ C) → (is_none (next_state id c o) && s) ≡ ((is_none o && s) && C)
  unfolding next_state
  shown-elem id (Some k) c s C h = refl
  shown-elem id None true true C h = h refl
  shown-elem id None true false C h = refl
  shown-elem id None false true C h = h refl
  shown-elem id None false false C h = refl

  hidden-elem : (id : GroupId) (o : Option FileKind) (c s C : Bool) → (s ≡ true → c ≡ C) → (not (is_none (next_state id c o)) && s) ≡ ((not (is_none o) && s) || ((is_none o && s) && not C))
  unfolding next_state
  hidden-elem id (Some k) c s C h = sym (or-false s)
  hidden-elem id None true true C h = ap not (h refl)
  hidden-elem id None true false C h = refl
  hidden-elem id None false true C h = ap not (h refl)
  hidden-elem id None false false C h = refl

  same_contains : (x id : GroupId) → same_id x id ≡ true → contains_id ids x ≡ contains_id ids id
  same_contains x id h = ap (contains_id ids) (same_id-true x id h)

  pub retire-shown : (held : List HeldGroup) (id : GroupId) → is_shown (map (retired_without ids) held) id ≡ (is_shown held id && contains_id ids id)
  retire-shown held id =
      any-map (λ (h : HeldGroup). is_none h.retired && same_id h.id id) (retired_without ids) held
      ∙ any-same (λ (h : HeldGroup). is_none (retired_without ids h).retired && same_id (retired_without ids h).id id) (λ (h : HeldGroup). (is_none h.retired && same_id h.id id) && contains_id ids id)
      (λ h. (λ i. is_none (retire-state h i) && same_id (retire-id h i) id) ∙ shown-elem h.id h.retired (contains_id ids h.id) (same_id h.id id) (contains_id ids id) (same_contains h.id id)) held
      ∙ and-any (λ (h : HeldGroup). is_none h.retired && same_id h.id id) (contains_id ids id) held

  or-any : {X : Type 0} (p q : X → Bool) (xs : List X) → list_any (λ x. p x || q x) xs ≡ (list_any p xs || list_any q xs)
  or-any p q [] = refl
  or-any p q (x ∷ xs) = ap (λ b. (p x || q x) || b) (or-any p q xs) ∙ turn (p x) (q x) (list_any p xs) (list_any q xs)
    where
      turn : (a b c d : Bool) → ((a || b) || (c || d)) ≡ ((a || c) || (b || d))
      turn true b c d = refl
      turn false true true d = refl
      turn false true false d = refl
      turn false false c d = refl

  pub retire-hidden : (held : List HeldGroup) (id : GroupId) → is_hidden (map (retired_without ids) held) id ≡ (is_hidden held id || (is_shown held id && not (contains_id ids id)))
  retire-hidden held id =
      any-map (λ (h : HeldGroup). not (is_none h.retired) && same_id h.id id) (retired_without ids) held
      ∙ any-same (λ (h : HeldGroup). not (is_none (retired_without ids h).retired) && same_id (retired_without ids h).id id) (λ (h : HeldGroup). (not (is_none h.retired) && same_id h.id id) || ((is_none h.retired && same_id h.id id) && not (contains_id ids id)))
      (λ h. (λ i. not (is_none (retire-state h i)) && same_id (retire-id h i) id) ∙ hidden-elem h.id h.retired (contains_id ids h.id) (same_id h.id id) (contains_id ids id) (same_contains h.id id)) held
      ∙ or-any (λ (h : HeldGroup). not (is_none h.retired) && same_id h.id id) (λ (h : HeldGroup). (is_none h.retired && same_id h.id id) && not (contains_id ids id)) held
      ∙ ap (λ b. is_hidden held id || b) (and-any (λ (h : HeldGroup). is_none h.retired && same_id h.id id) (not (contains_id ids id)) held)

  -- ---- their names are retired

  kinds-any : (t : Bool) (k : FileKind) → list_any (λ j. kind_number j == kind_number k) (kinds_from (cond t Kv Ef)) ≡ (t || is_index_kind k)
  unfolding kind_number is_index_kind
  kinds-any true Kv = refl
  kinds-any true Bt = refl
  kinds-any true Kvi = refl
  kinds-any true V = refl
  kinds-any true Vi = refl
  kinds-any true Ef = refl
  kinds-any true Efi = refl
  kinds-any false Kv = refl
  kinds-any false Bt = refl
  kinds-any false Kvi = refl
  kinds-any false V = refl
  kinds-any false Vi = refl
  kinds-any false Ef = refl
  kinds-any false Efi = refl

  first-any : (e : Entity) (k : FileKind) → list_any (λ j. kind_number j == kind_number k) (kinds_from (first_kind e)) ≡ has_kind e k
  unfolding first_kind has_kind
  first-any e k = kinds-any (is_domain_entity e) k

pub names-any : (id : GroupId) (n : FileName) (ks : List FileKind) → list_any (λ m. same_file m n) (names_with id ks) ≡ (same_id id (id_of_name n) && list_any (λ j. kind_number j == kind_number n.kind) ks)
unfolding same_file
names-any id n [] = sym (none (same_id id (id_of_name n)))
  where
    none : (b : Bool) → (b && false) ≡ false
    none true = refl
    none false = refl
names-any id n (k ∷ ks) = ap (λ b. (same_id id (id_of_name n) && (kind_number k == kind_number n.kind)) || b) (names-any id n ks) ∙ join (same_id id (id_of_name n)) (kind_number k == kind_number n.kind) (list_any (λ j. kind_number j == kind_number n.kind) ks)
  where
    join : (s a b : Bool) → ((s && a) || (s && b)) ≡ (s && (a || b))
    join true a b = refl
    join false a b = refl

pub retired-any : (held : List HeldGroup) (n : FileName) → is_retired held n ≡ list_any (λ h. list_any (λ m. same_file m n) (names_left h.id h.retired)) held
retired-any [] n = refl
retired-any (h ∷ hs) n = any-append (λ m. same_file m n) (names_left h.id h.retired) (retired_names hs) ∙ ap (λ b. list_any (λ m. same_file m n) (names_left h.id h.retired) || b) (retired-any hs n)

module _ (ids : List GroupId) where
  kind-of-by : (id : GroupId) (n : FileName) (s : Bool) → same_id id (id_of_name n) ≡ s → (s && has_kind id.entity n.kind) ≡ (s && has_kind n.entity n.kind)
  kind-of-by id n true e = ap (λ (i : GroupId). has_kind i.entity n.kind) (same_id-true id (id_of_name n) e)
  kind-of-by id n false e = refl

  first-names : (id : GroupId) (n : FileName) → list_any (λ m. same_file m n) (names_with id (kinds_from (first_kind id.entity))) ≡ is_name_of n id
  first-names id n =
      names-any id n (kinds_from (first_kind id.entity)) ∙ ap (λ b. same_id id (id_of_name n) && b) (first-any ids id.entity n.kind)
      ∙ kind-of-by id n (same_id id (id_of_name n)) refl

  names-elem : (id : GroupId) (n : FileName) (o : Option FileKind) (c m C : Bool) → (m ≡ true → c ≡ C) → list_any (λ m. same_file m n) (names_with id (kinds_from (first_kind id.entity))) ≡ m
      → list_any (λ m. same_file m n) (names_left id (next_state id c o)) ≡ (list_any (λ m. same_file m n) (names_left id o) || ((is_none o && m) && not C))
  unfolding next_state
  names-elem id n (Some k) c m C h f = sym (or-false (list_any (λ m. same_file m n) (names_left id (Some k))))
  names-elem id n None true true C h f = ap not (h refl)
  names-elem id n None true false C h f = refl
  names-elem id n None false true C h f = f ∙ ap not (h refl)
  names-elem id n None false false C h f = f

  pub retire-names : (held : List HeldGroup) (n : FileName) → is_retired (map (retired_without ids) held) n ≡ (is_retired held n || (is_shown_name held n && not (contains_id ids (id_of_name n))))
  retire-names held n =
      retired-any (map (retired_without ids) held) n
      ∙ any-map (λ (h : HeldGroup). list_any (λ m. same_file m n) (names_left h.id h.retired)) (retired_without ids) held
      ∙ any-same (λ (h : HeldGroup). list_any (λ m. same_file m n) (names_left (retired_without ids h).id (retired_without ids h).retired))
      (λ (h : HeldGroup). list_any (λ m. same_file m n) (names_left h.id h.retired) || ((is_none h.retired && is_name_of n h.id) && not (contains_id ids (id_of_name n))))
      (λ h. (λ i. list_any (λ m. same_file m n) (names_left (retire-id ids h i) (retire-state ids h i)))
      ∙ names-elem h.id n h.retired (contains_id ids h.id) (is_name_of n h.id) (contains_id ids (id_of_name n)) (λ is. ap (contains_id ids) (is_name_of-id n h.id is)) (first-names h.id n)) held
      ∙ or-any ids (λ (h : HeldGroup). list_any (λ m. same_file m n) (names_left h.id h.retired)) (λ (h : HeldGroup). (is_none h.retired && is_name_of n h.id) && not (contains_id ids (id_of_name n))) held
      ∙ ap (λ b. list_any (λ (h : HeldGroup). list_any (λ m. same_file m n) (names_left h.id h.retired)) held || b) (and-any (λ (h : HeldGroup). is_none h.retired && is_name_of n h.id) (not (contains_id ids (id_of_name n))) held)
      ∙ ap (λ b. b || (is_shown_name held n && not (contains_id ids (id_of_name n)))) (sym (retired-any held n))

  has_first-by' : (t : Bool) → (t || is_index_kind (cond t Kv Ef)) ≡ true
  unfolding is_index_kind
  has_first-by' true = refl
  has_first-by' false = refl

  has_first : (e : Entity) → has_kind e (first_kind e) ≡ true
  unfolding has_kind first_kind
  has_first e = has_first-by' (is_domain_entity e)

  left-elem : (h : HeldGroup) (o : Option FileKind) (t : Bool) → has_kind_left h ≡ true → has_kind_left (cond t (record h { retired = Some (first_kind h.id.entity) }) h) ≡ true
  left-elem h o true is = has_first h.id.entity
  left-elem h o false is = is

  pub retire-left : (held : List HeldGroup) → list_all has_kind_left held ≡ true → list_all has_kind_left (map (retired_without ids) held) ≡ true
  retire-left [] is = refl
  retire-left (h ∷ hs) is =
      both (has_kind_left (retired_without ids h)) (list_all has_kind_left (map (retired_without ids) hs))
      (left-elem h h.retired (is_none h.retired && not (contains_id ids h.id)) (first_of (has_kind_left h) (list_all has_kind_left hs) is))
      (retire-left hs (second_of (has_kind_left h) (list_all has_kind_left hs) is))

strict : {a b : ℕ} → a ≤ b → (b ≡ a → ⊥) → a < b
strict h n = omega arith

-- where the group would be stands another one, so one further behind
pub place-apart : (held : List HeldGroup) (id : GroupId) (at : ℕ) (d0 d : HeldGroup) → contains_id (held_ids held) id ≡ false → at < length held → place id ≤ place (get_or held at d).id
    → (r : Bool) → r ≡ same_id (get_or held at d0).id id → (r ≡ false → place (get_or held at d0).id ≡ place id → ⊥) → place id < place (get_or held at d).id
place-apart held id at d0 d absent lt le r is apart =
    let same : get_or held at d0 ≡ get_or held at d = get_or_default held at d0 d lt in
    let none : r ≡ false = by r (λ h. any-at (λ (h : HeldGroup). same_id h.id id) held at d0 lt (sym is ∙ h)) in
    strict le (λ e. apart none (ap (λ (h : HeldGroup). place h.id) same ∙ e))
  where
    by : (t : Bool) → (t ≡ true → list_any (λ (h : HeldGroup). same_id h.id id) held ≡ true) → t ≡ false
    by true h = absurd (false≢true (sym absent ∙ contains-held held id ∙ h refl))
    by false h = refl

-- ---- one set after the other

pub any-of : (p : GroupId → Bool) (ids : List GroupId) (v : GroupId) → contains_id ids v ≡ true → p v ≡ true → list_any p ids ≡ true
any-of p ids v there pass =
    let some = some_of (λ y. same_id y v) ids there in
    any-at p ids some.at v some.within (ap p (some.is v ∙ same_id-true some.item v some.pass) ∙ pass)

-- an element of the list that strictly covers this one
pub record Around (ids : List GroupId) (s : GroupId) : Type 0 where
  pub by : GroupId
  pub there : contains_id ids by ≡ true
  pub covers : covers by s ≡ true
  pub other : same_id by s ≡ false

not-true : (b : Bool) → not b ≡ true → b ≡ false
not-true true h = absurd (false≢true h)
not-true false h = refl

pub around : (ids : List GroupId) (s : GroupId) → is_inside ids s ≡ true → Around ids s
around ids s h =
    let some = some_of (λ a. covers a s && not (same_id a s)) ids h in
    record {
      by = some.item;
      there = any-at (λ y. same_id y some.item) ids some.at s some.within (ap (λ y. same_id y some.item) (some.is s) ∙ same_id-itself some.item);
      covers = first_of (covers some.item s) (not (same_id some.item s)) some.pass;
      other = not-true (same_id some.item s) (second_of (covers some.item s) (not (same_id some.item s)) some.pass);
    }

differ : (a b : GroupId) → same_id a b ≡ false → a ≡ b → ⊥
differ a b h e = false≢true (sym h ∙ ap (λ x. same_id x b) e ∙ same_id-itself b)

module _ (before after : List GroupId) (end : ℕ) (set : IsSet after end) (replaces : Replaces before after) where
  not_inside-by : (s : GroupId) (v : Around before s) (t : Bool) → contains_id after v.by ≡ t → contains_id after s ≡ true → ⊥
  not_inside-by s v true e here = differ v.by s v.other (covers-alone after end v.by s set.cuts e here v.covers)
  not_inside-by s v false e here =
      let a = around after v.by (replaces v.by v.there e) in
      let same : a.by ≡ s = covers-alone after end a.by s set.cuts a.there here (covers-chain a.by v.by s a.covers v.covers) in
      differ v.by s v.other (covers-both v.by s v.covers (subst (λ x. covers x v.by ≡ true) same a.covers))

  -- what was a part of a visible group isn't added
  not_inside : (s : GroupId) → is_inside before s ≡ true → contains_id after s ≡ true → ⊥
  not_inside s inside here = let v = around before s inside in not_inside-by s v (contains_id after v.by) refl here

  other-than : (s a : GroupId) (v : Around before s) (t : Bool) → same_id a s ≡ t → covers a v.by ≡ true → not t ≡ true
  other-than s a v true e c = absurd (differ v.by s v.other (covers-both v.by s v.covers (subst (λ x. covers x v.by ≡ true) (same_id-true a s e) c)))
  other-than s a v false e c = refl

  grows-by : (s : GroupId) (v : Around before s) (t : Bool) → contains_id after v.by ≡ t → is_inside after s ≡ true
  grows-by s v true e = any-of (λ a. covers a s && not (same_id a s)) after v.by e (both (covers v.by s) (not (same_id v.by s)) v.covers (ap not v.other))
  grows-by s v false e =
      let a = around after v.by (replaces v.by v.there e) in
      any-of (λ x. covers x s && not (same_id x s)) after a.by a.there
      (both (covers a.by s) (not (same_id a.by s)) (covers-chain a.by v.by s a.covers v.covers) (other-than s a.by v (same_id a.by s) refl a.covers))

  -- what is a part of a visible group stays one
  grows : (s : GroupId) → is_inside before s ≡ true → is_inside after s ≡ true
  grows s inside = let v = around before s inside in grows-by s v (contains_id after v.by) refl

  added-is : (id : GroupId) → contains_id (added_ids before after) id ≡ (contains_id after id && not (contains_id before id))
  added-is id =
      any-filter (λ y. same_id y id) (λ y. not (contains_id before y)) after
      ∙ any-same (λ y. not (contains_id before y) && same_id y id) (λ y. same_id y id && not (contains_id before id)) (λ y. by y (same_id y id) refl) after
      ∙ and-any (λ y. same_id y id) (not (contains_id before id)) after
    where
      none : (b : Bool) → (b && false) ≡ false
      none true = refl
      none false = refl

      all : (b : Bool) → (b && true) ≡ b
      all true = refl
      all false = refl

      by : (y : GroupId) (t : Bool) → same_id y id ≡ t → (not (contains_id before y) && t) ≡ (t && not (contains_id before id))
      by y true e = all (not (contains_id before y)) ∙ ap (λ x. not (contains_id before x)) (same_id-true y id e)
      by y false e = none (not (contains_id before y))

  module _ (held : List HeldGroup) (h : IsHeld before held) where
    entry-is : (id : GroupId) → list_any (λ (g : HeldGroup). same_id g.id id) held ≡ (is_shown held id || is_hidden held id)
    entry-is id =
        any-same (λ (g : HeldGroup). same_id g.id id) (λ (g : HeldGroup). (is_none g.retired && same_id g.id id) || (not (is_none g.retired) && same_id g.id id)) (λ g. by (is_none g.retired) (same_id g.id id)) held
        ∙ or-any after (λ (g : HeldGroup). is_none g.retired && same_id g.id id) (λ (g : HeldGroup). not (is_none g.retired) && same_id g.id id) held
      where
        by : (n s : Bool) → s ≡ ((n && s) || (not n && s))
        by true s = sym (or-false s)
        by false s = refl

    hidden-none : (id : GroupId) (t : Bool) → is_hidden held id ≡ t → contains_id after id ≡ true → t ≡ false
    hidden-none id true e here = absurd (not_inside id (h.hidden id e) here)
    hidden-none id false e here = refl

    retired-entry : (id : GroupId) → contains_id (held_ids (map (retired_without after) held)) id ≡ list_any (λ (g : HeldGroup). same_id g.id id) held
    retired-entry id =
        contains-held (map (retired_without after) held) id
        ∙ any-map (λ (g : HeldGroup). same_id g.id id) (retired_without after) held
        ∙ any-same (λ (g : HeldGroup). same_id (retired_without after g).id id) (λ (g : HeldGroup). same_id g.id id) (λ g. ap (λ i. same_id i id) (retire-id after g)) held

    absent : (id : GroupId) → contains_id (added_ids before after) id ≡ true → contains_id (held_ids (map (retired_without after) held)) id ≡ false
    absent id is =
        let two = sym (added-is id) ∙ is in
        let here : contains_id after id ≡ true = first_of (contains_id after id) (not (contains_id before id)) two in
        let gone : contains_id before id ≡ false = not-true (contains_id before id) (second_of (contains_id after id) (not (contains_id before id)) two) in
        retired-entry id ∙ entry-is id ∙ (λ i. (h.shown id ∙ gone) i || hidden-none id (is_hidden held id) refl here i)

    pub adds-start : Adds before (map (retired_without after) held) (map (retired_without after) held) after after
    adds-start = record {
      rises = set.order;
      order = subst (λ l. Ascends 0 l) (sym (retire-places after held)) h.order;
      fresh = absent;
      counts = λ n. refl;
      shown = λ id. refl;
      hidden = λ id. refl;
      names = refl;
      left = refl;
    }

    module _ (new : List HeldGroup) (a : Adds before (map (retired_without after) held) new after []) where
      pub switched-counts : (n : FileName) → count_of new n ≡ count_of held n
      switched-counts n = a.counts n ∙ retire-counts after held n

      whole-of : (b x : Bool) → ((b && x) || (x && not b)) ≡ x
      whole-of true x = by x
        where
          by : (y : Bool) → (y || (y && false)) ≡ y
          by true = refl
          by false = refl
      whole-of false true = refl
      whole-of false false = refl

      hidden-by : (id : GroupId) (b c x : Bool) → is_hidden held id ≡ b → is_shown held id ≡ c → contains_id after id ≡ x → (b || (c && not x)) ≡ true → is_inside after id ≡ true
      hidden-by id true c x eb ec ex is = grows id (h.hidden id eb)
      hidden-by id false true true eb ec ex is = absurd (false≢true is)
      hidden-by id false true false eb ec ex is = replaces id (sym (h.shown id) ∙ ec) ex
      hidden-by id false false x eb ec ex is = absurd (false≢true is)

      pub switched-held : IsHeld after new
      switched-held = record {
        order = a.order;
        shown = λ id.
            sym (or-false (is_shown new id)) ∙ a.shown id
            ∙ (λ i. (retire-shown after held id ∙ ap (λ b. b && contains_id after id) (h.shown id)) i || added-is id i)
            ∙ whole-of (contains_id before id) (contains_id after id);
        hidden = λ id is.
            hidden-by id (is_hidden held id) (is_shown held id) (contains_id after id) refl refl refl (sym (a.hidden id ∙ retire-hidden after held id) ∙ is);
        left = a.left ∙ retire-left after held h.left;
      }

      gone-named : (n : FileName) → is_named (gone_ids before after) n ≡ (is_named before n && not (contains_id after (id_of_name n)))
      gone-named n =
          any-filter (λ y. is_name_of n y) (λ y. not (contains_id after y)) before
          ∙ any-same (λ y. not (contains_id after y) && is_name_of n y) (λ y. is_name_of n y && not (contains_id after (id_of_name n))) (λ y. by y (is_name_of n y) refl) before
          ∙ and-any (λ y. is_name_of n y) (not (contains_id after (id_of_name n))) before
        where
          none : (b : Bool) → (b && false) ≡ false
          none true = refl
          none false = refl

          all : (b : Bool) → (b && true) ≡ b
          all true = refl
          all false = refl

          by : (y : GroupId) (t : Bool) → is_name_of n y ≡ t → (not (contains_id after y) && t) ≡ (t && not (contains_id after (id_of_name n)))
          by y true e = all (not (contains_id after y)) ∙ ap (λ x. not (contains_id after x)) (is_name_of-id n y e)
          by y false e = none (not (contains_id after y))

      pub switched-retired : (n : FileName) → is_retired new n ≡ (is_retired held n || is_named (gone_ids before after) n)
      switched-retired n =
          ap (list_any (λ m. same_file m n)) a.names ∙ retire-names after held n
          ∙ ap (λ b. is_retired held n || (b && not (contains_id after (id_of_name n)))) (shown_name-named before held n h)
          ∙ ap (λ b. is_retired held n || b) (sym (gone-named n))

-- ---- all groups are visible

places-new : (ids : List GroupId) → held_places (map visible_group ids) ≡ places ids
places-new [] = refl
places-new (x ∷ xs) = ap (λ l. place x ∷ l) (places-new xs)

none-of : {X : Type 0} (xs : List X) → list_any (λ x. false) xs ≡ false
none-of [] = refl
none-of (x ∷ xs) = none-of xs

left-new : (ids : List GroupId) → list_all has_kind_left (map visible_group ids) ≡ true
left-new [] = refl
left-new (x ∷ xs) = left-new xs

pub held-new : (ids : List GroupId) (end : ℕ) → IsSet ids end → IsHeld ids (map visible_group ids)
held-new ids end set = record {
  order = subst (λ l. Ascends 0 l) (sym (places-new ids)) set.order;
  shown = λ id. any-map (λ (h : HeldGroup). is_none h.retired && same_id h.id id) visible_group ids;
  hidden = λ id is. absurd (false≢true (sym (any-map (λ (h : HeldGroup). not (is_none h.retired) && same_id h.id id) visible_group ids ∙ none-of ids) ∙ is));
  left = left-new ids;
}

pub counts-new : (ids : List GroupId) (n : FileName) → count_of (map visible_group ids) n ≡ 0
counts-new [] n = refl
counts-new (x ∷ xs) n = let z = zero-by (is_name_of n x) in let r = counts-new xs n in omega (arith, z, r)

pub names-new : (ids : List GroupId) → retired_names (map visible_group ids) ≡ []
names-new [] = refl
names-new (x ∷ xs) = names-new xs
