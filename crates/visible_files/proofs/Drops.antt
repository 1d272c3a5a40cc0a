-- The first retired name that isn't pinned, and what is left without it.
use Rattle.std.proofs.Common.{◌≡◌, ℕ, zero, suc, ◌+◌, ◌≤◌, ◌<◌, Bool, true, false, cond, not, ◌&&◌, ◌||◌, ◌==◌, nat_lt, List, [], ◌∷◌, ◌++◌, length, get_or, set, Option, Some, None, is_none, find, refl, sym, ◌∙◌, ap, subst, arith, eqb-true}
use Rattle.std.proofs.lemmas.Bool.{false≢true}
use Rattle.std.specs.List.{list_any, list_all, remove}
use Rattle.std.specs.Option.{option_and_then, option_map_or}
use Rattle.agg_model.specs.Entity.{is_domain_entity}
use Rattle.agg_model.specs.declared.entity.Entity.{Entity}
use Rattle.agg_model.specs.declared.entity.FileKind.{FileKind}
use Rattle.agg_model.specs.declared.entity.FileKind.TheVariants.{Kv, Bt, Kvi, V, Vi, Ef, Efi}
use Rattle.merge_ranges.specs.Kind.{kind_number, is_index_kind}
use Rattle.merge_ranges.specs.Name.{has_kind}
use Rattle.merge_ranges.specs.declared.name.FileName.{FileName}
use Rattle.visible_files.specs.declared.ids.GroupId.{GroupId}
use Rattle.visible_files.specs.declared.held.HeldGroup.{HeldGroup}
use Rattle.visible_files.specs.Ids.{same_id, place, Ascends}
use Rattle.visible_files.specs.Held.{id_of_name, is_name_of, held_places, pins_at, count_of, kinds_from, name_with, names_with, names_left, retired_names, same_file, is_retired, is_shown, is_hidden, is_shown_name, has_kind_left, is_free, free_place, free_name, first_free, first_unpinned, kind_after, state_after, rest_of, without_first, IsHeld}
use Rattle.visible_files.proofs.Equalities.{or-true, both, first_of, second_of, any-append}
use Rattle.visible_files.proofs.Orders.{ascends_lower}
use Rattle.visible_files.proofs.Cuts.{same_id-itself}
use Rattle.visible_files.proofs.Lookups.{differs, is_name_of-other, count_of-at}
use Rattle.visible_files.proofs.Switches.{names-any}
use Rattle.visible_files.proofs.StrayNames.{same_file-true, same_disk_name-true}
use Rattle.visible_files.proofs.Pins.{shown_name-named}
use Rattle.std.proofs.lemmas.Bool.{lt-ltb}
use Rattle.merge_ranges.specs.declared.name.DiskName.{DiskName}
use Rattle.visible_files.specs.Strays.{same_disk_name, is_loose_among}
use Rattle.visible_files.specs.Sets.{is_seen, is_loose, or_stray, first_to_drop}
use Rattle.visible_files.specs.Held.{is_named}

-- ---- the code's steps

none-left-by : (h : HeldGroup) (hs : List HeldGroup) (t : Bool) → suc (length hs) ≤ cond t 0 (suc (free_place hs)) → (length hs ≤ free_place hs → hs ≡ without_first hs) → h ∷ hs ≡ cond t (rest_of h ++ hs) (h ∷ without_first hs)
none-left-by h hs true le rest = absurd (omega arith)
none-left-by h hs false le rest = ap (λ l. h ∷ l) (rest (omega arith))

pub none-left : (held : List HeldGroup) → length held ≤ free_place held → held ≡ without_first held
none-left [] le = refl
none-left (h ∷ hs) le = none-left-by h hs (is_free h) le (none-left hs)

set-by : (h g : HeldGroup) (hs : List HeldGroup) (d : HeldGroup) (t : Bool) → cond t 0 (suc (free_place hs)) < suc (length hs) → rest_of (get_or (h ∷ hs) (cond t 0 (suc (free_place hs))) d) ≡ g ∷ []
    → (free_place hs < length hs → rest_of (get_or hs (free_place hs) d) ≡ g ∷ [] → set hs (free_place hs) g ≡ without_first hs) → set (h ∷ hs) (cond t 0 (suc (free_place hs))) g ≡ cond t (rest_of h ++ hs) (h ∷ without_first hs)
set-by h g hs d true lt e rest = ap (λ l. l ++ hs) (sym e)
set-by h g hs d false lt e rest = ap (λ l. h ∷ l) (rest (omega arith) e)

pub set-first : (held : List HeldGroup) (g d : HeldGroup) → free_place held < length held → rest_of (get_or held (free_place held) d) ≡ g ∷ [] → set held (free_place held) g ≡ without_first held
set-first [] g d lt e = absurd (omega arith)
set-first (h ∷ hs) g d lt e = set-by h g hs d (is_free h) lt e (set-first hs g d)

remove-by : (h : HeldGroup) (hs : List HeldGroup) (d : HeldGroup) (t : Bool) → cond t 0 (suc (free_place hs)) < suc (length hs) → rest_of (get_or (h ∷ hs) (cond t 0 (suc (free_place hs))) d) ≡ []
    → (free_place hs < length hs → rest_of (get_or hs (free_place hs) d) ≡ [] → remove hs (free_place hs) ≡ without_first hs) → remove (h ∷ hs) (cond t 0 (suc (free_place hs))) ≡ cond t (rest_of h ++ hs) (h ∷ without_first hs)
remove-by h hs d true lt e rest = ap (λ l. l ++ hs) (sym e)
remove-by h hs d false lt e rest = ap (λ l. h ∷ l) (rest (omega arith) e)

pub remove-first : (held : List HeldGroup) (d : HeldGroup) → free_place held < length held → rest_of (get_or held (free_place held) d) ≡ [] → remove held (free_place held) ≡ without_first held
remove-first [] d lt e = absurd (omega arith)
remove-first (h ∷ hs) d lt e = remove-by h hs d (is_free h) lt e (remove-first hs d)

-- ---- a free group

pub record Free (h : HeldGroup) : Type 0 where
  pub kind : FileKind
  pub is : h.retired ≡ Some kind
  pub pins : h.pins ≡ 0

free-by : (h : HeldGroup) (o : Option FileKind) → h.retired ≡ o → (not (is_none o) && (h.pins == 0)) ≡ true → Free h
free-by h None e f = absurd (false≢true f)
free-by h (Some k) e f = record { kind = k; is = e; pins = eqb-true h.pins 0 f }

free : (h : HeldGroup) → is_free h ≡ true → Free h
free h f = free-by h h.retired refl f

module _ (n : FileName) where
  count-by : (h : HeldGroup) (hs : List HeldGroup) (o : Option FileKind) → h.pins ≡ 0 → count_of (state_after h o ++ hs) n ≡ pins_at n h + count_of hs n
  count-by h hs None z = let e : pins_at n h ≡ 0 = zero-pins (is_name_of n h.id) in omega arith
    where
      zero-pins : (t : Bool) → cond t h.pins 0 ≡ 0
      zero-pins true = z
      zero-pins false = refl
  count-by h hs (Some k) z = refl

  counts-by : (h : HeldGroup) (hs : List HeldGroup) (t : Bool) → is_free h ≡ t → count_of (without_first hs) n ≡ count_of hs n → count_of (cond t (rest_of h ++ hs) (h ∷ without_first hs)) n ≡ pins_at n h + count_of hs n
  counts-by h hs true e rest = count-by h hs (option_and_then kind_after h.retired) (free h e).pins
  counts-by h hs false e rest = ap (λ m. pins_at n h + m) rest

  pub dropped-counts : (held : List HeldGroup) → count_of (without_first held) n ≡ count_of held n
  dropped-counts [] = refl
  dropped-counts (h ∷ hs) = counts-by h hs (is_free h) refl (dropped-counts hs)

order-by : (low : ℕ) (h : HeldGroup) (hs : List HeldGroup) (o : Option FileKind) → Ascends low (held_places (h ∷ hs)) → Ascends low (held_places (state_after h o ++ hs))
order-by low h hs None up = ascends_lower (suc (place h.id)) low (held_places hs) up.1 (let a : low ≤ place h.id = up.0 in omega arith)
order-by low h hs (Some k) up = up

orders-by : (low : ℕ) (h : HeldGroup) (hs : List HeldGroup) (t : Bool) → Ascends low (held_places (h ∷ hs)) → Ascends (suc (place h.id)) (held_places (without_first hs)) → Ascends low (held_places (cond t (rest_of h ++ hs) (h ∷ without_first hs)))
orders-by low h hs true up rest = order-by low h hs (option_and_then kind_after h.retired) up
orders-by low h hs false up rest = (up.0, rest)

pub dropped-order : (low : ℕ) (held : List HeldGroup) → Ascends low (held_places held) → Ascends low (held_places (without_first held))
dropped-order low [] up = tt
dropped-order low (h ∷ hs) up = orders-by low h hs (is_free h) up (dropped-order (suc (place h.id)) hs up.1)

shown-by : (h : HeldGroup) (hs : List HeldGroup) (id : GroupId) (o : Option FileKind) → Free h → is_shown (state_after h o ++ hs) id ≡ is_shown (h ∷ hs) id
shown-by h hs id None f = ap (λ r. (is_none r && same_id h.id id) || is_shown hs id) (sym f.is)
shown-by h hs id (Some k) f = ap (λ r. (is_none r && same_id h.id id) || is_shown hs id) (sym f.is)

showns-by : (h : HeldGroup) (hs : List HeldGroup) (id : GroupId) (t : Bool) → is_free h ≡ t → is_shown (without_first hs) id ≡ is_shown hs id → is_shown (cond t (rest_of h ++ hs) (h ∷ without_first hs)) id ≡ is_shown (h ∷ hs) id
showns-by h hs id true e rest = shown-by h hs id (option_and_then kind_after h.retired) (free h e)
showns-by h hs id false e rest = ap (λ b. (is_none h.retired && same_id h.id id) || b) rest

pub dropped-shown : (held : List HeldGroup) (id : GroupId) → is_shown (without_first held) id ≡ is_shown held id
dropped-shown [] id = refl
dropped-shown (h ∷ hs) id = showns-by h hs id (is_free h) refl (dropped-shown hs id)

hidden-by : (h : HeldGroup) (hs : List HeldGroup) (id : GroupId) (o : Option FileKind) → Free h → is_hidden (state_after h o ++ hs) id ≡ true → is_hidden (h ∷ hs) id ≡ true
hidden-by h hs id None f is = ap (λ b. (not (is_none h.retired) && same_id h.id id) || b) is ∙ or-true (not (is_none h.retired) && same_id h.id id)
hidden-by h hs id (Some k) f is = ap (λ r. (not (is_none r) && same_id h.id id) || is_hidden hs id) f.is ∙ is

or-up : (a b c : Bool) → (b ≡ true → c ≡ true) → (a || b) ≡ true → (a || c) ≡ true
or-up true b c h is = refl
or-up false b c h is = h is

hiddens-by : (h : HeldGroup) (hs : List HeldGroup) (id : GroupId) (t : Bool) → is_free h ≡ t → (is_hidden (without_first hs) id ≡ true → is_hidden hs id ≡ true) → is_hidden (cond t (rest_of h ++ hs) (h ∷ without_first hs)) id ≡ true → is_hidden (h ∷ hs) id ≡ true
hiddens-by h hs id true e rest is = hidden-by h hs id (option_and_then kind_after h.retired) (free h e) is
hiddens-by h hs id false e rest is = or-up (not (is_none h.retired) && same_id h.id id) (is_hidden (without_first hs) id) (is_hidden hs id) rest is

pub dropped-hidden : (held : List HeldGroup) (id : GroupId) → is_hidden (without_first held) id ≡ true → is_hidden held id ≡ true
dropped-hidden [] id is = is
dropped-hidden (h ∷ hs) id is = hiddens-by h hs id (is_free h) refl (dropped-hidden hs id) is

after-has-by : (t : Bool) (k j : FileKind) → kind_after k ≡ Some j → (t || is_index_kind k) ≡ true → (t || is_index_kind j) ≡ true
unfolding kind_after is_index_kind
after-has-by true k j e h = refl
after-has-by false Kv j e h = absurd (false≢true h)
after-has-by false Bt j e h = absurd (false≢true h)
after-has-by false Kvi j e h = absurd (false≢true h)
after-has-by false V j e h = absurd (false≢true h)
after-has-by false Vi j e h = absurd (false≢true h)
after-has-by false Ef j e h = ap is_index_kind (let s : Efi ≡ j = cc in sym s)
after-has-by false Efi j e h = cc

after-has : (e : Entity) (k j : FileKind) → kind_after k ≡ Some j → has_kind e k ≡ true → has_kind e j ≡ true
unfolding has_kind
after-has e k j s h = after-has-by (is_domain_entity e) k j s h

left-state : (h : HeldGroup) (hs : List HeldGroup) (k : FileKind) (o : Option FileKind) → kind_after k ≡ o → has_kind h.id.entity k ≡ true → list_all has_kind_left hs ≡ true → list_all has_kind_left (state_after h o ++ hs) ≡ true
left-state h hs k None e is rest = rest
left-state h hs k (Some j) e is rest = both (has_kind h.id.entity j) (list_all has_kind_left hs) (after-has h.id.entity k j e is) rest

kind-left : (h : HeldGroup) (f : Free h) → has_kind_left h ≡ true → has_kind h.id.entity f.kind ≡ true
kind-left h f is = ap (λ r. has_kind_left (record h { retired = r })) (sym f.is) ∙ is

lefts-by : (h : HeldGroup) (hs : List HeldGroup) (t : Bool) → is_free h ≡ t → has_kind_left h ≡ true → list_all has_kind_left hs ≡ true → list_all has_kind_left (without_first hs) ≡ true → list_all has_kind_left (cond t (rest_of h ++ hs) (h ∷ without_first hs)) ≡ true
lefts-by h hs true e is all rest =
    let f = free h e in
    left-state h hs f.kind (option_and_then kind_after h.retired) (ap (option_and_then kind_after) (sym f.is)) (kind-left h f is) all
lefts-by h hs false e is all rest = both (has_kind_left h) (list_all has_kind_left (without_first hs)) is rest

pub dropped-left : (held : List HeldGroup) → list_all has_kind_left held ≡ true → list_all has_kind_left (without_first held) ≡ true
dropped-left [] is = is
dropped-left (h ∷ hs) is = lefts-by h hs (is_free h) refl (first_of (has_kind_left h) (list_all has_kind_left hs) is) (second_of (has_kind_left h) (list_all has_kind_left hs) is) (dropped-left hs (second_of (has_kind_left h) (list_all has_kind_left hs) is))

pub dropped-held : (ids : List GroupId) (held : List HeldGroup) → IsHeld ids held → IsHeld ids (without_first held)
dropped-held ids held h = record {
  order = dropped-order 0 held h.order;
  shown = λ id. dropped-shown held id ∙ h.shown id;
  hidden = λ id is. h.hidden id (dropped-hidden held id is);
  left = dropped-left held h.left;
}

-- ---- the names that are left

pub names-split : (id : GroupId) (k : FileKind) → names_with id (kinds_from k) ≡ name_with id k ∷ names_left id (kind_after k)
unfolding kind_after
names-split id Kv = refl
names-split id Bt = refl
names-split id Kvi = refl
names-split id V = refl
names-split id Vi = refl
names-split id Ef = refl
names-split id Efi = refl

and-false : (b : Bool) → (b && false) ≡ false
and-false true = refl
and-false false = refl

later-others : (id : GroupId) (k : FileKind) → list_any (λ m. same_file m (name_with id k)) (names_left id (kind_after k)) ≡ false
unfolding kind_after kind_number
later-others id Kv = names-any id (name_with id Kv) (kinds_from Bt) ∙ and-false (same_id id id)
later-others id Bt = names-any id (name_with id Bt) (kinds_from Kvi) ∙ and-false (same_id id id)
later-others id Kvi = names-any id (name_with id Kvi) (kinds_from V) ∙ and-false (same_id id id)
later-others id V = names-any id (name_with id V) (kinds_from Vi) ∙ and-false (same_id id id)
later-others id Vi = names-any id (name_with id Vi) (kinds_from Ef) ∙ and-false (same_id id id)
later-others id Ef = names-any id (name_with id Ef) (kinds_from Efi) ∙ and-false (same_id id id)
later-others id Efi = refl

left-other : (id : GroupId) (n : FileName) (o : Option FileKind) → (place id ≡ place (id_of_name n) → ⊥) → list_any (λ m. same_file m n) (names_left id o) ≡ false
left-other id n None apart = refl
left-other id n (Some k) apart = names-any id n (kinds_from k) ∙ ap (λ b. b && list_any (λ j. kind_number j == kind_number n.kind) (kinds_from k)) (differs id (id_of_name n) apart)

retired-below : (low : ℕ) (held : List HeldGroup) (n : FileName) → Ascends low (held_places held) → place (id_of_name n) < low → is_retired held n ≡ false
retired-below low [] n up below = refl
retired-below low (h ∷ hs) n up below =
    let a : low ≤ place h.id = up.0 in
    let apart : place h.id ≡ place (id_of_name n) → ⊥ = λ e. absurd (omega arith) in
    any-append (λ m. same_file m n) (names_left h.id h.retired) (retired_names hs)
    ∙ (λ i. left-other h.id n h.retired apart i || retired-below (suc (place h.id)) hs n up.1 (omega arith) i)

above-by : (low : ℕ) (h : HeldGroup) (hs : List HeldGroup) (m : FileName) (o : Option FileKind) (t : Bool) → (h.pins == 0) ≡ t → low ≤ place h.id → free_name h.id h.pins o (first_free hs) ≡ Some m → (first_free hs ≡ Some m → suc (place h.id) ≤ place (id_of_name m)) → low ≤ place (id_of_name m)
above-by low h hs m None t e le is rest = let r = rest is in omega arith
above-by low h hs m (Some k) true e le is rest =
    let s : name_with h.id k ≡ m = (let q : Some (name_with h.id k) ≡ Some m = ap (λ b. cond b (Some (name_with h.id k)) (first_free hs)) (sym e) ∙ is in cc) in
    subst (λ (x : FileName). low ≤ place (id_of_name x)) s le
above-by low h hs m (Some k) false e le is rest = let r = rest (ap (λ b. cond b (Some (name_with h.id k)) (first_free hs)) (sym e) ∙ is) in omega arith

first-above : (low : ℕ) (held : List HeldGroup) (m : FileName) → Ascends low (held_places held) → first_free held ≡ Some m → low ≤ place (id_of_name m)
first-above low [] m up is = cc
first-above low (h ∷ hs) m up is = above-by low h hs m h.retired (h.pins == 0) refl up.0 is (first-above (suc (place h.id)) hs m up.1)

state-names : (h : HeldGroup) (hs : List HeldGroup) (o : Option FileKind) → retired_names (state_after h o ++ hs) ≡ names_left h.id o ++ retired_names hs
state-names h hs None = refl
state-names h hs (Some k) = refl

free-first : (h : HeldGroup) (hs : List HeldGroup) (m : FileName) (f : Free h) → first_free (h ∷ hs) ≡ Some m → name_with h.id f.kind ≡ m
free-first h hs m f is =
    let q : Some (name_with h.id f.kind) ≡ Some m = sym (ap (λ r. free_name h.id h.pins r (first_free hs)) f.is ∙ ap (λ p. cond (p == 0) (Some (name_with h.id f.kind)) (first_free hs)) f.pins) ∙ is in
    cc

drop-join : (S T R : Bool) → (S ≡ true → T ≡ false) → (S ≡ true → R ≡ false) → (T || R) ≡ (((S || T) || R) && not S)
drop-join true T R t r = (λ i. t refl i || r refl i)
drop-join false true R t r = refl
drop-join false false true t r = refl
drop-join false false false t r = refl

keep-join : (S A R : Bool) → (S ≡ true → A ≡ false) → (A || (R && not S)) ≡ ((A || R) && not S)
keep-join true A R a = (λ i. a refl i || and-false R i) ∙ sym (and-false (A || R))
keep-join false true R a = refl
keep-join false false true a = refl
keep-join false false false a = refl

not_free-first : (h : HeldGroup) (hs : List HeldGroup) (o : Option FileKind) (t : Bool) → (h.pins == 0) ≡ t → (not (is_none o) && t) ≡ false → free_name h.id h.pins o (first_free hs) ≡ first_free hs
not_free-first h hs None t e f = refl
not_free-first h hs (Some k) true e f = absurd (false≢true (sym f))
not_free-first h hs (Some k) false e f = ap (λ b. cond b (Some (name_with h.id k)) (first_free hs)) e

module _ (n m : FileName) where
  same-place : same_file m n ≡ true → place (id_of_name m) ≡ place (id_of_name n)
  same-place s = ap (λ x. place (id_of_name x)) (same_file-true m n s)

  drops-by : (low : ℕ) (h : HeldGroup) (hs : List HeldGroup) (t : Bool) → is_free h ≡ t → Ascends low (held_places (h ∷ hs)) → first_free (h ∷ hs) ≡ Some m
      → (first_free hs ≡ Some m → is_retired (without_first hs) n ≡ (is_retired hs n && not (same_file m n)))
      → is_retired (cond t (rest_of h ++ hs) (h ∷ without_first hs)) n ≡ (is_retired (h ∷ hs) n && not (same_file m n))
  drops-by low h hs true e up is rest =
      let f = free h e in
      let first = free-first h hs m f is in
      let T = list_any (λ x. same_file x n) (names_left h.id (kind_after f.kind)) in
      let left : option_and_then kind_after h.retired ≡ kind_after f.kind = ap (option_and_then kind_after) f.is in
      ap (list_any (λ x. same_file x n)) (state-names h hs (option_and_then kind_after h.retired))
      ∙ any-append (λ x. same_file x n) (names_left h.id (option_and_then kind_after h.retired)) (retired_names hs)
      ∙ ap (λ o. list_any (λ x. same_file x n) (names_left h.id o) || is_retired hs n) left
      ∙ drop-join (same_file m n) T (is_retired hs n)
      (λ s. ap (λ (x : FileName). list_any (λ y. same_file y x) (names_left h.id (kind_after f.kind))) (sym (first ∙ same_file-true m n s)) ∙ later-others h.id f.kind)
      (λ s. retired-below (suc (place h.id)) hs n up.1 (let p : place h.id ≡ place (id_of_name n) = ap (λ (x : FileName). place (id_of_name x)) first ∙ same-place s in omega arith))
      ∙ ap (λ (x : FileName). ((same_file x n || T) || is_retired hs n) && not (same_file m n)) (sym first)
      ∙ ap (λ l. (list_any (λ x. same_file x n) l || is_retired hs n) && not (same_file m n)) (sym (names-split h.id f.kind))
      ∙ ap (λ o. (list_any (λ x. same_file x n) (names_left h.id o) || is_retired hs n) && not (same_file m n)) (sym f.is)
      ∙ ap (λ b. b && not (same_file m n)) (sym (any-append (λ x. same_file x n) (names_left h.id h.retired) (retired_names hs)))
  drops-by low h hs false e up is rest =
      let later = sym (not_free-first h hs h.retired (h.pins == 0) refl e) ∙ is in
      any-append (λ x. same_file x n) (names_left h.id h.retired) (retired_names (without_first hs))
      ∙ ap (λ b. list_any (λ x. same_file x n) (names_left h.id h.retired) || b) (rest later)
      ∙ keep-join (same_file m n) (list_any (λ x. same_file x n) (names_left h.id h.retired)) (is_retired hs n)
      (λ s. left-other h.id n h.retired (λ p.
      let above : suc (place h.id) ≤ place (id_of_name m) = first-above (suc (place h.id)) hs m up.1 later in
      let q = same-place s in
      absurd (omega (arith, p, q))))
      ∙ ap (λ b. b && not (same_file m n)) (sym (any-append (λ x. same_file x n) (names_left h.id h.retired) (retired_names hs)))

  pub dropped-retired : (low : ℕ) (held : List HeldGroup) → Ascends low (held_places held) → first_free held ≡ Some m → is_retired (without_first held) n ≡ (is_retired held n && not (same_file m n))
  dropped-retired low [] up is = cc
  dropped-retired low (h ∷ hs) up is = drops-by low h hs (is_free h) refl up is (dropped-retired (suc (place h.id)) hs up.1)

-- ---- it is the first by the list of names

kinds-have-by : (t : Bool) (k : FileKind) → (t || is_index_kind k) ≡ true → list_all (λ j. t || is_index_kind j) (kinds_from k) ≡ true
unfolding is_index_kind
kinds-have-by true Kv h = refl
kinds-have-by true Bt h = refl
kinds-have-by true Kvi h = refl
kinds-have-by true V h = refl
kinds-have-by true Vi h = refl
kinds-have-by true Ef h = refl
kinds-have-by true Efi h = refl
kinds-have-by false Kv h = absurd (false≢true h)
kinds-have-by false Bt h = absurd (false≢true h)
kinds-have-by false Kvi h = absurd (false≢true h)
kinds-have-by false V h = absurd (false≢true h)
kinds-have-by false Vi h = absurd (false≢true h)
kinds-have-by false Ef h = refl
kinds-have-by false Efi h = refl

kinds-have : (e : Entity) (k : FileKind) → has_kind e k ≡ true → list_all (λ j. has_kind e j) (kinds_from k) ≡ true
unfolding has_kind
kinds-have e k h = kinds-have-by (is_domain_entity e) k h

is_name-with : (id : GroupId) (k : FileKind) → has_kind id.entity k ≡ true → is_name_of (name_with id k) id ≡ true
is_name-with id k h = both (same_id id id) (has_kind id.entity k) (same_id-itself id) h

module _ (p : FileName → Bool) where
  skip-by : (x : FileName) (xs ys : List FileName) (t : Bool) → p x ≡ t → (t || list_any p xs) ≡ false → (list_any p xs ≡ false → find p (xs ++ ys) ≡ find p ys) → cond t (Some x) (find p (xs ++ ys)) ≡ find p ys
  skip-by x xs ys true e h rest = absurd (false≢true (sym h))
  skip-by x xs ys false e h rest = rest h

  skip : (xs ys : List FileName) → list_any p xs ≡ false → find p (xs ++ ys) ≡ find p ys
  skip [] ys h = refl
  skip (x ∷ xs) ys h = skip-by x xs ys (p x) refl h (skip xs ys)

  none-pass : (id : GroupId) (ks : List FileKind) → list_all (λ j. has_kind id.entity j) ks ≡ true → ((n : FileName) → is_name_of n id ≡ true → p n ≡ false) → list_any p (names_with id ks) ≡ false
  none-pass id [] h none = refl
  none-pass id (k ∷ ks) h none =
      (λ i. none (name_with id k) (is_name-with id k (first_of (has_kind id.entity k) (list_all (λ j. has_kind id.entity j) ks) h)) i
      || none-pass id ks (second_of (has_kind id.entity k) (list_all (λ j. has_kind id.entity j) ks) h) none i)

  found-by : (id : GroupId) (pins : ℕ) (o : Option FileKind) (t : Bool) (rest : List FileName) → (pins == 0) ≡ t → option_map_or (λ k. has_kind id.entity k) o true ≡ true → ((n : FileName) → is_name_of n id ≡ true → p n ≡ t)
      → find p (names_left id o ++ rest) ≡ free_name id pins o (find p rest)
  found-by id pins None t rest e h at = refl
  found-by id pins (Some k) true rest e h at =
      ap (λ l. find p (l ++ rest)) (names-split id k)
      ∙ ap (λ b. cond b (Some (name_with id k)) (find p (names_left id (kind_after k) ++ rest))) (at (name_with id k) (is_name-with id k h))
      ∙ ap (λ b. cond b (Some (name_with id k)) (find p rest)) (sym e)
  found-by id pins (Some k) false rest e h at =
      skip (names_with id (kinds_from k)) rest (none-pass id (kinds_from k) (kinds-have id.entity k h) at)
      ∙ ap (λ b. cond b (Some (name_with id k)) (find p rest)) (sym e)

  first-of-names : (hs : List HeldGroup) → list_all has_kind_left hs ≡ true → ((i : ℕ) (d : HeldGroup) → i < length hs → (n : FileName) → is_name_of n (get_or hs i d).id ≡ true → p n ≡ ((get_or hs i d).pins == 0))
      → find p (retired_names hs) ≡ first_free hs
  first-of-names [] left at = refl
  first-of-names (h ∷ hs) left at =
      found-by h.id h.pins h.retired (h.pins == 0) (retired_names hs) refl (first_of (has_kind_left h) (list_all has_kind_left hs) left) (at 0 h (omega arith))
      ∙ ap (free_name h.id h.pins h.retired) (first-of-names hs (second_of (has_kind_left h) (list_all has_kind_left hs) left) (λ i d lt. at (suc i) d (omega arith)))

pub first_free-unpinned : (held : List HeldGroup) → Ascends 0 (held_places held) → list_all has_kind_left held ≡ true → first_unpinned held ≡ first_free held
first_free-unpinned held up left =
    first-of-names (λ n. count_of held n == 0) held left (λ i d lt n is. ap (λ c. c == 0) (count_of-at 0 held n i d up lt is))

-- what isn't pinned is retired only where there is a first
none-same : (p : FileName → Bool) (xs : List FileName) (n : FileName) → find p xs ≡ None → p n ≡ true → list_any (λ m. same_file m n) xs ≡ false
none-same p [] n none is = refl
none-same p (x ∷ xs) n none is = by (p x) (same_file x n) refl refl none (none-same p xs n)
  where
    by : (t s : Bool) → p x ≡ t → same_file x n ≡ s → cond t (Some x) (find p xs) ≡ None → (find p xs ≡ None → p n ≡ true → list_any (λ m. same_file m n) xs ≡ false) → (s || list_any (λ m. same_file m n) xs) ≡ false
    by true s e f none rest = cc
    by false true e f none rest = absurd (false≢true (sym e ∙ ap p (same_file-true x n f) ∙ is))
    by false false e f none rest = rest none is

pub retired-pinned : (held : List HeldGroup) (n : FileName) → first_unpinned held ≡ None → count_of held n ≡ 0 → is_retired held n ≡ false
retired-pinned held n none zero-count = none-same (λ m. count_of held m == 0) (retired_names held) n none (ap (λ c. c == 0) zero-count)

-- ---- with the strays

unchanged-by : (h : HeldGroup) (hs : List HeldGroup) (t : Bool) → is_free h ≡ t → first_free (h ∷ hs) ≡ None → (first_free hs ≡ None → without_first hs ≡ hs) → cond t (rest_of h ++ hs) (h ∷ without_first hs) ≡ h ∷ hs
unchanged-by h hs true e none rest =
    let f = free h e in
    let q : Some (name_with h.id f.kind) ≡ None = sym (ap (λ r. free_name h.id h.pins r (first_free hs)) f.is ∙ ap (λ p. cond (p == 0) (Some (name_with h.id f.kind)) (first_free hs)) f.pins) ∙ none in
    cc
unchanged-by h hs false e none rest = ap (λ l. h ∷ l) (rest (sym (not_free-first h hs h.retired (h.pins == 0) refl e) ∙ none))

unchanged : (held : List HeldGroup) → first_free held ≡ None → without_first held ≡ held
unchanged [] none = refl
unchanged (h ∷ hs) none = unchanged-by h hs (is_free h) refl none (unchanged hs)

find-passes : {X : Type 0} (p : X → Bool) (xs : List X) (x : X) → find p xs ≡ Some x → p x ≡ true
find-passes p [] x is = cc
find-passes p (y ∷ ys) x is = by (p y) refl is (find-passes p ys x)
  where
    by : (t : Bool) → p y ≡ t → cond t (Some y) (find p ys) ≡ Some x → (find p ys ≡ Some x → p x ≡ true) → p x ≡ true
    by true e is rest = let s : y ≡ x = cc in ap p (sym s) ∙ e
    by false e is rest = rest is

pub find-same : {X : Type 0} (p q : X → Bool) → ((x : X) → p x ≡ q x) → (xs : List X) → find p xs ≡ find q xs
find-same p q same [] = refl
find-same p q same (x ∷ xs) = λ i. cond (same x i) (Some x) (find-same p q same xs i)

pub loose-same : (ids : List GroupId) (held : List HeldGroup) → IsHeld ids held → (d : DiskName) → is_loose_among held d ≡ is_loose ids held d
loose-same ids held h d = ap (λ b. d.temp || not (b || nat_lt 0 (count_of held d.name))) (shown_name-named ids held d.name h)

pub first-is : (ids : List GroupId) (held : List HeldGroup) (strays : List DiskName) → IsHeld ids held → or_stray (first_free held) (find (λ d. is_loose_among held d) strays) ≡ first_to_drop ids held strays
first-is ids held strays h =
    (λ i. or_stray (sym (first_free-unpinned held h.order h.left) i) (find-same (λ d. is_loose_among held d) (is_loose ids held) (loose-same ids held h) strays i))

uncounted-by : (c : ℕ) (s : Bool) → not (s || nat_lt 0 c) ≡ true → c ≡ 0
uncounted-by zero s h = refl
uncounted-by (suc c) true h = absurd (false≢true h)
uncounted-by (suc c) false h = absurd (false≢true (ap not (sym (lt-ltb 0 (suc c) (omega arith))) ∙ h))

loose-uncounted : (ids : List GroupId) (held : List HeldGroup) (d : DiskName) → is_loose ids held d ≡ true → d.temp ≡ false → count_of held d.name ≡ 0
loose-uncounted ids held d loose plain = uncounted-by (count_of held d.name) (is_named ids d.name) (ap (λ t. t || not (is_seen ids held d.name)) (sym plain) ∙ loose)

same-plain : (m n : FileName) → same_disk_name (record { name = m; temp = false }) (record { name = n; temp = false }) ≡ same_file m n
unfolding same_disk_name
same-plain m n = and-true (same_file m n)
  where
    and-true : (b : Bool) → (b && true) ≡ b
    and-true true = refl
    and-true false = refl

stray-note-by : (ids : List GroupId) (held : List HeldGroup) (name : DiskName) (n : FileName) (t : Bool) → same_disk_name name (record { name = n; temp = false }) ≡ t → first_unpinned held ≡ None → is_loose ids held name ≡ true → is_retired held n ≡ (is_retired held n && not t)
stray-note-by ids held name n true e none loose =
    let same = same_disk_name-true name (record { name = n; temp = false }) e in
    let z : count_of held n ≡ 0 = ap (λ (d : DiskName). count_of held d.name) (sym same) ∙ loose-uncounted ids held name loose (ap (λ (d : DiskName). d.temp) same) in
    retired-pinned held n none z ∙ sym (and-false (is_retired held n))
stray-note-by ids held name n false e none loose = sym (and-true (is_retired held n))
  where
    and-true : (b : Bool) → (b && true) ≡ b
    and-true true = refl
    and-true false = refl

note-by : (ids : List GroupId) (held : List HeldGroup) (strays : List DiskName) (name : DiskName) → IsHeld ids held → (o : Option FileName) → first_free held ≡ o → or_stray o (find (is_loose ids held) strays) ≡ Some name
    → (n : FileName) → is_retired (without_first held) n ≡ (is_retired held n && not (same_disk_name name (record { name = n; temp = false })))
note-by ids held strays name h None e is n =
    ap (λ l. is_retired l n) (unchanged held e)
    ∙ stray-note-by ids held name n (same_disk_name name (record { name = n; temp = false })) refl (first_free-unpinned held h.order h.left ∙ e) (find-passes (is_loose ids held) strays name is)
note-by ids held strays name h (Some m) e is n =
    let d : DiskName = record { name = m; temp = false } in
    let same : d ≡ name = cc in
    dropped-retired n m 0 held h.order e
    ∙ ap (λ b. is_retired held n && not b) (sym (same-plain m n))
    ∙ ap (λ x. is_retired held n && not (same_disk_name x (record { name = n; temp = false }))) same

pub dropped-note : (ids : List GroupId) (held : List HeldGroup) (strays : List DiskName) (name : DiskName) → IsHeld ids held → first_to_drop ids held strays ≡ Some name
    → (n : FileName) → is_retired (without_first held) n ≡ (is_retired held n && not (same_disk_name name (record { name = n; temp = false })))
dropped-note ids held strays name h is = note-by ids held strays name h (first_free held) refl (ap (λ o. or_stray o (find (is_loose ids held) strays)) (sym (first_free-unpinned held h.order h.left)) ∙ is)

-- ---- the first is unseen

unseen-step : (h : HeldGroup) (hs : List HeldGroup) (m : FileName) → (place h.id ≡ place (id_of_name m) → ⊥) → (is_shown_name (h ∷ hs) m || nat_lt 0 (count_of (h ∷ hs) m)) ≡ (is_shown_name hs m || nat_lt 0 (count_of hs m))
unseen-step h hs m apart =
    let none = is_name_of-other m h.id apart in
    let c : count_of (h ∷ hs) m ≡ count_of hs m = (let z : pins_at m h ≡ 0 = ap (λ t. cond t h.pins 0) none in omega arith) in
    (λ i. ((ap (λ t. (is_none h.retired && t) || is_shown_name hs m) none ∙ ap (λ b. b || is_shown_name hs m) (and-false (is_none h.retired))) i) || nat_lt 0 (c i))

unseen-below : (low : ℕ) (held : List HeldGroup) (n : FileName) → Ascends low (held_places held) → place (id_of_name n) < low → (is_shown_name held n || nat_lt 0 (count_of held n)) ≡ false
unseen-below low [] n up below = refl
unseen-below low (h ∷ hs) n up below =
    let a : low ≤ place h.id = up.0 in
    unseen-step h hs n (λ e. absurd (omega arith)) ∙ unseen-below (suc (place h.id)) hs n up.1 (omega arith)

unseen-here : (h : HeldGroup) (hs : List HeldGroup) (f : Free h) → Ascends (suc (place h.id)) (held_places hs) → (is_shown_name (h ∷ hs) (name_with h.id f.kind) || nat_lt 0 (count_of (h ∷ hs) (name_with h.id f.kind))) ≡ false
unseen-here h hs f up =
    let n = name_with h.id f.kind in
    let z : pins_at n h ≡ 0 = ap (λ p. cond (is_name_of n h.id) p 0) f.pins ∙ zero-of (is_name_of n h.id) in
    let c : count_of (h ∷ hs) n ≡ count_of hs n = omega arith in
    (λ i. (ap (λ r. (is_none r && is_name_of n h.id) || is_shown_name hs n) f.is i) || nat_lt 0 (c i)) ∙ unseen-below (suc (place h.id)) hs n up (omega arith)
  where
    zero-of : (t : Bool) → cond {A = ℕ} t 0 0 ≡ 0
    zero-of true = refl
    zero-of false = refl

unseen-by : (low : ℕ) (h : HeldGroup) (hs : List HeldGroup) (m : FileName) (t : Bool) → is_free h ≡ t → Ascends low (held_places (h ∷ hs)) → first_free (h ∷ hs) ≡ Some m
    → (first_free hs ≡ Some m → (is_shown_name hs m || nat_lt 0 (count_of hs m)) ≡ false) → (is_shown_name (h ∷ hs) m || nat_lt 0 (count_of (h ∷ hs) m)) ≡ false
unseen-by low h hs m true e up is rest =
    let f = free h e in
    ap (λ x. is_shown_name (h ∷ hs) x || nat_lt 0 (count_of (h ∷ hs) x)) (sym (free-first h hs m f is)) ∙ unseen-here h hs f up.1
unseen-by low h hs m false e up is rest =
    let later = sym (not_free-first h hs h.retired (h.pins == 0) refl e) ∙ is in
    let above : suc (place h.id) ≤ place (id_of_name m) = first-above (suc (place h.id)) hs m up.1 later in
    unseen-step h hs m (λ q. absurd (omega arith)) ∙ rest later

first-unseen : (low : ℕ) (held : List HeldGroup) (m : FileName) → Ascends low (held_places held) → first_free held ≡ Some m → (is_shown_name held m || nat_lt 0 (count_of held m)) ≡ false
first-unseen low [] m up is = cc
first-unseen low (h ∷ hs) m up is = unseen-by low h hs m (is_free h) refl up is (first-unseen (suc (place h.id)) hs m up.1)

pub first-loose : (ids : List GroupId) (held : List HeldGroup) (m : FileName) → IsHeld ids held → first_free held ≡ Some m → is_loose ids held (record { name = m; temp = false }) ≡ true
first-loose ids held m h is = ap not (ap (λ b. b || nat_lt 0 (count_of held m)) (sym (shown_name-named ids held m h)) ∙ first-unseen 0 held m h.order is)

pub stray-loose : (ids : List GroupId) (held : List HeldGroup) (strays : List DiskName) (d : DiskName) → IsHeld ids held → find (λ x. is_loose_among held x) strays ≡ Some d → is_loose ids held d ≡ true
stray-loose ids held strays d h is = sym (loose-same ids held h d) ∙ find-passes (λ x. is_loose_among held x) strays d is
