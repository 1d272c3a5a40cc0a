-- Groups found by their place.
use Rattle.std.proofs.Common.{◌≡◌, ℕ, zero, suc, ◌+◌, ◌≤◌, ◌<◌, Bool, true, false, cond, ◌&&◌, ◌||◌, List, [], ◌∷◌, length, get_or, refl, ◌∙◌, ap, arith}
use Rattle.merge_ranges.specs.Name.{has_kind}
use Rattle.merge_ranges.specs.declared.name.FileName.{FileName}
use Rattle.visible_files.specs.declared.ids.GroupId.{GroupId}
use Rattle.visible_files.specs.declared.held.HeldGroup.{HeldGroup}
use Rattle.visible_files.specs.Ids.{same_id, place, places, Ascends, IsLowerBound, contains_id}
use Rattle.visible_files.specs.Held.{id_of_name, is_name_of, held_places, pins_at, count_of}
use Rattle.visible_files.proofs.Equalities.{first_of}
use Rattle.visible_files.proofs.Orders.{ascends_least, bound_tail}
use Rattle.visible_files.proofs.Cuts.{same_id-true}

differs-by : (a b : GroupId) (t : Bool) → same_id a b ≡ t → (place a ≡ place b → ⊥) → t ≡ false
differs-by a b true e apart = absurd (apart (ap place (same_id-true a b e)))
differs-by a b false e apart = refl

-- groups at other places are others
pub differs : (a b : GroupId) → (place a ≡ place b → ⊥) → same_id a b ≡ false
differs a b apart = differs-by a b (same_id a b) refl apart

pub is_name_of-other : (n : FileName) (id : GroupId) → (place id ≡ place (id_of_name n) → ⊥) → is_name_of n id ≡ false
is_name_of-other n id apart = ap (λ t. t && has_kind n.entity n.kind) (differs id (id_of_name n) apart)

pub is_name_of-id : (n : FileName) (id : GroupId) → is_name_of n id ≡ true → id ≡ id_of_name n
is_name_of-id n id h = same_id-true id (id_of_name n) (first_of (same_id id (id_of_name n)) (has_kind n.entity n.kind) h)

pub contains-below : (low : ℕ) (ids : List GroupId) (id : GroupId) → Ascends low (places ids) → place id < low → contains_id ids id ≡ false
contains-below low [] id h below = refl
contains-below low (x ∷ xs) id h below =
    let a : low ≤ place x = h.0 in
    let apart : place x ≡ place id → ⊥ = λ e. absurd (omega arith) in
    ap (λ t. t || contains_id xs id) (differs x id apart) ∙ contains-below (suc (place x)) xs id h.1 (omega arith)

at-by : (x id : GroupId) (xs : List GroupId) (t : Bool) → same_id x id ≡ t → contains_id xs id ≡ false → (t || contains_id xs id) ≡ t
at-by x id xs true e none = refl
at-by x id xs false e none = none

pub contains-at : (low : ℕ) (ids : List GroupId) (id : GroupId) (n : ℕ) (d : GroupId) → Ascends low (places ids) → IsLowerBound place ids (place id) n → n < length ids → contains_id ids id ≡ same_id (get_or ids n d) id
contains-at low [] id n d h b lt = absurd (omega arith)
contains-at low (x ∷ xs) id zero d h b lt =
    let le : place id ≤ place x = b.rest 0 x (omega arith) lt in
    at-by x id xs (same_id x id) refl (contains-below (suc (place x)) xs id h.1 (omega arith))
contains-at low (x ∷ xs) id (suc n) d h b lt =
    let under : place x < place id = b.before 0 x (omega arith) in
    let apart : place x ≡ place id → ⊥ = λ e. absurd (omega arith) in
    ap (λ t. t || contains_id xs id) (differs x id apart) ∙ contains-at (suc (place x)) xs id n d h.1 (bound_tail place x xs (place id) n b) (omega arith)

pub contains-past : (ids : List GroupId) (id : GroupId) (n : ℕ) → IsLowerBound place ids (place id) n → length ids ≤ n → contains_id ids id ≡ false
contains-past [] id n b le = refl
contains-past (x ∷ xs) id zero b le = absurd (omega arith)
contains-past (x ∷ xs) id (suc n) b le =
    let under : place x < place id = b.before 0 x (omega arith) in
    let apart : place x ≡ place id → ⊥ = λ e. absurd (omega arith) in
    ap (λ t. t || contains_id xs id) (differs x id apart) ∙ contains-past xs id n (bound_tail place x xs (place id) n b) (omega arith)

-- ---- held groups

pub count_of-below : (low : ℕ) (held : List HeldGroup) (n : FileName) → Ascends low (held_places held) → place (id_of_name n) < low → count_of held n ≡ 0
count_of-below low [] n h below = refl
count_of-below low (x ∷ xs) n h below =
    let a : low ≤ place x.id = h.0 in
    let apart : place x.id ≡ place (id_of_name n) → ⊥ = λ e. absurd (omega arith) in
    let none : pins_at n x ≡ 0 = ap (λ t. cond t x.pins 0) (is_name_of-other n x.id apart) in
    let rest : count_of xs n ≡ 0 = count_of-below (suc (place x.id)) xs n h.1 (omega arith) in
    omega arith

place-name : (n : FileName) (id : GroupId) → is_name_of n id ≡ true → place id ≡ place (id_of_name n)
place-name n id h = ap place (is_name_of-id n id h)

-- the pins of a group are the count of its names
pub count_of-at : (low : ℕ) (held : List HeldGroup) (n : FileName) (i : ℕ) (d : HeldGroup) → Ascends low (held_places held) → i < length held → is_name_of n (get_or held i d).id ≡ true → count_of held n ≡ (get_or held i d).pins
count_of-at low [] n i d h lt is = absurd (omega arith)
count_of-at low (x ∷ xs) n zero d h lt is =
    let same : place x.id ≡ place (id_of_name n) = place-name n x.id is in
    let here : pins_at n x ≡ x.pins = ap (λ t. cond t x.pins 0) is in
    let rest : count_of xs n ≡ 0 = count_of-below (suc (place x.id)) xs n h.1 (omega arith) in
    omega arith
count_of-at low (x ∷ xs) n (suc i) d h lt is =
    let within : i < length xs = omega arith in
    let up : suc (place x.id) ≤ place (get_or xs i d).id = ascends_least (λ (g : HeldGroup). place g.id) (suc (place x.id)) xs i d h.1 within in
    let same : place (get_or xs i d).id ≡ place (id_of_name n) = place-name n (get_or xs i d).id is in
    let apart : place x.id ≡ place (id_of_name n) → ⊥ = λ e. absurd (omega arith) in
    let none : pins_at n x ≡ 0 = ap (λ t. cond t x.pins 0) (is_name_of-other n x.id apart) in
    let rest : count_of xs n ≡ (get_or xs i d).pins = count_of-at (suc (place x.id)) xs n i d h.1 within is in
    omega arith

-- the group at a place is the name's
pub record IsThere (held : List HeldGroup) (n : FileName) (at : ℕ) : Type 0 where
  pub within : at < length held
  pub is : (d : HeldGroup) → is_name_of n (get_or held at d).id ≡ true

there-by : (low : ℕ) (x : HeldGroup) (xs : List HeldGroup) (n : FileName) (t : Bool) → is_name_of n x.id ≡ t → Ascends low (held_places (x ∷ xs)) → place (id_of_name n) ≤ place x.id → 1 ≤ cond t x.pins 0 + count_of xs n → t ≡ true
there-by low x xs n true e h le some = refl
there-by low x xs n false e h le some =
    let rest : count_of xs n ≡ 0 = count_of-below (suc (place x.id)) xs n h.1 (omega arith) in
    absurd (omega arith)

-- what is counted is found
pub there : (low : ℕ) (held : List HeldGroup) (n : FileName) (at : ℕ) → Ascends low (held_places held) → IsLowerBound (λ h. place h.id) held (place (id_of_name n)) at → 1 ≤ count_of held n → IsThere held n at
there low [] n at h b some = absurd (omega arith)
there low (x ∷ xs) n zero h b some = record {
  within = omega arith;
  is = λ d. there-by low x xs n (is_name_of n x.id) refl h (b.rest 0 x (omega arith) (omega arith)) some;
}
there low (x ∷ xs) n (suc at) h b some =
    let under : place x.id < place (id_of_name n) = b.before 0 x (omega arith) in
    let apart : place x.id ≡ place (id_of_name n) → ⊥ = λ e. absurd (omega arith) in
    let none : pins_at n x ≡ 0 = ap (λ t. cond t x.pins 0) (is_name_of-other n x.id apart) in
    let some' : 1 ≤ count_of xs n = omega arith in
    let r = there (suc (place x.id)) xs n at h.1 (bound_tail (λ (g : HeldGroup). place g.id) x xs (place (id_of_name n)) at b) some' in
    record { within = (let w : at < length xs = r.within in omega arith); is = r.is }
