-- The groups of a set of single steps are in the order of names.
use Rattle.std.proofs.Common.{◌≡◌, ℕ, zero, suc, ◌+◌, ◌<◌, ◌≤◌, ◌==◌, Bool, true, false, cond, List, [], ◌∷◌, ◌++◌, map, length, get_or, All, Some, None, is_some, refl, ap, subst, sym, ◌∙◌, arith, eqb-true}
use Rattle.std.specs.List.{filter}
use Rattle.std.proofs.lemmas.Bool.{eqb-false}
use Rattle.std.proofs.lemmas.List.{append_assoc}
use Rattle.std.proofs.lemmas.List.Elements.{All-nil, All-cons, All-head, All-tail}
use Rattle.agg_model.specs.ChangeList.{ChangeList}
use Rattle.agg_model.specs.Entity.{entity_number, is_domain_entity}
use Rattle.agg_model.specs.declared.entity.Entity.{Entity}
use Rattle.agg_model.specs.declared.entity.Range.{Range}
use Rattle.agg_model.proofs.EntityLaws.{entity_number-below}
use Rattle.merge_ranges.specs.CanonicalNames.{group_names, entity_names, names_of, names_over}
use Rattle.merge_ranges.specs.CanonicalNames as canonical
use Rattle.merge_ranges.specs.Cut.{IsCutFrom, end_from}
use Rattle.visible_files.specs.Ids.{same_entity, place, places, ranges_of, Ascends}
use Rattle.visible_files.specs.Sets.{SetOf, IsFileSet}
use Rattle.collate_step.specs.Groups.{GroupFiles, AreGroupsBelow, group_of, groups_for}
use Rattle.agg_core.specs.Names.{single_step, single_steps}
use Rattle.group_files.specs.NewFiles.{files_of_groups, new_names, names_for}
use Rattle.state_store.specs.Store.{IsStepBelow}
use Rattle.state_store.specs.Settling.{id_of_group}
use Rattle.state_store.proofs.StepFiles.{names_are, IsWhole}
use Rattle.state_store.proofs.GroupsAfter.{IsOf, groups_are, for_entity}

-- ---- by entity

abbrev number_of : GroupFiles → ℕ
number_of g = entity_number g.entity

-- numbers of entities don't fall
abbrev Rising : ℕ → List GroupFiles → Type 0
Rising n [] = Unit {0}
Rising n (g ∷ gs) = (n ≤ number_of g) × Rising (number_of g) gs

abbrev groups_at : ℕ → List GroupFiles → List GroupFiles
groups_at n gs = filter (λ g. number_of g == n) gs

-- the groups with these many numbers, from one on
abbrev by_number : ℕ → ℕ → List GroupFiles → List GroupFiles
by_number zero n gs = []
by_number (suc c) n gs = groups_at n gs ++ by_number c (n + 1) gs

differs : (a b : ℕ) → a < b → (a == b) ≡ false
differs a b h = by (a == b) refl
  where
    by : (t : Bool) → (a == b) ≡ t → t ≡ false
    by true e = let same : a ≡ b = eqb-true a b e in absurd (omega (arith, h, same))
    by false e = refl

differs_back : (a b : ℕ) → b < a → (a == b) ≡ false
differs_back a b h = by (a == b) refl
  where
    by : (t : Bool) → (a == b) ≡ t → t ≡ false
    by true e = let same : a ≡ b = eqb-true a b e in absurd (omega (arith, h, same))
    by false e = refl

at_other : (n : ℕ) (g : GroupFiles) (gs : List GroupFiles) → (number_of g == n) ≡ false → groups_at n (g ∷ gs) ≡ groups_at n gs
at_other n g gs is = ap (λ t. cond t (g ∷ groups_at n gs) (groups_at n gs)) is

at_same : (n : ℕ) (g : GroupFiles) (gs : List GroupFiles) → (number_of g == n) ≡ true → groups_at n (g ∷ gs) ≡ g ∷ groups_at n gs
at_same n g gs is = ap (λ t. cond t (g ∷ groups_at n gs) (groups_at n gs)) is

-- none is below the first
none_at : (n m : ℕ) (gs : List GroupFiles) → n < m → Rising m gs → groups_at n gs ≡ []
none_at n m [] low up = refl
none_at n m (g ∷ gs) low up =
    let first : m ≤ number_of g = up.0 in
    at_other n g gs (differs_back (number_of g) n (omega (arith, first, low))) ∙ none_at n (number_of g) gs (omega (arith, first, low)) up.1

-- a group of a lower number isn't there
passed : (c n : ℕ) (g : GroupFiles) (gs : List GroupFiles) → number_of g < n → by_number c n (g ∷ gs) ≡ by_number c n gs
passed zero n g gs low = refl
passed (suc c) n g gs low =
    λ i. at_other n g gs (differs (number_of g) n low) i ++ passed c (n + 1) g gs (omega (arith, low)) i

module _ (g : GroupFiles) (gs : List GroupFiles) (up : Rising (number_of g) gs) where
  first_of_all : (c n : ℕ) → n ≤ number_of g → number_of g < n + c → by_number c n (g ∷ gs) ≡ g ∷ by_number c n gs
  first_of_all zero n low high = absurd (omega (arith, low, high))
  first_of_all (suc c) n low high = by (number_of g == n) refl (first_of_all c (n + 1))
    where
      by : (t : Bool) → (number_of g == n) ≡ t → (n + 1 ≤ number_of g → number_of g < n + 1 + c → by_number c (n + 1) (g ∷ gs) ≡ g ∷ by_number c (n + 1) gs)
          → groups_at n (g ∷ gs) ++ by_number c (n + 1) (g ∷ gs) ≡ g ∷ (groups_at n gs ++ by_number c (n + 1) gs)
      by true is later =
          let same : number_of g ≡ n = eqb-true (number_of g) n is in
          λ i. at_same n g gs is i ++ passed c (n + 1) g gs (omega (arith, same)) i
      by false is later =
          let other : number_of g ≡ n → ⊥ = eqb-false (number_of g) n is in
          let more : n + 1 ≤ number_of g = omega (arith, low, other) in
          (λ i. at_other n g gs is i ++ later more (omega (arith, high)) i)
          ∙ ap (λ l. l ++ g ∷ by_number c (n + 1) gs) (none_at n (number_of g) gs (omega (arith, more)) up)
          ∙ ap (λ l. g ∷ (l ++ by_number c (n + 1) gs)) (sym (none_at n (number_of g) gs (omega (arith, more)) up))

none_by : (c n : ℕ) → by_number c n [] ≡ []
none_by zero n = refl
none_by (suc c) n = none_by c (n + 1)

all_by : (c : ℕ) (gs : List GroupFiles) (n : ℕ) → Rising n gs → All (λ g. number_of g < c) gs → by_number c 0 gs ≡ gs
all_by c [] n up small = none_by c 0
all_by c (g ∷ gs) n up small =
    first_of_all g gs up.1 c 0 (omega arith) (let low : number_of g < c = All-head (λ h. number_of h < c) g gs small in omega (arith, low))
    ∙ ap (λ l. g ∷ l) (all_by c gs (number_of g) up.1 (All-tail (λ h. number_of h < c) g gs small))

-- ---- by place

abbrev IsSmall : GroupFiles → Type 0
IsSmall g = (g.range.from < 4096) × (g.range.to ≤ 4096)

number_up : (x y : GroupFiles) → IsSmall x → IsSmall y → suc (place (id_of_group x)) ≤ place (id_of_group y) → number_of x ≤ number_of y
unfolding place
number_up x y small_x small_y le =
    let a = small_x.0 in
    let b = small_x.1 in
    let c = small_y.0 in
    let d = small_y.1 in
    omega (arith, a, b, c, d, le)

rising_behind : (x : GroupFiles) (gs : List GroupFiles) → IsSmall x → All IsSmall gs → Ascends (suc (place (id_of_group x))) (places (map id_of_group gs)) → Rising (number_of x) gs
rising_behind x [] small all up = tt
rising_behind x (g ∷ gs) small all up =
    (number_up x g small (All-head IsSmall g gs all) up.0, rising_behind g gs (All-head IsSmall g gs all) (All-tail IsSmall g gs all) up.1)

rising_all : (low : ℕ) (gs : List GroupFiles) → All IsSmall gs → Ascends low (places (map id_of_group gs)) → Rising 0 gs
rising_all low [] all up = tt
rising_all low (g ∷ gs) all up = (omega arith, rising_behind g gs (All-head IsSmall g gs all) (All-tail IsSmall g gs all) up.1)

-- ---- single steps

abbrev singles : ℕ → ℕ → List Range
singles zero a = []
singles (suc c) a = single_step a ∷ singles c (a + 1)

singles_more : (c a n : ℕ) → n ≡ a + c → singles (suc c) a ≡ singles c a ++ single_step n ∷ []
singles_more zero a n is = ap (λ k. single_step k ∷ []) (let e : a ≡ n = omega (arith, is) in e)
singles_more (suc c) a n is = ap (λ l. single_step a ∷ l) (singles_more c (a + 1) n (omega (arith, is)))

singles_are : (n : ℕ) → singles n 0 ≡ single_steps n
singles_are zero = refl
singles_are (suc n) = singles_more n 0 n (omega arith) ∙ ap (λ l. l ++ single_step n ∷ []) (singles_are n)

abbrev IsSingle : Range → Type 0
IsSingle r = r.to ≡ r.from + 1

cut_singles : (a : ℕ) (cut : List Range) → IsCutFrom a cut → All IsSingle cut → cut ≡ singles (length cut) a
cut_singles a [] h single = refl
cut_singles a (r ∷ rs) h single =
    let one : r.to ≡ r.from + 1 = All-head IsSingle r rs single in
    let to : r.to ≡ a + 1 = omega (arith, one, h.0) in
    let this : r ≡ single_step a = λ i. record { from = h.0 i; to = to i } in
    let rest : rs ≡ singles (length rs) r.to = cut_singles r.to rs h.2 (All-tail IsSingle r rs single) in
    λ i. this i ∷ (rest ∙ ap (singles (length rs)) to) i

cut_length : (a end : ℕ) (cut : List Range) → IsCutFrom a cut → All IsSingle cut → end_from a cut ≡ end → a + length cut ≡ end
cut_length a end [] h single e = omega (arith, e)
cut_length a end (r ∷ rs) h single e =
    let one : r.to ≡ r.from + 1 = All-head IsSingle r rs single in
    let rest : r.to + length rs ≡ end = cut_length r.to end rs h.2 (All-tail IsSingle r rs single) e in
    omega (arith, one, h.0, rest)

cut_is : (end : ℕ) (cut : List Range) → IsCutFrom 0 cut → All IsSingle cut → end_from 0 cut ≡ end → cut ≡ single_steps end
cut_is end cut h single e =
    let long : length cut ≡ end = omega (arith, cut_length 0 end cut h single e) in
    cut_singles 0 cut h single ∙ ap (λ n. singles n 0) long ∙ singles_are end

ranges_All : (P : Range → Type 0) (e : Entity) (gs : List GroupFiles) → All (λ g. P g.range) gs → All P (ranges_of e (map id_of_group gs))
ranges_All P e [] all = All-nil P
ranges_All P e (g ∷ gs) all = by (same_entity g.entity e) (ranges_All P e gs (All-tail (λ h. P h.range) g gs all))
  where
    by : (t : Bool) → All P (ranges_of e (map id_of_group gs)) → All P (cond t (g.range ∷ ranges_of e (map id_of_group gs)) (ranges_of e (map id_of_group gs)))
    by true rest = All-cons P g.range (ranges_of e (map id_of_group gs)) (All-head (λ h. P h.range) g gs all) rest
    by false rest = rest

-- ---- names

names_append : (xs ys : List GroupFiles) → names_for (xs ++ ys) ≡ names_for xs ++ names_for ys
names_append [] ys = refl
names_append (x ∷ xs) ys = ap (λ l. group_names x.entity x.range ++ l) (names_append xs ys) ∙ sym (append_assoc (group_names x.entity x.range) (names_for xs) (names_for ys))

names_map : (list : ChangeList) (e : Entity) (rs : List Range) → names_for (map (group_of list e) rs) ≡ entity_names e rs
names_map list e [] = refl
names_map list e (r ∷ rs) = ap (λ l. group_names e r ++ l) (names_map list e rs)

abbrev by_entity : List Entity → List GroupFiles → List GroupFiles
by_entity [] gs = []
by_entity (e ∷ es) gs = groups_for e gs ++ by_entity es gs

names_by_entity : (list : ChangeList) (rs : List Range) (gs : List GroupFiles) (es : List Entity) → ((e : Entity) → groups_for e gs ≡ map (group_of list e) rs) → names_for (by_entity es gs) ≡ names_of es rs
names_by_entity list rs gs [] each = refl
names_by_entity list rs gs (e ∷ es) each =
    names_append (groups_for e gs) (by_entity es gs)
    ∙ (λ i. (ap names_for (each e) ∙ names_map list e rs) i ++ names_by_entity list rs gs es each i)

all_entities : (gs : List GroupFiles) → by_number 7 0 gs ≡ by_entity canonical.entities gs
unfolding entity_number
all_entities gs = refl

small_of : (end : ℕ) (g : GroupFiles) → end < 4097 → IsStepBelow end g → IsSmall g
small_of end g few is = let to = is.0 in let within = is.1 in (omega (arith, to, within, few), omega (arith, within, few))

module _ (list : ChangeList) (set : SetOf GroupFiles) (few : set.end < 4097) (is_set : IsFileSet (λ (g : GroupFiles). g.entity) (λ (g : GroupFiles). g.range) set.groups set.ids set.end)
    (groups : AreGroupsBelow list set.end set.groups) (single : All (IsStepBelow set.end) set.groups) where
  ids_are : set.ids ≡ map id_of_group set.groups
  ids_are = is_set.same

  one_cut : (e : Entity) → ranges_of e (map id_of_group set.groups) ≡ single_steps set.end
  one_cut e =
      cut_is set.end (ranges_of e (map id_of_group set.groups)) (subst (λ ids. IsCutFrom 0 (ranges_of e ids)) ids_are (is_set.set.cuts.cut e))
      (ranges_All IsSingle e set.groups (λ k d below. (single k d below).0)) (subst (λ ids. end_from 0 (ranges_of e ids) ≡ set.end) ids_are (is_set.set.cuts.ends e))

  each_is : (e : Entity) → groups_for e set.groups ≡ map (group_of list e) (single_steps set.end)
  each_is e = for_entity list e set.groups (groups_are list set.end set.groups groups) ∙ ap (map (group_of list e)) (one_cut e)

  in_order : by_entity canonical.entities set.groups ≡ set.groups
  in_order =
      sym (all_entities set.groups)
      ∙ all_by 7 set.groups 0
      (rising_all 0 set.groups (λ k d below. small_of set.end (get_or set.groups k d) few (single k d below)) (subst (λ ids. Ascends 0 (places ids)) ids_are is_set.set.order))
      (λ k d below. entity_number-below (get_or set.groups k d).entity)

  pub names_in_order : names_for set.groups ≡ names_over (single_steps set.end)
  names_in_order = ap names_for (sym in_order) ∙ names_by_entity list (single_steps set.end) set.groups canonical.entities each_is

  some_if : {A : Type 0} (x : A) (t : Bool) → is_some (cond t (Some x) None) ≡ t
  some_if x true = refl
  some_if x false = refl

  whole_group : (g : GroupFiles) → IsOf list g → IsWhole g
  whole_group g is = subst IsWhole (sym is) (some_if _ (is_domain_entity g.entity), some_if _ (is_domain_entity g.entity))

  pub files_in_order : new_names (files_of_groups set.groups) ≡ names_over (single_steps set.end)
  files_in_order = names_are set.groups (λ k d below. whole_group (get_or set.groups k d) (groups_are list set.end set.groups groups k d below)) ∙ names_in_order
