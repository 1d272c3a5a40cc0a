-- A disk that has exactly the files of some groups, and the files of a step that are written to it.
use Rattle.std.proofs.Common.{◌≡◌, ℕ, ◌+◌, ◌-◌, ◌%◌, ◌*◌, ◌<◌, ◌≤◌, ◌==◌, ◌&&◌, ◌||◌, nat_le, Bool, true, false, cond, List, [], ◌∷◌, ◌++◌, map, filter, get_or, All, Contains, Option, Some, None, is_some, IfSome, IfNone, IsSomeAnd, Result, Ok, Err, refl, ap, subst, sym, ◌∙◌, arith, eq-eqb, le-leb}
use Rattle.std.specs.Prelude.{OnOk, OnErr}
use Rattle.std.specs.Option.{ForSome}
use Rattle.std.specs.FinMap.{get}
use Rattle.std.proofs.lemmas.Nat.{mul-le}
use Rattle.std.proofs.lemmas.List.{map-append, append_cancel_right}
use Rattle.std.specs.Prelude.{codes}
use Rattle.std.proofs.lemmas.List.Elements.{All-nil, All-cons, All-head, All-tail, All-append, All-map, All-contains, All-contains_itself, Contains-push, Contains-append_left, Contains-append_right}
use Rattle.agg_outside.specs.Files.{Files}
use Rattle.agg_model.specs.ChangeList.{ChangeList}
use Rattle.agg_model.specs.Entity.{is_domain_entity}
use Rattle.agg_model.specs.declared.entity.Entity.{Entity}
use Rattle.agg_model.specs.declared.entity.FileKind.{FileKind}
use Rattle.agg_model.specs.declared.entity.Range.{Range}
use Rattle.domain_core.specs.KvFile.{TaggedPairs}
use Rattle.history_core.specs.VFile.{TaggedBefores}
use Rattle.inverted_index.specs.EfFile.{TaggedLists}
use Rattle.merge_ranges.specs.declared.name.FileName.{FileName}
use Rattle.merge_ranges.specs.Kind.{is_index_kind}
use Rattle.merge_ranges.specs.Name.{has_kind, is_name, spelled, spelled_on_disk}
use Rattle.merge_ranges.specs.Cut.{is_size, is_aligned}
use Rattle.merge_ranges.specs.CanonicalNames.{kinds, group_names, names_over}
use Rattle.merge_ranges.proofs.Names.{spelled-injective}
use Rattle.visible_files.proofs.Equalities.{second_of}
use Rattle.collate_step.specs.Groups.{GroupFiles, group_of, step_range, step_groups, entities}
use Rattle.agg_core.specs.Names.{is_built}
use Rattle.agg_core.specs.Files.{temporary_of, MayStand, IsOutside, AreOutsideSame, SameOutside, HasFile, HasExactly, IsFileOf, MayBeLeft, KeepsNamed}
use Rattle.agg_core.proofs.Kept.{never_temporary}
use Rattle.agg_core.proofs.OneName.{decided}
use Rattle.group_files.specs.NewFiles.{NewFile, files_of, files_of_groups, new_names, names_for, AreApart, HasBytes, HasNoTemporary, IsOtherThan, IsOther, IsSame, ArePublished, ArePartlyPublished, IsOfList}
use Rattle.state_store.specs.Store.{IsStepBelow, IsLeft}
use Rattle.state_store.specs.Settling.{IsOfStep, IsNextStep}

-- ---- the names of groups

module _ {X Y : Type 0} (P : Y → Type 0) (f : X → Y) where
  pub un_map : (xs : List X) → All P (map f xs) → All (λ x. P (f x)) xs
  un_map [] all = All-nil (λ x. P (f x))
  un_map (x ∷ xs) all = All-cons (λ x. P (f x)) x xs (All-head P (f x) (map f xs) all) (un_map xs (All-tail P (f x) (map f xs) all))

module _ {X : Type 0} (P : X → Type 0) where
  pub front_of : (xs ys : List X) → All P (xs ++ ys) → All P xs
  front_of [] ys all = All-nil P
  front_of (x ∷ xs) ys all = All-cons P x xs (All-head P x (xs ++ ys) all) (front_of xs ys (All-tail P x (xs ++ ys) all))

  pub back_of : (xs ys : List X) → All P (xs ++ ys) → All P ys
  back_of [] ys all = all
  back_of (x ∷ xs) ys all = back_of xs ys (All-tail P x (xs ++ ys) all)

abbrev pub names_in : GroupFiles → List FileName
names_in g = group_names g.entity g.range

module _ (P : FileName → Type 0) where
  pub names-All : (gs : List GroupFiles) → All (λ g. All P (names_in g)) gs → All P (names_for gs)
  names-All [] all = All-nil P
  names-All (g ∷ gs) all =
      All-append P (names_in g) (names_for gs) (All-head (λ h. All P (names_in h)) g gs all) (names-All gs (All-tail (λ h. All P (names_in h)) g gs all))

  pub names-each : (gs : List GroupFiles) → All P (names_for gs) → All (λ g. All P (names_in g)) gs
  names-each [] all = All-nil (λ (g : GroupFiles). All P (names_in g))
  names-each (g ∷ gs) all =
      All-cons (λ (h : GroupFiles). All P (names_in h)) g gs (front_of P (names_in g) (names_for gs) all) (names-each gs (back_of P (names_in g) (names_for gs) all))

-- a group's names are among those of a list that has it
pub names-within : (gs : List GroupFiles) → All (λ g. All (Contains (names_for gs)) (names_in g)) gs
names-within gs = names-each (Contains (names_for gs)) gs (All-contains_itself (names_for gs))

abbrev pub IsWhole : GroupFiles → Type 0
IsWhole g = (is_some g.kv ≡ is_domain_entity g.entity) × (is_some g.v ≡ is_domain_entity g.entity)

kinds_by : (e : Entity) (r : Range) (t : Bool) → is_domain_entity e ≡ t → group_names e r ≡ map (λ k. record { entity = e; range = r; kind = k }) (filter (λ k. t || is_index_kind k) kinds)
unfolding has_kind
kinds_by e r t is = ap (λ s. map (λ (k : FileKind). record { entity = e; range = r; kind = k }) (filter (λ k. s || is_index_kind k) kinds)) is

names_by : (e : Entity) (r : Range) (kv : Option TaggedPairs) (v : Option TaggedBefores) (ef : TaggedLists) → is_some kv ≡ is_domain_entity e → is_some v ≡ is_domain_entity e
    → new_names (files_of (record { entity = e; range = r; kv = kv; v = v; ef = ef })) ≡ group_names e r
unfolding is_index_kind
names_by e r (Some kv) (Some v) ef pairs befores = sym (kinds_by e r true (sym pairs))
names_by e r None None ef pairs befores = sym (kinds_by e r false (sym pairs))
names_by e r (Some kv) None ef pairs befores = cc (pairs, befores)
names_by e r None (Some v) ef pairs befores = cc (pairs, befores)

pub names_are : (groups : List GroupFiles) → All IsWhole groups → new_names (files_of_groups groups) ≡ names_for groups
names_are [] all = refl
names_are (g ∷ gs) all =
    let is = All-head IsWhole g gs all in
    map-append (λ n. n.name) (files_of g) (files_of_groups gs)
    ∙ ap (λ l. l ++ new_names (files_of_groups gs)) (names_by g.entity g.range g.kv g.v g.ef is.0 is.1)
    ∙ ap (λ l. group_names g.entity g.range ++ l) (names_are gs (All-tail IsWhole g gs all))

pub whole_of : (step : ℕ) (groups : List GroupFiles) → All (IsOfStep step) groups → All IsWhole groups
whole_of step groups all = λ k d below. ((all k d below).kv, (all k d below).v)

-- ---- they are names of the grammar

abbrev pub IsNamed : FileName → Type 0
IsNamed n = is_name n ≡ true

module _ (e : Entity) (r : Range) (aligned : is_aligned r ≡ true) where
  abbrev in_range : FileKind → FileName
  in_range k = record { entity = e; range = r; kind = k }

  kept-by : (k : FileKind) (ks : List FileKind) (t : Bool) → has_kind e k ≡ t → All IsNamed (map in_range (filter (has_kind e) ks)) → All IsNamed (map in_range (cond t (k ∷ filter (has_kind e) ks) (filter (has_kind e) ks)))
  unfolding is_name
  kept-by k ks true is rest = All-cons IsNamed (in_range k) (map in_range (filter (has_kind e) ks)) ((λ i. aligned i && is i)) rest
  kept-by k ks false is rest = rest

  kept : (ks : List FileKind) → All IsNamed (map in_range (filter (has_kind e) ks))
  kept [] = All-nil IsNamed
  kept (k ∷ ks) = kept-by k ks (has_kind e k) refl (kept ks)

  group_named : All IsNamed (group_names e r)
  group_named = kept kinds

pub are_named : (gs : List GroupFiles) → All (λ g. is_aligned g.range ≡ true) gs → All IsNamed (names_for gs)
are_named gs aligned = names-All IsNamed gs (λ k d below. group_named (get_or gs k d).entity (get_or gs k d).range (aligned k d below))

one_step : (k : ℕ) → k + 1 - k ≡ 1
one_step k = omega arith

mod_one : (k : ℕ) → k % 1 ≡ 0
mod_one k = omega arith

pub aligned_step : (k : ℕ) → k < 4096 → is_aligned (step_range k) ≡ true
unfolding is_aligned
aligned_step k small =
    let P = λ (s : ℕ). (is_size s && (k % s == 0) && nat_le (k + 1) 4096) ≡ true in
    subst P (sym (one_step k)) (λ i. true && (eq-eqb (k % 1) 0 (mod_one k) i) && (le-leb (k + 1) 4096 (omega (arith, small)) i))

pub single_is : (r : Range) → r.to ≡ r.from + 1 → r ≡ step_range r.from
single_is r e = λ i. record { from = r.from; to = e i }

single_aligned : (step : ℕ) (g : GroupFiles) → step < 4097 → IsStepBelow step g → is_aligned g.range ≡ true
single_aligned step g small is =
    let low : g.range.from < 4096 = let to = is.0 in let within = is.1 in omega (arith, to, within, small) in
    subst (λ r. is_aligned r ≡ true) (sym (single_is g.range is.0)) (aligned_step g.range.from low)

pub below_aligned : (step : ℕ) (gs : List GroupFiles) → step < 4097 → All (IsStepBelow step) gs → All (λ g. is_aligned g.range ≡ true) gs
below_aligned step gs small single = λ k d below. single_aligned step (get_or gs k d) small (single k d below)

pub below_named : (step : ℕ) (gs : List GroupFiles) → step < 4097 → All (IsStepBelow step) gs → All IsNamed (names_for gs)
below_named step gs small single = are_named gs (below_aligned step gs small single)

group_to : (P : Range → Type 0) (g : GroupFiles) → P g.range → All (λ (n : FileName). P n.range) (names_in g)
group_to P g p = All-map (λ (n : FileName). P n.range) (λ (k : FileKind). record { entity = g.entity; range = g.range; kind = k }) (filter (has_kind g.entity) kinds) (λ k d below. p)

-- what holds of the ranges of groups holds of those of their names
pub names_to : (P : Range → Type 0) (gs : List GroupFiles) → All (λ g. P g.range) gs → All (λ (n : FileName). P n.range) (names_for gs)
names_to P gs all = names-All (λ (n : FileName). P n.range) gs (λ k d below. group_to P (get_or gs k d) (all k d below))

-- ---- names outside the grammar

others_of : (new : List NewFile) (text : List ℕ) → All IsNamed (new_names new) → IsOutside text → IsOther new text
others_of new text named out = λ k d below.
    let is = un_map IsNamed (λ (n : NewFile). n.name) new named k d below in
    (out.no_file (get_or new k d).name is, out.no_temporary (get_or new k d).name is)

some_weaker : {A : Type 0} (P Q : A → Type 0) (o : Option A) → ((x : A) → P x → Q x) → IsSomeAnd o P → IsSomeAnd o Q
some_weaker P Q None f h = absurd h
some_weaker P Q (Some x) f h = f x h

pub outside_published : {E : Type 0} (new : List NewFile) (before after : Option Files) (result : Result Unit E) → All IsNamed (new_names new)
    → IfSome before (λ f. OnOk result (IsSomeAnd after (ArePublished new f))) → IfSome before (λ f. OnErr result (IsSomeAnd after (ArePartlyPublished new f))) → IfNone before (after ≡ None)
    → SameOutside before after
outside_published new None after result named ok err silent = record { told = tt; silent = silent }
outside_published new (Some f) after (Ok u) named ok err silent = record {
  told = some_weaker (ArePublished new f) (AreOutsideSame f) after (λ g p text out. p.others text (others_of new text named out)) ok;
  silent = tt;
}
outside_published new (Some f) after (Err e) named ok err silent = record {
  told = some_weaker (ArePartlyPublished new f) (AreOutsideSame f) after (λ g p text out. p.others text (others_of new text named out)) err;
  silent = tt;
}

pub step_named : (step : ℕ) (groups : List GroupFiles) → All (IsOfStep step) groups → All IsNamed (new_names (files_of_groups groups))
step_named step groups all =
    subst (λ (ns : List FileName). All IsNamed ns) (sym (names_are groups (whole_of step groups all))) (are_named groups (λ k d below. (all k d below).aligned))

-- ---- a name is one of those that were written, or another

module _ {P : Type 0} where
  pub or_new : (new : List NewFile) (name : FileName) → (IsOther new (spelled name) → P) → ((n : NewFile) → Contains new n → spelled name ≡ spelled n.name → P) → P
  or_new [] name other one = other (All-nil (IsOtherThan (spelled name)))
  or_new (n ∷ ns) name other one =
      decided (spelled name) (spelled n.name)
      (λ same. one n (Contains-append_left (n ∷ []) ns n (Contains-push [] n)) same)
      (λ differ. or_new ns name
      (λ rest. other (All-cons (IsOtherThan (spelled name)) n ns (differ, never_temporary name n.name) rest))
      (λ m within same. one m (Contains-append_right (n ∷ []) ns m within) same))

  pub or_temporary : (new : List NewFile) (name : FileName) → (IsOther new (temporary_of name) → P) → ((n : NewFile) → Contains new n → temporary_of name ≡ temporary_of n.name → P) → P
  or_temporary [] name other one = other (All-nil (IsOtherThan (temporary_of name)))
  or_temporary (n ∷ ns) name other one =
      decided (temporary_of name) (temporary_of n.name)
      (λ same. one n (Contains-append_left (n ∷ []) ns n (Contains-push [] n)) same)
      (λ differ. or_temporary ns name
      (λ rest. other (All-cons (IsOtherThan (temporary_of name)) n ns ((λ same. never_temporary n.name name (sym same)), differ) rest))
      (λ m within same. one m (Contains-append_right (n ∷ []) ns m within) same))

-- ---- what is kept

-- the names of temporary files are those of the files
pub temporary-injective : (name other : FileName) → is_name name ≡ true → is_name other ≡ true → temporary_of name ≡ temporary_of other → name ≡ other
unfolding spelled_on_disk
temporary-injective name other is is_other same = spelled-injective name other is is_other (append_cancel_right (spelled name) (spelled other) (codes ".tmp") same)

pub none_some : {A : Type 0} {x : A} → None ≡ Some x → ⊥
none_some e = cc

pub some_is : {A : Type 0} {x y : A} → Some x ≡ Some y → x ≡ y
some_is e = cc

pub if_some : {A : Type 0} (P : A → Type 0) (o : Option A) → ((x : A) → o ≡ Some x → P x) → IfSome o P
if_some P None h = tt
if_some P (Some x) h = h x refl

pub if_there : {A : Type 0} (P : A → Type 0) (o : Option A) (x : A) → o ≡ Some x → IfSome o P → P x
if_there P o x e h = subst (λ q. IfSome q P) e h

pub if_none : {A : Type 0} (P : A → Type 0) (o : Option A) → o ≡ None → IfSome o P
if_none P o e = subst (λ q. IfSome q P) (sym e) tt

pub keeps_all : (list : ChangeList) (names : List FileName) (now : Files) → All (MayStand list) names → HasExactly list names now → KeepsNamed list now
keeps_all list names now may has = record {
  named = λ name is. if_some (IsFileOf list name) (get now (spelled name)) (λ bytes found.
      let within = if_there (λ _. Contains names name) (get now (spelled name)) bytes found (has.only name is) in
      (some_is (sym found ∙ All-contains (HasFile list now) names name has.stand within), All-contains (MayStand list) names name may within));
  temporary = λ name is. if_none (λ _. MayBeLeft list name now) (get now (temporary_of name)) (has.no_temporary name is);
}

-- of the new files some were written, and the others weren't there
module _ (list : ChangeList) (names : List FileName) (new : List NewFile) (f g : Files) (named : All IsNamed (new_names new)) (of_list : All (IsOfList list) new) (apart : AreApart new)
    (may_new : All (λ n. MayStand list n.name) new) (may : All (MayStand list) names) (fresh : All (λ n. get f (spelled n.name) ≡ None) new) (are : All IsNamed names)
    (has : HasExactly list names f) (published : ArePartlyPublished new f g) where
  split : (P : NewFile → Type 0) → All P new → All P (published.done ++ published.rest)
  split P all = subst (All P) published.parts all

  same_name : (name : FileName) (n : NewFile) → is_name name ≡ true → IsNamed n.name → spelled name ≡ spelled n.name → name ≡ n.name
  same_name name n is is_new same = spelled-injective name n.name is is_new same

  names_named : All (λ (n : NewFile). IsNamed n.name) new
  names_named = un_map IsNamed (λ (n : NewFile). n.name) new named

  is_done : (P : NewFile → Type 0) (n : NewFile) → All P new → Contains published.done n → P n
  is_done P n all within = All-contains P published.done n (front_of P published.done published.rest (split P all)) within

  is_rest : (P : NewFile → Type 0) (n : NewFile) → All P new → Contains published.rest n → P n
  is_rest P n all within = All-contains P published.rest n (back_of P published.done published.rest (split P all)) within

  other_new : (text : List ℕ) → IsOther published.done text → IsOther published.rest text → IsOther new text
  other_new text one two = subst (λ l. IsOther l text) (sym published.parts) (All-append (IsOtherThan text) published.done published.rest one two)

  -- a file that wasn't written isn't there
  absent : (n : NewFile) → Contains published.rest n → get g (spelled n.name) ≡ None
  absent n within =
      All-contains (λ m. IsSame f g (spelled m.name)) published.rest n (published.untouched apart) within
      ∙ is_rest (λ m. get f (spelled m.name) ≡ None) n fresh within

  file_done : (name : FileName) (n : NewFile) → name ≡ n.name → Contains published.done n → IfSome (get g (spelled name)) (IsFileOf list name)
  file_done name n is within =
      subst (λ (m : FileName). IfSome (get g (spelled m)) (IsFileOf list m)) (sym is)
      (if_some (IsFileOf list n.name) (get g (spelled n.name)) (λ bytes found. (
        some_is (sym found ∙ All-contains (HasBytes g) published.done n (published.whole apart) within) ∙ is_done (IsOfList list) n of_list within,
        is_done (λ m. MayStand list m.name) n may_new within,
      )))

  file_rest : (name : FileName) (n : NewFile) → name ≡ n.name → Contains published.rest n → IfSome (get g (spelled name)) (IsFileOf list name)
  file_rest name n is within =
      subst (λ (m : FileName). IfSome (get g (spelled m)) (IsFileOf list m)) (sym is) (if_none (IsFileOf list n.name) (get g (spelled n.name)) (absent n within))

  file_other : (name : FileName) → is_name name ≡ true → IsOther new (spelled name) → IfSome (get g (spelled name)) (IsFileOf list name)
  file_other name is other =
      subst (λ o. IfSome o (IsFileOf list name)) (sym (published.others (spelled name) other)) ((keeps_all list names f may has).named name is)

  file_kept : (name : FileName) → is_name name ≡ true → IfSome (get g (spelled name)) (IsFileOf list name)
  file_kept name is =
      or_new published.done name
      (λ one. or_new published.rest name
      (λ two. file_other name is (other_new (spelled name) one two))
      (λ n within same. file_rest name n (same_name name n is (is_rest (λ m. IsNamed m.name) n names_named within) same) within))
      (λ n within same. file_done name n (same_name name n is (is_done (λ m. IsNamed m.name) n names_named within) same) within)

  temporary_kept : (name : FileName) → is_name name ≡ true → IfSome (get g (temporary_of name)) (λ _. MayBeLeft list name g)
  temporary_kept name is =
      or_temporary published.done name
      (λ one. or_temporary published.rest name
      (λ two. if_none (λ _. MayBeLeft list name g) (get g (temporary_of name)) (published.others (temporary_of name) (other_new (temporary_of name) one two) ∙ has.no_temporary name is))
      (λ n within same.
      let named_so = temporary-injective name n.name is (is_rest (λ m. IsNamed m.name) n names_named within) same in
      subst (λ (m : FileName). IfSome (get g (temporary_of m)) (λ _. MayBeLeft list m g)) (sym named_so)
      (if_some (λ _. MayBeLeft list n.name g) (get g (temporary_of n.name)) (λ _ _. (is_rest (λ m. MayStand list m.name) n may_new within, absent n within)))))
      (λ n within same. if_none (λ _. MayBeLeft list name g) (get g (temporary_of name)) (ap (get g) same ∙ All-contains (HasNoTemporary g) published.done n (published.cleared apart) within))

  stands : (name : FileName) → is_name name ≡ true → HasFile list f name → HasFile list g name
  stands name is there =
      or_new new name
      (λ other. published.others (spelled name) other ∙ there)
      (λ n within same. absurd (none_some (sym (ap (get f) same ∙ All-contains (λ m. get f (spelled m.name) ≡ None) new n fresh within) ∙ there)))

  pub partly_kept : KeepsNamed list g
  partly_kept = record { named = file_kept; temporary = temporary_kept }

  pub partly_held : All (HasFile list g) names
  partly_held = λ k d below. stands (get_or names k d) (are k d below) (has.stand k d below)

-- ---- the files of a list's next step

built_of : (n : FileName) → is_name n ≡ true → is_built n.entity n.kind ≡ true
unfolding is_name
built_of n is = second_of (is_aligned n.range) (has_kind n.entity n.kind) is

pub names_of_step : (list : ChangeList) (step : ℕ) → names_for (step_groups list step) ≡ names_over (step_range step ∷ [])
unfolding has_kind is_index_kind is_domain_entity
names_of_step list step = refl

-- the steps of a range that ends at a complete step are complete
le_times : (a b s n : ℕ) → a ≤ b → b * s ≤ n → a * s ≤ n
le_times a b s n low complete = let up : a * s ≤ b * s = mul-le a s b s low (omega arith) in omega (arith, up, complete)

may_stand : (list : ChangeList) (end : ℕ) (n : FileName) → end * list.size ≤ list.next → is_name n ≡ true → n.range.to ≤ end → MayStand list n
may_stand list end n complete is within = record { built = built_of n is; complete = le_times n.range.to end list.size list.next within complete }

pub may_all : (list : ChangeList) (end : ℕ) (gs : List GroupFiles) → end * list.size ≤ list.next → end < 4097 → All (IsStepBelow end) gs → All (MayStand list) (names_for gs)
may_all list end gs complete small single =
    let named = below_named end gs small single in
    let within = names_to (λ r. r.to ≤ end) gs (λ k d below. (single k d below).1) in
    λ k d below. may_stand list end (get_or (names_for gs) k d) complete (named k d below) (within k d below)

-- a disk that has exactly the files of these groups keeps nothing else
pub left_of : (list : ChangeList) (end : ℕ) (gs : List GroupFiles) (disk : Option Files) → end * list.size ≤ list.next → end < 4097 → All (IsStepBelow end) gs → ForSome disk (HasExactly list (names_for gs)) → ForSome disk (IsLeft list gs)
left_of list end gs disk complete small single has = λ f told.
    record { held = (has f told).stand; kept = keeps_all list (names_for gs) f (may_all list end gs complete small single) (has f told) }

module _ (list : ChangeList) (step : ℕ) (below added : List GroupFiles) (next : IsNextStep list step below added)
    (apart : AreApart (files_of_groups (step_groups list step)))
    (step_is : new_names (files_of_groups (step_groups list step)) ≡ names_over (step_range step ∷ []))
    (of_list : All (IsOfList list) (files_of_groups (step_groups list step))) where
  abbrev new : List NewFile
  new = files_of_groups (step_groups list step)

  pub same_files : files_of_groups added ≡ new
  same_files = ap files_of_groups next.is

  pub new_are : new_names new ≡ names_for (step_groups list step)
  new_are = step_is ∙ sym (names_of_step list step)

  step_ranges : All (λ (g : GroupFiles). g.range ≡ step_range step) (step_groups list step)
  step_ranges = All-map (λ (g : GroupFiles). g.range ≡ step_range step) (λ e. group_of list e (step_range step)) entities (λ k d below. refl)

  pub new_named : All IsNamed (new_names new)
  new_named =
      subst (All IsNamed) (sym new_are)
      (are_named (step_groups list step) (λ k d below. subst (λ r. is_aligned r ≡ true) (sym (step_ranges k d below)) (aligned_step step next.early)))

  new_ranges : All (λ (n : NewFile). n.name.range ≡ step_range step) new
  new_ranges =
      un_map (λ (n : FileName). n.range ≡ step_range step) (λ (n : NewFile). n.name) new
      (subst (All (λ (n : FileName). n.range ≡ step_range step)) (sym new_are) (names_to (λ r. r ≡ step_range step) (step_groups list step) step_ranges))

  pub is_new : All (λ (n : NewFile). IsNamed n.name) new
  is_new = un_map IsNamed (λ (n : NewFile). n.name) new new_named

  pub new_may : All (λ (n : NewFile). MayStand list n.name) new
  new_may = λ k d below.
      let ends : (get_or new k d).name.range.to ≡ step + 1 = ap (λ (r : Range). r.to) (new_ranges k d below) in
      may_stand list (step + 1) (get_or new k d).name next.complete (is_new k d below) (omega (arith, ends))

  pub small : step < 4097
  small = let early = next.early in omega (arith, early)

  pub below_complete : step * list.size ≤ list.next
  below_complete = le_times step (step + 1) list.size list.next (omega arith) next.complete

  pub below_names : All IsNamed (names_for below)
  below_names = below_named step below small next.single

  earlier : All (λ (n : FileName). n.range.from < step) (names_for below)
  earlier = names_to (λ r. r.from < step) below (λ k d is. before (next.single k d is).0 (next.single k d is).1)
    where
      before : {f t : ℕ} → t ≡ f + 1 → t ≤ step → f < step
      before e h = omega (arith, e, h)

  new_absent : (f : Files) (n : NewFile) → HasExactly list (names_for below) f → IsNamed n.name → n.name.range ≡ step_range step → get f (spelled n.name) ≡ None
  new_absent f n has is ranged = none (get f (spelled n.name)) (has.only n.name is)
    where
      none : (o : Option (List ℕ)) → IfSome o (λ _. Contains (names_for below) n.name) → o ≡ None
      none None h = refl
      none (Some b) h =
          let low : n.name.range.from < step = All-contains (λ (m : FileName). m.range.from < step) (names_for below) n.name earlier h in
          let from : n.name.range.from ≡ step = ap (λ (r : Range). r.from) ranged in
          absurd (omega (arith, low, from))

  fresh : (f : Files) → HasExactly list (names_for below) f → All (λ (n : NewFile). get f (spelled n.name) ≡ None) new
  fresh f has = λ k d is. new_absent f (get_or new k d) has (is_new k d is) (new_ranges k d is)

  step_left : (f g : Files) → HasExactly list (names_for below) f → ArePartlyPublished new f g → IsLeft list below g
  step_left f g has published =
      let may = may_all list step below below_complete small next.single in record {
        held = partly_held list (names_for below) new f g new_named of_list apart new_may may (fresh f has) below_names has published;
        kept = partly_kept list (names_for below) new f g new_named of_list apart new_may may (fresh f has) below_names has published;
      }

  pub step_err : {E : Type 0} (before after : Option Files) (result : Result Unit E) → IfSome before (λ f. OnErr result (IsSomeAnd after (ArePartlyPublished (files_of_groups added) f))) → IfNone before (after ≡ None)
      → ForSome before (HasExactly list (names_for below)) → OnErr result (ForSome after (IsLeft list below))
  step_err before after (Ok u) err silent has = tt
  step_err None after (Err e) err silent has = λ g told. cc (silent, told)
  step_err (Some f) None (Err e) err silent has = absurd err
  step_err (Some f) (Some g) (Err e) err silent has = λ h told.
      subst (IsLeft list below) (some_is told) (step_left f g (has f refl) (subst (λ l. ArePartlyPublished l f g) same_files err))

  module _ (exact : (names : List FileName) (before now : Files) → All IsNamed names → HasExactly list names before → ArePublished new before now → HasExactly list (names ++ names_over (step_range step ∷ [])) now) where
    step_whole : (f g : Files) → HasExactly list (names_for below) f → ArePublished new f g → HasExactly list (names_for below ++ names_for added) g
    step_whole f g has published =
        let named : names_for added ≡ names_over (step_range step ∷ []) = ap names_for next.is ∙ names_of_step list step in
        subst (λ (ns : List FileName). HasExactly list (names_for below ++ ns) g) (sym named) (exact (names_for below) f g below_names has published)

    pub step_ok : {E : Type 0} (before after : Option Files) (result : Result Unit E) → IfSome before (λ f. OnOk result (IsSomeAnd after (ArePublished (files_of_groups added) f))) → IfNone before (after ≡ None)
        → ForSome before (HasExactly list (names_for below)) → OnOk result (ForSome after (HasExactly list (names_for below ++ names_for added)))
    step_ok before after (Err e) ok silent has = tt
    step_ok None after (Ok u) ok silent has = λ g told. cc (silent, told)
    step_ok (Some f) None (Ok u) ok silent has = absurd ok
    step_ok (Some f) (Some g) (Ok u) ok silent has = λ h told.
        subst (HasExactly list (names_for below ++ names_for added)) (some_is told) (step_whole f g (has f refl) (subst (λ l. ArePublished l f g) same_files ok))
