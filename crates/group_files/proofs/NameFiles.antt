-- The names of the files of groups, and what bytes the files of a list's groups have.
use Rattle.std.proofs.Common.{◌≡◌, ◌≢◌, ℕ, ◌+◌, ◌<◌, ◌&&◌, ◌||◌, Bool, true, false, cond, List, [], ◌∷◌, ◌++◌, map, filter, length, get_or, All, AllPairs, Option, Some, None, is_some, IsTrue, refl, ap, sym, subst, ◌∙◌, arith}
use Rattle.std.proofs.lemmas.List.{map-append}
use Rattle.std.proofs.lemmas.List.Elements.{All-nil, All-cons, All-head, All-tail, All-append, All-map}
use Rattle.std.proofs.lemmas.List.Kept.{AllPairs-cons}
use Rattle.agg_model.specs.ChangeList.{ChangeList}
use Rattle.agg_model.specs.Entity.{is_domain_entity}
use Rattle.agg_model.specs.declared.entity.Entity.{Entity}
use Rattle.agg_model.specs.declared.entity.Entity.TheVariants.{Accounts, Storage, Code, LogAddrs, LogTopics, TracesFrom, TracesTo}
use Rattle.agg_model.specs.declared.entity.FileKind.{FileKind}
use Rattle.agg_model.specs.declared.entity.FileKind.TheVariants.{Kv, Bt, Kvi, V, Vi, Ef, Efi}
use Rattle.agg_model.specs.declared.entity.Range.{Range}
use Rattle.domain_core.specs.KvFile.{TaggedPairs, kv_file_bytes, bt_file_bytes, kvi_file_bytes}
use Rattle.history_core.specs.VFile.{TaggedBefores, v_file_bytes, vi_file_bytes}
use Rattle.inverted_index.specs.EfFile.{TaggedLists, ef_file, ef_file_bytes, efi_file_bytes}
use Rattle.merge_ranges.specs.declared.name.FileName.{FileName}
use Rattle.merge_ranges.specs.Kind.{is_index_kind}
use Rattle.merge_ranges.specs.Name.{has_kind, is_name, spelled}
use Rattle.merge_ranges.specs.CanonicalNames.{kinds, group_names, entity_names, names_of, names_over}
use Rattle.merge_ranges.specs.CanonicalNames as canonical
use Rattle.merge_ranges.specs.Cut.{is_aligned}
use Rattle.merge_ranges.proofs.Names.{spelled-injective}
use Rattle.merge_ranges.proofs.NameLaws.{is_name-aligned}
use Rattle.merge_ranges.proofs.NameOrder.{pairs_none, pairs_head, pairs_tail, names_over-ascend, ascend-distinct}
use Rattle.agg_core.proofs.Written.{the_name, the-name}
use Rattle.collate_step.specs.Groups.{GroupFiles, IsGroup, kv_of, v_of, group_of, step_range, step_groups, entities}
use Rattle.agg_core.specs.Bytes.{file_bytes}
use Rattle.group_files.specs.NewFiles.{NewFile, name_of, all_of, file_of_kind, files_of, files_of_groups, new_names, names_for, AreApart, IsOfList}

-- ---- a group has a file of each kind that its entity has

kinds_by : (e : Entity) (r : Range) (t : Bool) → is_domain_entity e ≡ t → group_names e r ≡ map (λ k. record { entity = e; range = r; kind = k }) (filter (λ k. t || is_index_kind k) kinds)
unfolding has_kind
kinds_by e r t is = ap (λ s. map (λ (k : FileKind). record { entity = e; range = r; kind = k }) (filter (λ k. s || is_index_kind k) kinds)) is

names_by : (e : Entity) (r : Range) (kv : Option TaggedPairs) (v : Option TaggedBefores) (ef : TaggedLists) → is_some kv ≡ is_domain_entity e → is_some v ≡ is_domain_entity e
    → new_names (files_of (record { entity = e; range = r; kv = kv; v = v; ef = ef })) ≡ group_names e r
unfolding is_index_kind
names_by e r (Some kv) (Some v) ef pairs befores = sym (kinds_by e r true (sym pairs))
names_by e r None None ef pairs befores = sym (kinds_by e r false (sym pairs))
names_by e r (Some kv) None ef pairs befores = cc (pairs, befores)
names_by e r None (Some v) ef pairs befores = cc (pairs, befores)

pub names_are : (groups : List GroupFiles) → All IsGroup groups → new_names (files_of_groups groups) ≡ names_for groups
names_are [] all = refl
names_are (g ∷ gs) all =
    let is = All-head IsGroup g gs all in
    map-append (λ n. n.name) (files_of g) (files_of_groups gs)
    ∙ ap (λ l. l ++ new_names (files_of_groups gs)) (names_by g.entity g.range g.kv g.v g.ef is.kv is.v)
    ∙ ap (λ l. group_names g.entity g.range ++ l) (names_are gs (All-tail IsGroup g gs all))

-- ---- the groups of a step

pub step_names : (list : ChangeList) (step : ℕ) → new_names (files_of_groups (step_groups list step)) ≡ names_over (step_range step ∷ [])
unfolding has_kind is_index_kind is_domain_entity
step_names list step = refl

-- ---- bytes

module _ (list : ChangeList) where
  abbrev with_values : Entity → Range → GroupFiles
  with_values e r = record { entity = e; range = r; kv = Some (kv_of list e r); v = Some (v_of list e r); ef = ef_file list.size list.changes e r.from r.to }

  abbrev of_index : Entity → Range → GroupFiles
  of_index e r = record { entity = e; range = r; kv = None; v = None; ef = ef_file list.size list.changes e r.from r.to }

  single : (name : FileName) → All (IsOfList list) (record { name = name; bytes = file_bytes list name } ∷ [])
  single name = All-cons (IsOfList list) (record { name = name; bytes = file_bytes list name }) [] refl (All-nil (IsOfList list))

  of_values : (e : Entity) (r : Range) (k : FileKind) → All (IsOfList list) (file_of_kind (with_values e r) k)
  unfolding file_bytes kv_file_bytes bt_file_bytes kvi_file_bytes v_file_bytes vi_file_bytes ef_file_bytes efi_file_bytes
  of_values e r Kv = single (name_of (with_values e r) Kv)
  of_values e r Bt = single (name_of (with_values e r) Bt)
  of_values e r Kvi = single (name_of (with_values e r) Kvi)
  of_values e r V = single (name_of (with_values e r) V)
  of_values e r Vi = single (name_of (with_values e r) Vi)
  of_values e r Ef = single (name_of (with_values e r) Ef)
  of_values e r Efi = single (name_of (with_values e r) Efi)

  of_numbers : (e : Entity) (r : Range) (k : FileKind) → All (IsOfList list) (file_of_kind (of_index e r) k)
  unfolding file_bytes ef_file_bytes efi_file_bytes
  of_numbers e r Kv = All-nil (IsOfList list)
  of_numbers e r Bt = All-nil (IsOfList list)
  of_numbers e r Kvi = All-nil (IsOfList list)
  of_numbers e r V = All-nil (IsOfList list)
  of_numbers e r Vi = All-nil (IsOfList list)
  of_numbers e r Ef = single (name_of (of_index e r) Ef)
  of_numbers e r Efi = single (name_of (of_index e r) Efi)

  all_kinds : (g : GroupFiles) → ((k : FileKind) → All (IsOfList list) (file_of_kind g k)) → (ks : List FileKind) → All (IsOfList list) (all_of (file_of_kind g) ks)
  all_kinds g each [] = All-nil (IsOfList list)
  all_kinds g each (k ∷ ks) = All-append (IsOfList list) (file_of_kind g k) (all_of (file_of_kind g) ks) (each k) (all_kinds g each ks)

  seven : (e : Entity) (r : Range) → All (IsOfList list) (files_of (with_values e r))
  seven e r = all_kinds (with_values e r) (of_values e r) kinds

  two : (e : Entity) (r : Range) → All (IsOfList list) (files_of (of_index e r))
  two e r = all_kinds (of_index e r) (of_numbers e r) kinds

  pub of_list : (e : Entity) (r : Range) → All (IsOfList list) (files_of (group_of list e r))
  unfolding is_domain_entity
  of_list Accounts r = seven Accounts r
  of_list Storage r = seven Storage r
  of_list Code r = seven Code r
  of_list LogAddrs r = two LogAddrs r
  of_list LogTopics r = two LogTopics r
  of_list TracesFrom r = two TracesFrom r
  of_list TracesTo r = two TracesTo r

  pub of_groups : (r : Range) (es : List Entity) → All (IsOfList list) (files_of_groups (map (λ e. group_of list e r) es))
  of_groups r [] = All-nil (IsOfList list)
  of_groups r (e ∷ es) =
      All-append (IsOfList list) (files_of (group_of list e r)) (files_of_groups (map (λ e. group_of list e r) es)) (of_list e r) (of_groups r es)

  pub of_step : (step : ℕ) → All (IsOfList list) (files_of_groups (step_groups list step))
  of_step step = of_groups (step_range step) entities

-- ---- no two files of a step have one name

module _ {X Y : Type 0} (P : Y → Type 0) (f : X → Y) where
  pub un_map : (xs : List X) → All P (map f xs) → All (λ x. P (f x)) xs
  un_map [] all = All-nil (λ x. P (f x))
  un_map (x ∷ xs) all = All-cons (λ x. P (f x)) x xs (All-head P (f x) (map f xs) all) (un_map xs (All-tail P (f x) (map f xs) all))

abbrev pub IsNamed : FileName → Type 0
IsNamed n = is_name n ≡ true

names_apart : (new : List NewFile) → All IsNamed (new_names new) → AllPairs (λ n o. n ≢ o) (new_names new) → AreApart new
names_apart [] are apart = λ i j d below at. absurd (omega arith)
names_apart (n ∷ ns) are apart =
    let first = un_map (λ o. n.name ≢ o) (λ (m : NewFile). m.name) ns (pairs_head (λ (a b : FileName). a ≢ b) n.name (new_names ns) apart) in
    let named = un_map IsNamed (λ (m : NewFile). m.name) ns (All-tail IsNamed n.name (new_names ns) are) in
    AllPairs-cons (λ (a b : NewFile). spelled a.name ≢ spelled b.name) n ns
    (λ k d below same. first k d below (spelled-injective n.name (get_or ns k d).name (All-head IsNamed n.name (new_names ns) are) (named k d below) same))
    (names_apart ns (All-tail IsNamed n.name (new_names ns) are) (pairs_tail (λ (a b : FileName). a ≢ b) n.name (new_names ns) apart))

module _ (e : Entity) (r : Range) (aligned : is_aligned r ≡ true) where
  abbrev in_range : FileKind → FileName
  in_range k = record { entity = e; range = r; kind = k }

  kept-by : (k : FileKind) (ks : List FileKind) (t : Bool) → has_kind e k ≡ t → All IsNamed (map in_range (filter (has_kind e) ks)) → All IsNamed (map in_range (cond t (k ∷ filter (has_kind e) ks) (filter (has_kind e) ks)))
  unfolding is_name
  kept-by k ks true is rest = All-cons IsNamed (in_range k) (map in_range (filter (has_kind e) ks)) ((λ i. aligned i && is i)) rest
  kept-by k ks false is rest = rest

  kept : (ks : List FileKind) → All IsNamed (map in_range (filter (has_kind e) ks))
  kept [] = All-nil IsNamed
  kept (k ∷ ks) = kept-by k ks (has_kind e k) refl (kept ks)

  of_entity : All IsNamed (entity_names e (r ∷ []))
  of_entity = All-append IsNamed (group_names e r) [] (kept kinds) (All-nil IsNamed)

named_of : (es : List Entity) (r : Range) → is_aligned r ≡ true → All IsNamed (names_of es (r ∷ []))
named_of [] r aligned = All-nil IsNamed
named_of (e ∷ es) r aligned = All-append IsNamed (entity_names e (r ∷ [])) (names_of es (r ∷ [])) (of_entity e r aligned) (named_of es r aligned)

pub step_named : (step : ℕ) → step < 4096 → All IsNamed (names_over (step_range step ∷ []))
step_named step small = named_of canonical.entities (step_range step) (is_name-aligned (the_name step) (the-name step small))

step_distinct : (step : ℕ) → AllPairs (λ n o. n ≢ o) (names_over (step_range step ∷ []))
step_distinct step =
    ascend-distinct (names_over (step_range step ∷ [])) (names_over-ascend (step_range step ∷ [])
    (AllPairs-cons (λ (r q : Range). r.from < q.from) (step_range step) [] (All-nil (λ (q : Range). step < q.from)) (pairs_none (λ (r q : Range). r.from < q.from))))

pub step_apart : (list : ChangeList) (step : ℕ) → step < 4096 → AreApart (files_of_groups (step_groups list step))
step_apart list step small =
    names_apart (files_of_groups (step_groups list step))
    (subst (λ ns. All IsNamed ns) (sym (step_names list step)) (step_named step small))
    (subst (λ (ns : List FileName). AllPairs (λ n o. n ≢ o) ns) (sym (step_names list step)) (step_distinct step))
