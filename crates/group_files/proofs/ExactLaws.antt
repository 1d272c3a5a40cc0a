-- A disk that has exactly some files of a list has exactly those and a step's once these are published.
use Rattle.std.proofs.Common.{◌≡◌, ◌≢◌, ℕ, ◌<◌, true, List, [], ◌∷◌, ◌++◌, map, All, Contains, Option, Some, None, IfSome, refl, ap, subst, sym, ◌∙◌}
use Rattle.std.proofs.lemmas.List.Elements.{All-nil, All-cons, All-append, All-map, All-contains, All-contains_itself, Contains-push, Contains-append_left, Contains-append_right}
use Rattle.std.specs.FinMap.{get}
use Rattle.agg_outside.specs.Files.{Files}
use Rattle.agg_model.specs.ChangeList.{ChangeList}
use Rattle.merge_ranges.specs.declared.name.FileName.{FileName}
use Rattle.merge_ranges.specs.Name.{is_name, spelled}
use Rattle.merge_ranges.specs.CanonicalNames.{names_over}
use Rattle.merge_ranges.proofs.Names.{spelled-injective}
use Rattle.collate_step.specs.Groups.{step_range, step_groups}
use Rattle.agg_core.specs.Files.{temporary_of, HasFile, HasExactly}
use Rattle.agg_core.proofs.Kept.{never_temporary}
use Rattle.agg_core.proofs.OneName.{decided}
use Rattle.group_files.specs.NewFiles.{NewFile, files_of_groups, new_names, AreApart, HasBytes, HasNoTemporary, IsOtherThan, IsOther, ArePublished, IsOfList}
use Rattle.group_files.proofs.NameFiles.{un_map, IsNamed, step_names, step_named, step_apart, of_step}

-- ---- a name is one of those that were written, or another

module _ {P : Type 0} where
  or_new : (new : List NewFile) (name : FileName) → (IsOther new (spelled name) → P) → ((n : NewFile) → Contains new n → spelled name ≡ spelled n.name → P) → P
  or_new [] name other one = other (All-nil (IsOtherThan (spelled name)))
  or_new (n ∷ ns) name other one =
      decided (spelled name) (spelled n.name)
      (λ same. one n (Contains-append_left (n ∷ []) ns n (Contains-push [] n)) same)
      (λ differ. or_new ns name
      (λ rest. other (All-cons (IsOtherThan (spelled name)) n ns (differ, never_temporary name n.name) rest))
      (λ m within same. one m (Contains-append_right (n ∷ []) ns m within) same))

  or_temporary : (new : List NewFile) (name : FileName) → (IsOther new (temporary_of name) → P) → ((n : NewFile) → Contains new n → temporary_of name ≡ temporary_of n.name → P) → P
  or_temporary [] name other one = other (All-nil (IsOtherThan (temporary_of name)))
  or_temporary (n ∷ ns) name other one =
      decided (temporary_of name) (temporary_of n.name)
      (λ same. one n (Contains-append_left (n ∷ []) ns n (Contains-push [] n)) same)
      (λ differ. or_temporary ns name
      (λ rest. other (All-cons (IsOtherThan (temporary_of name)) n ns ((λ same. never_temporary n.name name (sym same)), differ) rest))
      (λ m within same. one m (Contains-append_right (n ∷ []) ns m within) same))

weaker : {A X Y : Type 0} (o : Option A) → (X → Y) → IfSome o (λ _. X) → IfSome o (λ _. Y)
weaker None f x = tt
weaker (Some a) f x = f x

always : {A Y : Type 0} (o : Option A) → Y → IfSome o (λ _. Y)
always None y = tt
always (Some a) y = y

-- ---- files of the list are added to those that there were

module _ (list : ChangeList) (names : List FileName) (new : List NewFile) (f g : Files) (named : All IsNamed (new_names new)) (of_list : All (IsOfList list) new) (apart : AreApart new) (has : HasExactly list names f) (published : ArePublished new f g) where
  new_stand : All (λ (n : NewFile). HasFile list g n.name) new
  new_stand = λ k d below. published.whole apart k d below ∙ ap Some (of_list k d below)

  same_name : (name : FileName) (n : NewFile) → is_name name ≡ true → Contains new n → spelled name ≡ spelled n.name → name ≡ n.name
  same_name name n is within same =
      spelled-injective name n.name is (All-contains (λ (m : NewFile). IsNamed m.name) new n (un_map IsNamed (λ (m : NewFile). m.name) new named) within) same

  stands : (name : FileName) → is_name name ≡ true → HasFile list f name → HasFile list g name
  stands name is there =
      or_new new name
      (λ other. published.others (spelled name) other ∙ there)
      (λ n within same. subst (λ (m : FileName). HasFile list g m) (sym (same_name name n is within same)) (All-contains (λ (m : NewFile). HasFile list g m.name) new n new_stand within))

  in_names : (n : NewFile) → Contains new n → Contains (names ++ new_names new) n.name
  in_names n within =
      Contains-append_right names (new_names new) n.name
      (All-contains (λ (m : NewFile). Contains (new_names new) m.name) new n (un_map (λ (m : FileName). Contains (new_names new) m) (λ (m : NewFile). m.name) new (All-contains_itself (new_names new))) within)

  only : (name : FileName) → is_name name ≡ true → IfSome (get g (spelled name)) (λ _. Contains (names ++ new_names new) name)
  only name is =
      or_new new name
      (λ other. subst (λ (o : Option (List ℕ)). IfSome o (λ _. Contains (names ++ new_names new) name)) (sym (published.others (spelled name) other)) (weaker (get f (spelled name)) (Contains-append_left names (new_names new) name) (has.only name is)))
      (λ n within same. always (get g (spelled name)) (subst (λ (m : FileName). Contains (names ++ new_names new) m) (sym (same_name name n is within same)) (in_names n within)))

  no_temporary : (name : FileName) → is_name name ≡ true → get g (temporary_of name) ≡ None
  no_temporary name is =
      or_temporary new name
      (λ other. published.others (temporary_of name) other ∙ has.no_temporary name is)
      (λ n within same. ap (get g) same ∙ All-contains (HasNoTemporary g) new n published.cleared within)

  exactly_more : All IsNamed names → HasExactly list (names ++ new_names new) g
  exactly_more are = record {
    stand = All-append (HasFile list g) names (new_names new)
        (λ k d below. stands _ (are k d below) (has.stand k d below))
        (All-map (HasFile list g) (λ (n : NewFile). n.name) new new_stand);
    only = only;
    no_temporary = no_temporary;
  }

pub exactly_step : (list : ChangeList) (step : ℕ) (names : List FileName) (f g : Files) → step < 4096 → All IsNamed names → HasExactly list names f → ArePublished (files_of_groups (step_groups list step)) f g → HasExactly list (names ++ names_over (step_range step ∷ [])) g
exactly_step list step names f g small are has published =
    let new = files_of_groups (step_groups list step) in
    let named : All IsNamed (new_names new) = subst (λ (ns : List FileName). All IsNamed ns) (sym (step_names list step)) (step_named step small) in
    subst (λ (ns : List FileName). HasExactly list (names ++ ns) g) (step_names list step) (exactly_more list names new f g named (of_step list step) (step_apart list step small) has published are)
