-- A disk that has the files of a step in part, and on which they are all written.
use Rattle.std.proofs.Common.{◌≡◌, ◌⊎◌, inl, inr, ℕ, ◌+◌, ◌*◌, ◌<◌, ◌≤◌, Bool, true, false, List, [], ◌∷◌, ◌++◌, drop, get_or, All, Contains, Option, Some, None, is_some, IfSome, IfNone, IsSomeAnd, Result, Ok, Err, refl, ap, subst, sym, ◌∙◌, arith}
use Rattle.std.specs.Prelude.{OnOk, OnErr}
use Rattle.std.specs.Option.{ForSome}
use Rattle.std.specs.FinMap.{get}
use Rattle.std.proofs.lemmas.List.Elements.{All-nil, All-cons, All-append, All-map, All-contains, All-contains_itself, Contains-push, Contains-append_left, Contains-append_right}
use Rattle.agg_outside.specs.Files.{Files}
use Rattle.agg_model.specs.ChangeList.{ChangeList}
use Rattle.merge_ranges.specs.declared.name.FileName.{FileName}
use Rattle.merge_ranges.specs.Name.{is_name, spelled}
use Rattle.merge_ranges.specs.CanonicalNames.{names_over}
use Rattle.merge_ranges.proofs.Names.{spelled-injective}
use Rattle.collate_step.specs.Groups.{GroupFiles, group_of, step_range, step_groups, entities}
use Rattle.agg_core.specs.Files.{temporary_of, MayStand, HasFile, HasExactly, IsFileOf}
use Rattle.agg_core.proofs.Kept.{never_temporary}
use Rattle.agg_core.proofs.OneName.{decided}
use Rattle.group_files.specs.NewFiles.{NewFile, files_of_groups, new_names, names_for, AreApart, HasBytes, HasNoTemporary, IsOtherThan, IsOther, IsSame, ArePublished, ArePartlyPublished, IsOfList}
use Rattle.state_store.specs.Store.{HasPart, HasOneTemporary, step_names}
use Rattle.state_store.specs.Settling.{IsNextStep}
use Rattle.state_store.proofs.StepFiles.{IsNamed, un_map, or_new, or_temporary, temporary-injective, none_some, some_is, if_some, if_none, keeps_all, names_to, names_of_step, new_named, new_may, below_names, same_files}

-- ---- before and after

-- a disk that has exactly these files has no part of others
pub part_of : (list : ChangeList) (names next : List FileName) (f : Files) → All (MayStand list) names → HasExactly list names f → HasPart list names next f
part_of list names next f may has = record {
  held = has.stand;
  named = (keeps_all list names f may has).named;
  only = λ name is. left (get f (spelled name)) name (has.only name is);
  temporary = λ name is. if_none (λ _. Contains next name × MayStand list name) (get f (temporary_of name)) (has.no_temporary name is);
}
  where
    left : (o : Option (List ℕ)) (name : FileName) → IfSome o (λ _. Contains names name) → IfSome o (λ _. Contains names name ⊎ Contains next name)
    left None name h = tt
    left (Some b) name h = inl h

-- where none of the next files may stand, it has exactly these
pub exactly_of : (list : ChangeList) (names next : List FileName) (f : Files) → All (λ n. MayStand list n → ⊥) next → HasPart list names next f → HasExactly list names f
exactly_of list names next f never has = record {
  stand = has.held;
  only = λ name is. within name (get f (spelled name)) (has.named name is) (has.only name is);
  no_temporary = λ name is. none name (get f (temporary_of name)) (has.temporary name is);
}
  where
    one_of : (name : FileName) → MayStand list name → Contains names name ⊎ Contains next name → Contains names name
    one_of name may (inl in_names) = in_names
    one_of name may (inr in_next) = absurd (All-contains (λ n. MayStand list n → ⊥) next name never in_next may)

    within : (name : FileName) (o : Option (List ℕ)) → IfSome o (IsFileOf list name) → IfSome o (λ _. Contains names name ⊎ Contains next name) → IfSome o (λ _. Contains names name)
    within name None of h = tt
    within name (Some b) of h = one_of name of.1 h

    none : (name : FileName) (o : Option (List ℕ)) → IfSome o (λ _. Contains next name × MayStand list name) → o ≡ None
    none name None h = refl
    none name (Some b) h = absurd (All-contains (λ n. MayStand list n → ⊥) next name never h.0 h.1)

-- ---- the next files are written

module _ (list : ChangeList) (names next : List FileName) (new : List NewFile) (f g : Files) (are_next : new_names new ≡ next) (named : All IsNamed (new_names new)) (of_list : All (IsOfList list) new) (apart : AreApart new) where
  is_named_new : (n : NewFile) → Contains new n → is_name n.name ≡ true
  is_named_new n within = All-contains (λ (m : NewFile). IsNamed m.name) new n (un_map IsNamed (λ (m : NewFile). m.name) new named) within

  in_next : (n : NewFile) → Contains new n → Contains next n.name
  in_next n within =
      All-contains (λ (m : NewFile). Contains next m.name) new n
      (un_map (Contains next) (λ (m : NewFile). m.name) new (subst (All (Contains next)) (sym are_next) (All-contains_itself next))) within

  of_bytes : (n : NewFile) → Contains new n → HasBytes g n → HasFile list g n.name
  of_bytes n within has = has ∙ ap Some (All-contains (IsOfList list) new n of_list within)

  -- a file is as it was, or is a new one with its bytes
  abbrev Either : Type 1
  Either = (P : Type 0) (name : FileName) → is_name name ≡ true → (get g (spelled name) ≡ get f (spelled name) → P) → ((n : NewFile) → Contains new n → name ≡ n.name → HasFile list g n.name → P) → P

  module _ (may_new : All (λ n. MayStand list n.name) new) (are : All IsNamed names) (has : HasPart list names next f) (either : Either) where
    held_after : (name : FileName) → is_name name ≡ true → HasFile list f name → HasFile list g name
    held_after name is there =
        either (HasFile list g name) name is (λ same. same ∙ there) (λ n within so whole. subst (HasFile list g) (sym so) whole)

    all_held : All (HasFile list g) names
    all_held = λ k d below. held_after (get_or names k d) (are k d below) (has.held k d below)

    named_after : (name : FileName) → is_name name ≡ true → IfSome (get g (spelled name)) (IsFileOf list name)
    named_after name is =
        either (IfSome (get g (spelled name)) (IsFileOf list name)) name is (λ same. subst (λ o. IfSome o (IsFileOf list name)) (sym same) (has.named name is))
        (λ n within so whole.
        subst (λ (m : FileName). IfSome (get g (spelled m)) (IsFileOf list m)) (sym so)
        (subst (λ o. IfSome o (IsFileOf list n.name)) (sym whole) (refl, All-contains (λ (m : NewFile). MayStand list m.name) new n may_new within)))

    only_after : (name : FileName) → is_name name ≡ true → IfSome (get g (spelled name)) (λ _. Contains names name ⊎ Contains next name)
    only_after name is =
        either (IfSome (get g (spelled name)) (λ _. Contains names name ⊎ Contains next name)) name is
        (λ same. subst (λ o. IfSome o (λ _. Contains names name ⊎ Contains next name)) (sym same) (has.only name is))
        (λ n within so whole.
        if_some (λ _. Contains names name ⊎ Contains next name) (get g (spelled name)) (λ b e. inr (subst (Contains next) (sym so) (in_next n within))))

    temporary_after : ((text : List ℕ) → IsOther new text → IsSame f g text) → (name : FileName) → is_name name ≡ true → IfSome (get g (temporary_of name)) (λ _. Contains next name × MayStand list name)
    temporary_after others name is =
        or_temporary new name
        (λ other. subst (λ o. IfSome o (λ _. Contains next name × MayStand list name)) (sym (others (temporary_of name) other)) (has.temporary name is))
        (λ n within same.
        let so = temporary-injective name n.name is (is_named_new n within) same in
        if_some (λ _. Contains next name × MayStand list name) (get g (temporary_of name)) (λ b e. (
          subst (Contains next) (sym so) (in_next n within),
          subst (MayStand list) (sym so) (All-contains (λ (m : NewFile). MayStand list m.name) new n may_new within),
        )))

    part_still : ((text : List ℕ) → IsOther new text → IsSame f g text) → HasPart list names next g
    part_still others = record { held = all_held; named = named_after; only = only_after; temporary = temporary_after others }

    -- all of them are there then
    module _ (published : ArePublished new f g) where
      all_new : All (HasFile list g) next
      all_new =
          subst (All (HasFile list g)) are_next
          (All-map (HasFile list g) (λ (m : NewFile). m.name) new (λ k d below. published.whole apart k d below ∙ ap Some (of_list k d below)))

      no_other : (name : FileName) → Contains next name → IsOther new (temporary_of name) → ⊥
      no_other name within other =
          All-contains (λ (m : FileName). temporary_of name ≡ temporary_of m → ⊥) next name
          (subst (All (λ (m : FileName). temporary_of name ≡ temporary_of m → ⊥)) are_next
          (All-map (λ (m : FileName). temporary_of name ≡ temporary_of m → ⊥) (λ (m : NewFile). m.name) new (λ k d below. (other k d below).1))) within refl

      none_before : (name : FileName) → IsOther new (temporary_of name) → (o : Option (List ℕ)) → get f (temporary_of name) ≡ o → IfSome o (λ _. Contains next name × MayStand list name) → get f (temporary_of name) ≡ None
      none_before name other None e h = e
      none_before name other (Some b) e h = absurd (no_other name h.0 other)

      none_after : (name : FileName) → is_name name ≡ true → get g (temporary_of name) ≡ None
      none_after name is =
          or_temporary new name
          (λ other. published.others (temporary_of name) other ∙ none_before name other (get f (temporary_of name)) refl (has.temporary name is))
          (λ n within same. ap (get g) same ∙ All-contains (HasNoTemporary g) new n published.cleared within)

      either_one : (name : FileName) (o : Option (List ℕ)) → IfSome o (λ _. Contains names name ⊎ Contains next name) → IfSome o (λ _. Contains (names ++ next) name)
      either_one name None h = tt
      either_one name (Some b) (inl h) = Contains-append_left names next name h
      either_one name (Some b) (inr h) = Contains-append_right names next name h

      whole_now : HasExactly list (names ++ next) g
      whole_now = record {
        stand = All-append (HasFile list g) names next all_held all_new;
        only = λ name is. either_one name (get g (spelled name)) (only_after name is);
        no_temporary = none_after;
      }

  either_published : ArePublished new f g → Either
  either_published published P name is same one =
      or_new new name (λ other. same (published.others (spelled name) other))
      (λ n within so.
      one n within (spelled-injective name n.name is (is_named_new n within) so) (of_bytes n within (All-contains (HasBytes g) new n (published.whole apart) within)))

  pub whole_after : All (λ n. MayStand list n.name) new → All IsNamed names → HasPart list names next f → ArePublished new f g → HasExactly list (names ++ next) g
  whole_after may_new are has published = whole_now may_new are has (either_published published) published

  -- ---- some of them are written

  module _ (published : ArePartlyPublished new f g) where
    other_new : (text : List ℕ) → IsOther published.done text → IsOther published.rest text → IsOther new text
    other_new text one two = subst (λ l. IsOther l text) (sym published.parts) (All-append (IsOtherThan text) published.done published.rest one two)

    done_new : (n : NewFile) → Contains published.done n → Contains new n
    done_new n within = subst (λ l. Contains l n) (sym published.parts) (Contains-append_left published.done published.rest n within)

    rest_new : (n : NewFile) → Contains published.rest n → Contains new n
    rest_new n within = subst (λ l. Contains l n) (sym published.parts) (Contains-append_right published.done published.rest n within)

    either_partly : Either
    either_partly P name is same one =
        or_new published.done name
        (λ first. or_new published.rest name
        (λ second. same (published.others (spelled name) (other_new (spelled name) first second)))
        (λ n within so. same (ap (get g) so ∙ All-contains (λ (m : NewFile). IsSame f g (spelled m.name)) published.rest n (published.untouched apart) within ∙ ap (get f) (sym so))))
        (λ n within so.
        one n (done_new n within) (spelled-injective name n.name is (is_named_new n (done_new n within)) so)
        (of_bytes n (done_new n within) (All-contains (HasBytes g) published.done n (published.whole apart) within)))

    pub part_after : All (λ n. MayStand list n.name) new → All IsNamed names → HasPart list names next f → HasPart list names next g
    part_after may_new are has = part_still may_new are has either_partly published.others

-- ---- at most one temporary name is left

pub one_of_none : (f : Files) → ((name : FileName) → is_name name ≡ true → get f (temporary_of name) ≡ None) → HasOneTemporary f
one_of_none f clear a b is_a is_b there_a there_b = absurd (no_some (ap is_some (clear a is_a)) there_a)
  where
    no_some : {t : Bool} → t ≡ false → t ≡ true → ⊥
    no_some e h = cc (e, h)

module _ (new : List NewFile) (f g : Files) (named : All IsNamed (new_names new)) (apart : AreApart new) (clear : (name : FileName) → is_name name ≡ true → get f (temporary_of name) ≡ None) (published : ArePartlyPublished new f g) where
  none_there : (text : List ℕ) → get g text ≡ None → is_some (get g text) ≡ true → ⊥
  none_there text none there = cc (ap is_some none, there)

  abbrev IsFirst : List NewFile → FileName → Type 0
  IsFirst [] a = ⊥
  IsFirst (n ∷ ns) a = a ≡ n.name

  in_rest : (a : FileName) → is_name a ≡ true → is_some (get g (temporary_of a)) ≡ true → (done rest : List NewFile) → new ≡ done ++ rest → IsOther done (temporary_of a) → All (λ n. IsSame f g (temporary_of n.name)) (drop 1 rest) → IsFirst rest a
  in_rest a is there done [] parts one waiting =
      let other : IsOther new (temporary_of a) = subst (λ l. IsOther l (temporary_of a)) (sym parts) (All-append (IsOtherThan (temporary_of a)) done [] one (All-nil (IsOtherThan (temporary_of a)))) in
      none_there (temporary_of a) (published.others (temporary_of a) other ∙ clear a is) there
  in_rest a is there done (n ∷ ns) parts one waiting =
      let within : Contains new n = subst (λ l. Contains l n) (sym parts) (Contains-append_right done (n ∷ ns) n (Contains-append_left (n ∷ []) ns n (Contains-push [] n))) in
      let is_new_name : is_name n.name ≡ true = All-contains (λ (m : NewFile). IsNamed m.name) new n (un_map IsNamed (λ (m : NewFile). m.name) new named) within in
      decided (temporary_of a) (temporary_of n.name) (temporary-injective a n.name is is_new_name)
      (λ differ. or_temporary ns a
      (λ two.
      let rest : IsOther (n ∷ ns) (temporary_of a) = All-cons (IsOtherThan (temporary_of a)) n ns ((λ same. never_temporary n.name a (sym same)), differ) two in
      let other : IsOther new (temporary_of a) = subst (λ l. IsOther l (temporary_of a)) (sym parts) (All-append (IsOtherThan (temporary_of a)) done (n ∷ ns) one rest) in
      absurd (none_there (temporary_of a) (published.others (temporary_of a) other ∙ clear a is) there))
      (λ m in_ns same.
      absurd (none_there (temporary_of a)
      (ap (get g) same ∙ All-contains (λ (m : NewFile). IsSame f g (temporary_of m.name)) ns m waiting in_ns ∙ ap (get f) (sym same) ∙ clear a is) there)))

  is_first : (a : FileName) → is_name a ≡ true → is_some (get g (temporary_of a)) ≡ true → IsFirst published.rest a
  is_first a is there =
      or_temporary published.done a (λ one. in_rest a is there published.done published.rest published.parts one (published.waiting apart))
      (λ n within same. absurd (none_there (temporary_of a) (ap (get g) same ∙ All-contains (HasNoTemporary g) published.done n (published.cleared apart) within) there))

  both : (a b : FileName) (rest : List NewFile) → IsFirst rest a → IsFirst rest b → a ≡ b
  both a b [] one two = absurd one
  both a b (n ∷ ns) one two = one ∙ sym two

  pub one_after : HasOneTemporary g
  one_after a b is_a is_b there_a there_b = both a b published.rest (is_first a is_a there_a) (is_first b is_b there_b)

-- ---- the same of a disk that may tell

told_ok : {E : Type 0} (P Q : Files → Type 0) (new : List NewFile) (before after : Option Files) (result : Result Unit E) → ((f g : Files) → P f → ArePublished new f g → Q g) → IfSome before (λ f. OnOk result (IsSomeAnd after (ArePublished new f)))
    → IfNone before (after ≡ None) → ForSome before P → OnOk result (ForSome after Q)
told_ok P Q new before after (Err e) step ok silent has = tt
told_ok P Q new None after (Ok u) step ok silent has = λ g told. absurd (none_some (sym silent ∙ told))
told_ok P Q new (Some f) None (Ok u) step ok silent has = absurd ok
told_ok P Q new (Some f) (Some g) (Ok u) step ok silent has = λ h told. subst Q (some_is told) (step f g (has f refl) ok)

told_err : {E : Type 0} (P Q : Files → Type 0) (new : List NewFile) (before after : Option Files) (result : Result Unit E) → ((f g : Files) → P f → ArePartlyPublished new f g → Q g) → IfSome before (λ f. OnErr result (IsSomeAnd after (ArePartlyPublished new f)))
    → IfNone before (after ≡ None) → ForSome before P → OnErr result (ForSome after Q)
told_err P Q new before after (Ok u) step err silent has = tt
told_err P Q new None after (Err e) step err silent has = λ g told. absurd (none_some (sym silent ∙ told))
told_err P Q new (Some f) None (Err e) step err silent has = absurd err
told_err P Q new (Some f) (Some g) (Err e) step err silent has = λ h told. subst Q (some_is told) (step f g (has f refl) err)

-- ---- the files of a list's next step

module _ (list : ChangeList) (step : ℕ) (below added : List GroupFiles) (next : IsNextStep list step below added)
    (apart : AreApart (files_of_groups (step_groups list step)))
    (step_is : new_names (files_of_groups (step_groups list step)) ≡ names_over (step_range step ∷ []))
    (of_list : All (IsOfList list) (files_of_groups (step_groups list step))) where
  abbrev files : List NewFile
  files = files_of_groups (step_groups list step)

  are_named_files : All IsNamed (new_names files)
  are_named_files = new_named list step below added next apart step_is of_list

  may_files : All (λ (n : NewFile). MayStand list n.name) files
  may_files = new_may list step below added next apart step_is of_list

  named_below : All IsNamed (names_for below)
  named_below = below_names list step below added next apart step_is of_list

  are_same : files_of_groups added ≡ files
  are_same = same_files list step below added next apart step_is of_list

  names_added : names_for added ≡ step_names step
  names_added = ap names_for next.is ∙ names_of_step list step

  pub part_ok : {E : Type 0} (before after : Option Files) (result : Result Unit E) → IfSome before (λ f. OnOk result (IsSomeAnd after (ArePublished (files_of_groups added) f))) → IfNone before (after ≡ None)
      → ForSome before (HasPart list (names_for below) (step_names step)) → OnOk result (ForSome after (HasExactly list (names_for below ++ names_for added)))
  part_ok before after result ok silent has =
      told_ok (HasPart list (names_for below) (step_names step)) (HasExactly list (names_for below ++ names_for added)) (files_of_groups added) before after result
      (λ f g part published.
      subst (λ (ns : List FileName). HasExactly list (names_for below ++ ns) g) (sym names_added)
      (whole_after list (names_for below) (step_names step) files f g step_is are_named_files of_list apart may_files named_below part (subst (λ l. ArePublished l f g) are_same published)))
      ok silent has

  pub part_err : {E : Type 0} (before after : Option Files) (result : Result Unit E) → IfSome before (λ f. OnErr result (IsSomeAnd after (ArePartlyPublished (files_of_groups added) f))) → IfNone before (after ≡ None)
      → ForSome before (HasPart list (names_for below) (step_names step)) → OnErr result (ForSome after (HasPart list (names_for below) (step_names step)))
  part_err before after result err silent has =
      told_err (HasPart list (names_for below) (step_names step)) (HasPart list (names_for below) (step_names step)) (files_of_groups added) before after result
      (λ f g part published.
      part_after list (names_for below) (step_names step) files f g step_is are_named_files of_list apart (subst (λ l. ArePartlyPublished l f g) are_same published) may_files named_below part)
      err silent has

  pub one_err : {E : Type 0} (before after : Option Files) (result : Result Unit E) → IfSome before (λ f. OnErr result (IsSomeAnd after (ArePartlyPublished (files_of_groups added) f))) → IfNone before (after ≡ None)
      → ForSome before (HasExactly list (names_for below)) → OnErr result (ForSome after HasOneTemporary)
  one_err before after result err silent has =
      told_err (HasExactly list (names_for below)) HasOneTemporary (files_of_groups added) before after result
      (λ f g exactly published. one_after files f g are_named_files apart exactly.no_temporary (subst (λ l. ArePartlyPublished l f g) are_same published))
      err silent has

-- ---- a step that isn't complete

-- no file of a step may stand before the step is complete
pub never_early : (list : ChangeList) (step : ℕ) → list.next < (step + 1) * list.size → All (λ n. MayStand list n → ⊥) (step_names step)
never_early list step early =
    subst (All (λ n. MayStand list n → ⊥)) (names_of_step list step)
    (λ k d below. late (get_or (names_for (step_groups list step)) k d) (to_end k d below))
  where
    to_end : All (λ (n : FileName). n.range.to ≡ step + 1) (names_for (step_groups list step))
    to_end = names_to (λ r. r.to ≡ step + 1) (step_groups list step) (All-map (λ (g : GroupFiles). g.range.to ≡ step + 1) (λ e. group_of list e (step_range step)) entities (λ k d below. refl))

    late : (n : FileName) → n.range.to ≡ step + 1 → MayStand list n → ⊥
    late n end may =
        let complete : (step + 1) * list.size ≤ list.next = subst (λ t. t * list.size ≤ list.next) end may.complete in
        omega (arith, complete, early)
