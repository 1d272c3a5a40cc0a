-- The groups of a set to which those of a list's next step are added are the list's up to one step more.
use Rattle.std.proofs.Common.{◌≡◌, ℕ, ◌+◌, ◌<◌, ◌≤◌, Bool, true, false, not, cond, List, [], ◌∷◌, ◌++◌, map, get_or, All, Contains, Option, Some, None, IfSome, refl, ap, subst, sym, ◌∙◌, arith}
use Rattle.std.specs.List.{filter}
use Rattle.std.specs.FinMap.{get}
use Rattle.std.proofs.lemmas.List.Elements.{All-nil, All-cons, All-head, All-tail, All-map, All-append, All-contains}
use Rattle.agg_outside.specs.Files.{Files}
use Rattle.agg_model.specs.ChangeList.{ChangeList}
use Rattle.agg_model.specs.declared.entity.Entity.{Entity}
use Rattle.agg_model.specs.declared.entity.Range.{Range}
use Rattle.content_laws.specs.Parts.{Adjoin}
use Rattle.merge_ranges.specs.declared.name.FileName.{FileName}
use Rattle.merge_ranges.specs.Name.{spelled}
use Rattle.merge_ranges.specs.Cut.{IsCutFrom, end_from}
use Rattle.visible_files.specs.Ids.{same_entity, ranges_of, replaced_by, all_placed, is_covered, AreCuts}
use Rattle.visible_files.proofs.Cuts.{aligned-some, same_entity-true, same_entity-itself}
use Rattle.collate_step.specs.Groups.{GroupFiles, AreGroupsBelow, group_of, groups_for, step_range, step_groups, entities}
use Rattle.agg_core.specs.Files.{HasFile, HasExactly}
use Rattle.group_files.specs.NewFiles.{names_for}
use Rattle.state_store.specs.Store.{IsStepBelow}
use Rattle.state_store.specs.Settling.{id_of_group}
use Rattle.state_store.proofs.SetLaws.{all_placed-All, all_placed-keeps, all_placed-has, all_stay, IsFrom}
use Rattle.state_store.proofs.StepFiles.{names_in, names-All, names-each, names-within}

-- ---- each group is one of the list

abbrev pub IsOf : ChangeList → GroupFiles → Type 0
IsOf list g = g ≡ group_of list g.entity g.range

module _ (list : ChangeList) where
  -- what holds of the groups of each entity holds of all
  each_entity : (P : GroupFiles → Type 0) (gs : List GroupFiles) → ((e : Entity) → All P (groups_for e gs)) → All P gs
  each_entity P [] all = All-nil P
  each_entity P (g ∷ gs) all =
      let Q : Bool → Type 0 = λ t. All P (cond t (g ∷ groups_for g.entity gs) (groups_for g.entity gs)) in
      All-cons P g gs (All-head P g (groups_for g.entity gs) (subst Q (same_entity-itself g.entity) (all g.entity)))
      (each_entity P gs (λ e. rest e (same_entity g.entity e) (all e)))
    where
      rest : (e : Entity) (t : Bool) → All P (cond t (g ∷ groups_for e gs) (groups_for e gs)) → All P (groups_for e gs)
      rest e true h = All-tail P g (groups_for e gs) h
      rest e false h = h

  all_of_list : (e : Entity) (ranges : List Range) → All (IsOf list) (map (group_of list e) ranges)
  all_of_list e ranges = All-map (IsOf list) (group_of list e) ranges (λ k d below. refl)

  pub groups_are : (end : ℕ) (gs : List GroupFiles) → AreGroupsBelow list end gs → All (IsOf list) gs
  groups_are end gs below = each_entity (IsOf list) gs (λ e. subst (All (IsOf list)) (sym (below e).1.1) (all_of_list e (below e).0))

  -- groups of the list are told by their entities and ranges
  pub for_entity : (e : Entity) (gs : List GroupFiles) → All (IsOf list) gs → groups_for e gs ≡ map (group_of list e) (ranges_of e (map id_of_group gs))
  for_entity e [] all = refl
  for_entity e (g ∷ gs) all = by (same_entity g.entity e) refl (for_entity e gs (All-tail (IsOf list) g gs all))
    where
      by : (t : Bool) → same_entity g.entity e ≡ t → groups_for e gs ≡ map (group_of list e) (ranges_of e (map id_of_group gs))
          → cond t (g ∷ groups_for e gs) (groups_for e gs) ≡ map (group_of list e) (cond t (g.range ∷ ranges_of e (map id_of_group gs)) (ranges_of e (map id_of_group gs)))
      by true is rest = λ i. (All-head (IsOf list) g gs all ∙ ap (λ f. group_of list f g.range) (same_entity-true g.entity e is)) i ∷ rest i
      by false is rest = rest

  adjoins : (a : ℕ) (cut : List Range) (end : ℕ) → IsCutFrom a cut → end_from a cut ≡ end → Adjoin a cut end
  adjoins a [] end h e = e
  adjoins a (r ∷ rs) end h e = (h.0, (aligned-some r h.1, adjoins r.to rs end h.2 e))

  -- a set of groups of the list is the list's up to its end
  pub are_below : (end : ℕ) (gs : List GroupFiles) → All (IsOf list) gs → AreCuts (map id_of_group gs) end → AreGroupsBelow list end gs
  are_below end gs all cuts = λ e.
      (ranges_of e (map id_of_group gs), (adjoins 0 (ranges_of e (map id_of_group gs)) end (cuts.cut e) (cuts.ends e), for_entity e gs all))

  step_are : (step : ℕ) → All (IsOf list) (step_groups list step)
  step_are step = All-map (IsOf list) (λ e. group_of list e (step_range step)) entities (λ k d below. refl)

  step_single : (step : ℕ) → All (IsStepBelow (step + 1)) (step_groups list step)
  step_single step = All-map (IsStepBelow (step + 1)) (λ e. group_of list e (step_range step)) entities (λ k d below. (refl, omega arith))

  step_from : (step : ℕ) → All (IsFrom step) (map id_of_group (step_groups list step))
  step_from step = All-map (IsFrom step) id_of_group (step_groups list step) (All-map (λ g. IsFrom step (id_of_group g)) (λ e. group_of list e (step_range step)) entities (λ k d below. omega arith))

  -- ---- a step is added

  module _ (end : ℕ) (below added after : List GroupFiles) (is : added ≡ step_groups list end) (made : after ≡ replaced_by id_of_group below added) (single : All (IsStepBelow end) below) where
    -- none of the groups below is replaced
    stay : filter (λ g. not (is_covered (map id_of_group added) (id_of_group g))) below ≡ below
    stay = all_stay id_of_group end (map id_of_group added) below (subst (λ gs. All (IsFrom end) (map id_of_group gs)) (sym is) (step_from end)) (λ k d low. before (single k d low).0 (single k d low).1)
      where
        before : {f t : ℕ} → t ≡ f + 1 → t ≤ end → f < end
        before e h = omega (arith, e, h)

    placed_is : after ≡ all_placed id_of_group added below
    placed_is = made ∙ ap (all_placed id_of_group added) stay

    whole : (P : GroupFiles → Type 0) → All P added → All P below → All P after
    whole P one all = subst (All P) (sym placed_is) (all_placed-All id_of_group P added below one all)

    pub after_single : All (IsStepBelow (end + 1)) after
    after_single =
        whole (IsStepBelow (end + 1)) (subst (All (IsStepBelow (end + 1))) (sym is) (step_single end)) (λ k d low. ((single k d low).0, up (single k d low).1))
      where
        up : {t : ℕ} → t ≤ end → t ≤ end + 1
        up h = omega (arith, h)

    pub after_are : AreGroupsBelow list end below → AreCuts (map id_of_group after) (end + 1) → AreGroupsBelow list (end + 1) after
    after_are groups cuts = are_below (end + 1) after (whole (IsOf list) (subst (All (IsOf list)) (sym is) (step_are end)) (groups_are end below groups)) cuts

    -- the names of all are those of the groups below and those of the step
    after_has : (gs : List GroupFiles) → All (Contains (all_placed id_of_group added below)) gs → All (Contains (names_for after)) (names_for gs)
    after_has gs there =
        names-All (Contains (names_for after)) gs (λ k d low.
        All-contains (λ g. All (Contains (names_for after)) (names_in g)) after (get_or gs k d) (names-within after) (subst (λ l. Contains l (get_or gs k d)) (sym placed_is) (there k d low)))

    pub after_exactly : (f : Files) → HasExactly list (names_for below ++ names_for added) f → HasExactly list (names_for after) f
    after_exactly f has =
        let names = names_for below ++ names_for added in
        let there : All (Contains (names_for after)) names =
        All-append (Contains (names_for after)) (names_for below) (names_for added) (after_has below (all_placed-keeps id_of_group added below)) (after_has added (all_placed-has id_of_group added below)) in
        let of_below : All (HasFile list f) (names_for below) = λ k d low. front (names_for below) (names_for added) has.stand k d low in
        let of_added : All (HasFile list f) (names_for added) = λ k d low. back (names_for below) (names_for added) has.stand k d low in
        record {
          stand = names-All (HasFile list f) after (whole (λ g. All (HasFile list f) (names_in g)) (names-each (HasFile list f) added of_added) (names-each (HasFile list f) below of_below));
          only = λ name named. weaker (get f (spelled name)) (λ within. All-contains (Contains (names_for after)) names name there within) (has.only name named);
          no_temporary = has.no_temporary;
        }
      where
        front : (xs ys : List FileName) → All (HasFile list f) (xs ++ ys) → All (HasFile list f) xs
        front [] ys all = All-nil (HasFile list f)
        front (x ∷ xs) ys all = All-cons (HasFile list f) x xs (All-head (HasFile list f) x (xs ++ ys) all) (front xs ys (All-tail (HasFile list f) x (xs ++ ys) all))

        back : (xs ys : List FileName) → All (HasFile list f) (xs ++ ys) → All (HasFile list f) ys
        back [] ys all = all
        back (x ∷ xs) ys all = back xs ys (All-tail (HasFile list f) x (xs ++ ys) all)

        weaker : {A X Y : Type 0} (o : Option A) → (X → Y) → IfSome o (λ _. X) → IfSome o (λ _. Y)
        weaker None h x = tt
        weaker (Some a) h x = h x
