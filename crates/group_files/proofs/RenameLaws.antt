-- Laws of a file that is written under one name and moved to another.
use Rattle.std.proofs.Common.{◌≡◌, ◌≢◌, inl, inr, ℕ, ◌+◌, Bool, true, false, cond, List, length, Option, Some, None, is_some, IsTrue, IfSome, IfNone, IsSomeAnd, Result, Ok, Err, refl, ap, subst, sym, ◌∙◌, arith}
use Rattle.std.specs.Prelude.{OnOk, OnErr, codes}
use Rattle.std.specs.Option.{ForSome, option_map_or}
use Rattle.std.specs.Ordering.{nat_cmp, eq_by_cmp}
use Rattle.std.specs.Cmp.Lexicographic.{slice_cmp, nat_list_cmp_total}
use Rattle.std.specs.FinMap.{get, insert, remove, contains_key, get-insert, get-remove, same_map}
use Rattle.std.proofs.lemmas.List.{length-append}
use Rattle.agg_outside.specs.Files.{Files, renamed, SameElsewhere, WasDoneOrNot}
use Rattle.merge_ranges.specs.declared.name.FileName.{FileName}
use Rattle.merge_ranges.specs.Name.{spelled, spelled_on_disk}
use Rattle.agg_core.specs.Files.{temporary_of, LeftBy}
use Rattle.agg_core.proofs.OneName.{one_name, inserted, beside_insert}

-- ---- one file of a map

shadowed : {A : Type 0} (t : Bool) (x y z : A) → cond t x (cond t y z) ≡ cond t x z
shadowed true x y z = refl
shadowed false x y z = refl

removed_again : (f : Files) (name bytes : List ℕ) → remove (insert f name bytes) name ≡ remove f name
removed_again f name bytes =
    same_map nat_list_cmp_total one_name _ _ (λ q.
    let t = eq_by_cmp (slice_cmp nat_cmp) q name in
    get-remove nat_list_cmp_total (insert f name bytes) name q
    ∙ ap (λ o. cond t None o) (get-insert nat_list_cmp_total f name bytes q)
    ∙ shadowed t None (Some bytes) (get f q)
    ∙ sym (get-remove nat_list_cmp_total f name q))

-- ---- written, and moved

-- a file that was written and then moved
moved : (temporary name bytes : List ℕ) (f : Files) → renamed temporary name (insert f temporary bytes) ≡ insert (remove f temporary) name bytes
moved temporary name bytes f =
    let written = insert f temporary bytes in
    ap (λ o. option_map_or (λ found. insert (remove written temporary) name found) o written) (inserted f temporary bytes)
    ∙ ap (λ g. insert g name bytes) (removed_again f temporary bytes)

pub quiet : (before mid after : Option Files) → IfNone before (mid ≡ None) → IfNone mid (after ≡ None) → IfNone before (after ≡ None)
quiet None mid after one two = let P : Option Files → Type 0 = λ o. IfNone o (after ≡ None) in subst P one two
quiet (Some f) mid after one two = tt

-- only the first call was tried
some_weaker : (P Q : Files → Type 0) (o : Option Files) → ((g : Files) → P g → Q g) → IsSomeAnd o P → IsSomeAnd o Q
some_weaker P Q None f h = h
some_weaker P Q (Some g) f h = f g h

pub begun : (temporary name bytes : List ℕ) (before after : Option Files) → IfSome before (λ f. IsSomeAnd after (SameElsewhere temporary f)) → IfSome before (λ f. IsSomeAnd after (LeftBy temporary name bytes f))
begun temporary name bytes None after left = tt
begun temporary name bytes (Some f) after left = some_weaker (SameElsewhere temporary f) (LeftBy temporary name bytes f) after (λ g h. inl h) left

-- the file is there to be moved
pub there : (temporary bytes : List ℕ) (before mid : Option Files) → IfSome before (λ f. mid ≡ Some (insert f temporary bytes)) → IfNone before (mid ≡ None) → ForSome mid (λ f. IsTrue (contains_key f temporary))
there temporary bytes None mid written silent = λ f told. cc (silent, told)
there temporary bytes (Some b) mid written silent = λ f told.
    let P : Option Files → Type 0 = λ o. IfSome o (λ g. IsTrue (contains_key g temporary)) in
    subst P told (subst P (sym written) (ap is_some (inserted b temporary bytes)))

-- both calls were done
pub moved_ok : {E : Type 0} (temporary name bytes : List ℕ) (before mid after : Option Files) (result : Result Unit E) → IfSome before (λ f. mid ≡ Some (insert f temporary bytes)) → IfSome mid (λ f. OnOk result (after ≡ Some (renamed temporary name f)))
    → IfSome before (λ f. OnOk result (after ≡ Some (insert (remove f temporary) name bytes)))
moved_ok temporary name bytes None mid after result written done = tt
moved_ok temporary name bytes (Some f) mid after result written done =
    let P : Option Files → Type 0 = λ o. IfSome o (λ g. OnOk result (after ≡ Some (renamed temporary name g))) in
    subst (λ (g : Files). OnOk result (after ≡ Some g)) (moved temporary name bytes f) (subst P written done)

done_left : (temporary name bytes : List ℕ) (f : Files) (after : Option Files) → after ≡ Some (renamed temporary name (insert f temporary bytes)) → IsSomeAnd after (LeftBy temporary name bytes f)
done_left temporary name bytes f after done =
    subst (λ (o : Option Files). IsSomeAnd o (LeftBy temporary name bytes f)) (sym done) (inr (moved temporary name bytes f))

written_left : (temporary name bytes : List ℕ) (f : Files) (after : Option Files) → after ≡ Some (insert f temporary bytes) → IsSomeAnd after (LeftBy temporary name bytes f)
written_left temporary name bytes f after same =
    subst (λ (o : Option Files). IsSomeAnd o (LeftBy temporary name bytes f)) (sym same) (inl (λ other a. beside_insert f temporary bytes other a))

left_by : {E : Type 0} (temporary name bytes : List ℕ) (f : Files) (after : Option Files) (result : Result Unit E) → OnOk result (after ≡ Some (renamed temporary name (insert f temporary bytes)))
    → OnErr result (WasDoneOrNot (insert f temporary bytes) (renamed temporary name (insert f temporary bytes)) after) → IsSomeAnd after (LeftBy temporary name bytes f)
left_by temporary name bytes f after (Ok u) done failed = done_left temporary name bytes f after done
left_by temporary name bytes f after (Err e) done failed = elim failed [
  | inl not_done ↦ written_left temporary name bytes f after not_done
  | inr was_done ↦ done_left temporary name bytes f after was_done
]

-- the first call was done, and the second in some way
pub moved_left : {E : Type 0} (temporary name bytes : List ℕ) (before mid after : Option Files) (result : Result Unit E) → IfSome before (λ f. mid ≡ Some (insert f temporary bytes)) → IfSome mid (λ f. OnOk result (after ≡ Some (renamed temporary name f)))
    → IfSome mid (λ f. OnErr result (WasDoneOrNot f (renamed temporary name f) after)) → IfSome before (λ f. IsSomeAnd after (LeftBy temporary name bytes f))
moved_left temporary name bytes None mid after result written done failed = tt
moved_left temporary name bytes (Some f) mid after result written done failed =
    let P : Option Files → Type 0 = λ o. IfSome o (λ g. OnOk result (after ≡ Some (renamed temporary name g))) in
    let Q : Option Files → Type 0 = λ o. IfSome o (λ g. OnErr result (WasDoneOrNot g (renamed temporary name g) after)) in
    left_by temporary name bytes f after result (subst P written done) (subst Q written failed)

-- ---- names

-- a name isn't its temporary one
pub names_apart : (name : FileName) (place temporary : List ℕ) → place ≡ spelled name → temporary ≡ temporary_of name → place ≢ temporary
unfolding spelled_on_disk
names_apart name place temporary is_place is_temporary = λ same.
    let longer : length (spelled name) ≡ length (spelled name) + 4 =
    ap length (sym is_place ∙ same ∙ is_temporary) ∙ length-append (spelled name) (codes ".tmp") in
    absurd (omega (arith, longer))
