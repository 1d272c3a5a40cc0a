-- Laws of a disk that has files of a list, and of one file that is put there.
use Rattle.std.proofs.Common.{◌≡◌, ◌≢◌, inl, inr, ℕ, ◌≤◌, true, List, [], ◌∷◌, ◌++◌, All, Contains, Option, Some, None, is_some, IfSome, IfNone, IsSomeAnd, refl, ap, subst, sym, ◌∙◌, arith}
use Rattle.std.proofs.lemmas.List.{append_cancel_right}
use Rattle.std.proofs.lemmas.List.Elements.{Contains-push, Contains-append_left, All-push, All-contains}
use Rattle.std.specs.Prelude.{codes}
use Rattle.std.specs.FinMap.{get, insert, remove}
use Rattle.agg_outside.specs.Files.{Files, SameElsewhere}
use Rattle.agg_model.specs.declared.entity.Entity.{Entity}
use Rattle.agg_model.specs.declared.entity.FileKind.{FileKind}
use Rattle.agg_model.specs.declared.change.Change.{Change}
use Rattle.agg_model.specs.ChangeList.{ChangeList, grown}
use Rattle.merge_ranges.specs.declared.name.FileName.{FileName}
use Rattle.merge_ranges.specs.Name.{is_name, spelled, spelled_on_disk}
use Rattle.merge_ranges.proofs.NameLaws.{not_temporary}
use Rattle.merge_ranges.proofs.Names.{spelled-injective}
use Rattle.agg_core.specs.Names.{single_step, single_steps, written_over}
use Rattle.agg_core.specs.Bytes.{file_bytes}
use Rattle.agg_core.specs.Files.{temporary_of, LeftBy, MayStand, AreOutsideSame, HasFile, HasExactly, KeepsNamed, IsCovered, Covers, SameOutside}
use Rattle.agg_core.proofs.OneName.{decided, inserted, beside_insert, removed, beside_remove}
use Rattle.agg_core.proofs.Stays.{file_bytes-stays}
use Rattle.agg_core.proofs.Written.{IsDue, step-named, from_written}

-- ---- names that are apart

-- no file has a temporary name
pub never_temporary : (name other : FileName) → spelled name ≢ temporary_of other
unfolding spelled_on_disk
never_temporary name other same = not_temporary name (spelled other) same

-- a temporary name is that of one file
temporary-injective : (name other : FileName) → is_name name ≡ true → is_name other ≡ true → temporary_of name ≡ temporary_of other → name ≡ other
unfolding spelled_on_disk
temporary-injective name other is is_other same = spelled-injective name other is is_other (append_cancel_right (spelled name) (spelled other) (codes ".tmp") same)

some_is : {A : Type 0} {x y : A} → Some x ≡ Some y → x ≡ y
some_is e = cc

none_some : {A : Type 0} {x : A} → None ≡ Some x → ⊥
none_some e = cc

-- ---- what follows of a file that is there

if_there : {A : Type 0} (P : A → Type 0) (o : Option A) (x : A) → o ≡ Some x → IfSome o P → P x
if_there P o x e h = subst (λ q. IfSome q P) e h

if_some : {A : Type 0} (P : A → Type 0) (o : Option A) → ((x : A) → o ≡ Some x → P x) → IfSome o P
if_some P None h = tt
if_some P (Some x) h = h x refl

-- a disk with just these files keeps nothing else
pub keeps : (list : ChangeList) (names : List FileName) (now : Files) → All (IsDue list) names → HasExactly list names now → KeepsNamed list now
keeps list names now due has = record {
  named = λ name is. if_some _ (get now (spelled name)) (λ bytes found.
      let in_names = if_there (λ _. Contains names name) (get now (spelled name)) bytes found (has.only name is) in
      (some_is (sym found ∙ All-contains (HasFile list now) names name has.stand in_names), (All-contains (IsDue list) names name due in_names).1));
  temporary = λ name is. if_some _ (get now (temporary_of name)) (λ bytes found. absurd (none_some (sym (has.no_temporary name is) ∙ found)));
}

-- the first steps are covered by their files
pub covers : (list : ChangeList) (steps : ℕ) (now : Files) → steps ≤ 4096 → All (HasFile list now) (written_over (single_steps steps)) → Covers steps now
covers list steps now small stand e k step built below = record {
  range = single_step step;
  from = omega arith;
  to = omega arith;
  name = step-named e k step built (omega (arith, below, small));
  there = ap is_some (from_written (HasFile list now) steps e k step built below stand);
}

-- ---- one more file

module _ (list : ChangeList) (names : List FileName) (name : FileName) (f g : Files) (due : All (IsDue list) names) (is : is_name name ≡ true) (has : HasExactly list names f) where
  module _ (bytes : List ℕ) (are : bytes ≡ file_bytes list name) (done : g ≡ insert (remove f (temporary_of name)) (spelled name) bytes) where
    at_name : get g (spelled name) ≡ Some (file_bytes list name)
    at_name = ap (λ (h : Files). get h (spelled name)) done ∙ inserted (remove f (temporary_of name)) (spelled name) bytes ∙ ap Some are

    elsewhere : (text : List ℕ) → text ≢ spelled name → text ≢ temporary_of name → get g text ≡ get f text
    elsewhere text a b =
        ap (λ (h : Files). get h text) done ∙ beside_insert (remove f (temporary_of name)) (spelled name) bytes text a ∙ beside_remove f (temporary_of name) text b

    -- a file of another name is as it was
    file_elsewhere : (other : FileName) → is_name other ≡ true → (spelled other ≡ spelled name → ⊥) → get g (spelled other) ≡ get f (spelled other)
    file_elsewhere other is_other differ = elsewhere (spelled other) differ (never_temporary other name)

    stands_still : (other : FileName) → is_name other ≡ true → HasFile list f other → HasFile list g other
    stands_still other is_other there =
        decided (spelled other) (spelled name)
        (λ same. subst (λ (n : FileName). HasFile list g n) (sym (spelled-injective other name is_other is same)) at_name)
        (λ differ. file_elsewhere other is_other differ ∙ there)

    -- the files that there were stand still
    pub stand_all : All (HasFile list g) names
    stand_all = λ k d below. stands_still _ (due k d below).0 (has.stand k d below)

    only_one_more : (other : FileName) → is_name other ≡ true → IfSome (get g (spelled other)) (λ _. Contains (names ++ name ∷ []) other)
    only_one_more other is_other =
        decided (spelled other) (spelled name)
        (λ same. if_some _ (get g (spelled other)) (λ _ _. subst (Contains (names ++ name ∷ [])) (sym (spelled-injective other name is_other is same)) (Contains-push names name)))
        (λ differ. if_some _ (get g (spelled other)) (λ b found.
        Contains-append_left names (name ∷ []) other (if_there (λ _. Contains names other) (get f (spelled other)) b (sym (file_elsewhere other is_other differ) ∙ found) (has.only other is_other))))

    no_temporary_there : (other : FileName) → is_name other ≡ true → get g (temporary_of other) ≡ None
    no_temporary_there other is_other =
        ap (λ (h : Files). get h (temporary_of other)) done
        ∙ beside_insert (remove f (temporary_of name)) (spelled name) bytes (temporary_of other) (λ same. never_temporary name other (sym same))
        ∙ decided (temporary_of other) (temporary_of name)
        (λ same. ap (get (remove f (temporary_of name))) same ∙ removed f (temporary_of name))
        (λ differ. beside_remove f (temporary_of name) (temporary_of other) differ ∙ has.no_temporary other is_other)

    -- the file was put there: there is one file more
    pub one_more : HasExactly list (names ++ name ∷ []) g
    one_more = record {
      stand = All-push (HasFile list g) names name stand_all at_name;
      only = only_one_more;
      no_temporary = no_temporary_there;
    }

  module _ (may : MayStand list name) (fresh : get f (spelled name) ≡ None) (same : SameElsewhere (temporary_of name) f g) where
    file_same : (other : FileName) → get g (spelled other) ≡ get f (spelled other)
    file_same other = same (spelled other) (never_temporary other name)

    -- only the temporary name was touched: the files are as before
    pub stand_still : All (HasFile list g) names
    stand_still = λ k d below. file_same _ ∙ has.stand k d below

    temporary_alone : (other : FileName) → is_name other ≡ true → IfSome (get g (temporary_of other)) (λ _. MayStand list other × (get g (spelled other) ≡ None))
    temporary_alone other is_other =
        decided (temporary_of other) (temporary_of name)
        (λ one. if_some _ (get g (temporary_of other)) (λ _ _.
        let named : other ≡ name = temporary-injective other name is_other is one in
        subst (λ (n : FileName). MayStand list n × (get g (spelled n) ≡ None)) (sym named) (may, file_same name ∙ fresh)))
        (λ differ. if_some _ (get g (temporary_of other)) (λ bytes found. absurd (none_some (sym (has.no_temporary other is_other) ∙ sym (same (temporary_of other) differ) ∙ found))))

    pub still_kept : KeepsNamed list g
    still_kept = record {
      named = λ other is_other. subst (λ o. IfSome o (λ bytes. (bytes ≡ file_bytes list other) × MayStand list other)) (sym (file_same other)) ((keeps list names f due has).named other is_other);
      temporary = temporary_alone;
    }

-- however a file was put there, names outside the grammar are as they were
pub outside_same : (name : FileName) (bytes : List ℕ) (f g : Files) → is_name name ≡ true → LeftBy (temporary_of name) (spelled name) bytes f g → AreOutsideSame f g
outside_same name bytes f g is (inl same) = λ text out. same text (out.no_temporary name is)
outside_same name bytes f g is (inr done) = λ text out.
    ap (λ (h : Files). get h text) done
    ∙ beside_insert (remove f (temporary_of name)) (spelled name) bytes text (out.no_file name is)
    ∙ beside_remove f (temporary_of name) text (out.no_temporary name is)

-- later changes leave a disk's files those of the list
pub exactly-later : (list : ChangeList) (batch : List Change) (names : List FileName) (f : Files) → All (λ d. list.next ≤ d.tx) batch → All (IsDue list) names → HasExactly list names f → HasExactly (grown list batch) names f
exactly-later list batch names f late due has = record {
  stand = λ k d below. has.stand k d below ∙ ap Some (sym (file_bytes-stays list batch _ late (due k d below).1));
  only = has.only;
  no_temporary = has.no_temporary;
}

-- ---- names outside the grammar, over more than one call

pub outside_left : (name : FileName) (bytes : List ℕ) (before after : Option Files) → is_name name ≡ true → IfSome before (λ f. IsSomeAnd after (LeftBy (temporary_of name) (spelled name) bytes f)) → IfNone before (after ≡ None) → SameOutside before after
outside_left name bytes None after is left silent = record { told = tt; silent = silent }
outside_left name bytes (Some f) None is left silent = absurd left
outside_left name bytes (Some f) (Some g) is left silent = record { told = outside_same name bytes f g is left; silent = tt }

pub outside-refl : (o : Option Files) → SameOutside o o
outside-refl None = record { told = tt; silent = refl }
outside-refl (Some f) = record { told = λ text out. refl; silent = tt }

pub outside-same : (a b : Option Files) → b ≡ a → SameOutside a b
outside-same a b same = subst (SameOutside a) (sym same) (outside-refl a)

pub outside-trans : (a b c : Option Files) → SameOutside a b → SameOutside b c → SameOutside a c
outside-trans None b c one two = record { told = tt; silent = silent_on (subst (λ o. SameOutside o c) one.silent two) }
  where
    silent_on : SameOutside None c → c ≡ None
    silent_on h = h.silent
outside-trans (Some f) None c one two = absurd one.told
outside-trans (Some f) (Some g) None one two = absurd two.told
outside-trans (Some f) (Some g) (Some h) one two = record { told = λ text out. two.told text out ∙ one.told text out; silent = tt }

-- a disk that tells goes on telling, and one that doesn't never does
pub outside-tells : (a b : Option Files) → SameOutside a b → is_some b ≡ is_some a
outside-tells None b same = ap is_some same.silent
outside-tells (Some f) None same = absurd same.told
outside-tells (Some f) (Some g) same = refl
