-- What a disk holds of files that were written one after the other, name by name.
use Rattle.std.proofs.Common.{◌≡◌, ◌≢◌, ℕ, get_or, List, [], ◌∷◌, ◌++◌, drop, All, AllPairs, Option, Some, None, IfSome, IsSomeAnd, refl, ap, subst, sym, ◌∙◌, arith}
use Rattle.std.specs.Prelude.{codes, Result, Ok, Err, OnOk, OnErr}
use Rattle.std.specs.FinMap.{get, insert, remove}
use Rattle.std.proofs.lemmas.List.{append_cancel_right}
use Rattle.std.proofs.lemmas.List.Elements.{All-nil, All-cons, All-head, All-tail, All-append}
use Rattle.std.proofs.lemmas.List.Kept.{AllPairs-cons}
use Rattle.agg_outside.specs.Files.{Files}
use Rattle.merge_ranges.specs.declared.name.FileName.{FileName}
use Rattle.merge_ranges.specs.Name.{spelled, spelled_on_disk}
use Rattle.merge_ranges.proofs.NameOrder.{pairs_head, pairs_tail}
use Rattle.agg_core.specs.Files.{temporary_of}
use Rattle.agg_core.proofs.Kept.{never_temporary}
use Rattle.agg_core.proofs.OneName.{decided, inserted, beside_insert, removed, beside_remove}
use Rattle.group_files.specs.NewFiles.{NewFile, put, with_files, AreApart, HasBytes, HasNoTemporary, IsOtherThan, IsOther, IsSame, IsNotFirst, IsStopped, ArePublished, ArePartlyPublished}

-- ---- names

one_temporary : (a b : FileName) → temporary_of a ≡ temporary_of b → spelled a ≡ spelled b
unfolding spelled_on_disk
one_temporary a b same = append_cancel_right (spelled a) (spelled b) (codes ".tmp") same

abbrev IsApart : NewFile → NewFile → Type 0
IsApart a b = spelled a.name ≢ spelled b.name

-- ---- written, name by name

put-other : (n : NewFile) (f : Files) (text : List ℕ) → IsOtherThan text n → get (put n f) text ≡ get f text
put-other n f text other =
    beside_insert (remove f (temporary_of n.name)) (spelled n.name) n.bytes text other.0 ∙ beside_remove f (temporary_of n.name) text other.1

with-other : (ns : List NewFile) (f : Files) (text : List ℕ) → IsOther ns text → get (with_files ns f) text ≡ get f text
with-other [] f text other = refl
with-other (n ∷ ns) f text other =
    with-other ns (put n f) text (All-tail (IsOtherThan text) n ns other) ∙ put-other n f text (All-head (IsOtherThan text) n ns other)

-- a file's name is other than those that are apart from it
other_names : (n : NewFile) (ns : List NewFile) → All (IsApart n) ns → IsOther ns (spelled n.name)
other_names n ns apart = λ k d below. (apart k d below, never_temporary n.name _)

with-whole : (ns : List NewFile) (f : Files) → AreApart ns → All (HasBytes (with_files ns f)) ns
with-whole [] f apart = All-nil (HasBytes f)
with-whole (n ∷ ns) f apart =
    All-cons (HasBytes (with_files ns (put n f))) n ns
    (with-other ns (put n f) (spelled n.name) (other_names n ns (pairs_head IsApart n ns apart)) ∙ inserted (remove f (temporary_of n.name)) (spelled n.name) n.bytes)
    (with-whole ns (put n f) (pairs_tail IsApart n ns apart))

-- a temporary name that isn't there doesn't come by files that are whole
put-clear : (m : NewFile) (name : FileName) (f : Files) → get f (temporary_of name) ≡ None → get (put m f) (temporary_of name) ≡ None
put-clear m name f none =
    beside_insert (remove f (temporary_of m.name)) (spelled m.name) m.bytes (temporary_of name) (λ same. never_temporary m.name name (sym same))
    ∙ decided (temporary_of name) (temporary_of m.name)
    (λ same. ap (get (remove f (temporary_of m.name))) same ∙ removed f (temporary_of m.name))
    (λ differ. beside_remove f (temporary_of m.name) (temporary_of name) differ ∙ none)

put-cleared : (n : NewFile) (f : Files) → get (put n f) (temporary_of n.name) ≡ None
put-cleared n f =
    beside_insert (remove f (temporary_of n.name)) (spelled n.name) n.bytes (temporary_of n.name) (λ same. never_temporary n.name n.name (sym same)) ∙ removed f (temporary_of n.name)

with-clear : (ns : List NewFile) (name : FileName) (f : Files) → get f (temporary_of name) ≡ None → get (with_files ns f) (temporary_of name) ≡ None
with-clear [] name f none = none
with-clear (m ∷ ms) name f none = with-clear ms name (put m f) (put-clear m name f none)

with-cleared : (ns : List NewFile) (f : Files) → All (HasNoTemporary (with_files ns f)) ns
with-cleared [] f = All-nil (HasNoTemporary f)
with-cleared (n ∷ ns) f =
    All-cons (HasNoTemporary (with_files ns (put n f))) n ns
    (with-clear ns n.name (put n f) (put-cleared n f))
    (with-cleared ns (put n f))

are_published : (new : List NewFile) (f : Files) → ArePublished new f (with_files new f)
are_published new f = record {
  whole = with-whole new f;
  cleared = with-cleared new f;
  others = with-other new f;
}

-- ---- stopped, name by name

module _ {X : Type 0} (P : X → Type 0) where
  front : (xs ys : List X) → All P (xs ++ ys) → All P xs
  front [] ys all = All-nil P
  front (x ∷ xs) ys all = All-cons P x xs (All-head P x (xs ++ ys) all) (front xs ys (All-tail P x (xs ++ ys) all))

  back : (xs ys : List X) → All P (xs ++ ys) → All P ys
  back [] ys all = all
  back (x ∷ xs) ys all = back xs ys (All-tail P x (xs ++ ys) all)

front_apart : (a b : List NewFile) → AreApart (a ++ b) → AreApart a
front_apart [] b apart = λ i j d below at. absurd (omega arith)
front_apart (n ∷ ns) b apart =
    AllPairs-cons IsApart n ns (front (IsApart n) ns b (pairs_head IsApart n (ns ++ b) apart)) (front_apart ns b (pairs_tail IsApart n (ns ++ b) apart))

back_apart : (a b : List NewFile) → AreApart (a ++ b) → AreApart b
back_apart [] b apart = apart
back_apart (n ∷ ns) b apart = back_apart ns b (pairs_tail IsApart n (ns ++ b) apart)

-- those of the back are apart from those of the front
across : (a b : List NewFile) → AreApart (a ++ b) → All (λ m. All (λ d. spelled m.name ≢ spelled d.name) a) b
across [] b apart = λ k d below. All-nil (λ (e : NewFile). spelled (get_or b k d).name ≢ spelled e.name)
across (n ∷ ns) b apart =
    let first = back (IsApart n) ns b (pairs_head IsApart n (ns ++ b) apart) in
    let rest = across ns b (pairs_tail IsApart n (ns ++ b) apart) in
    λ k d below. All-cons (λ (e : NewFile). spelled (get_or b k d).name ≢ spelled e.name) n ns (λ same. first k d below (sym same)) (rest k d below)

-- a name is never the temporary one of another
not_first : (rest : List NewFile) (name : FileName) → IsNotFirst rest (spelled name)
not_first [] name = tt
not_first (n ∷ ns) name = never_temporary name n.name

temporary_not_first : (rest : List NewFile) (n : NewFile) → All (IsApart n) rest → IsNotFirst rest (temporary_of n.name)
temporary_not_first [] n apart = tt
temporary_not_first (m ∷ ms) n apart = λ same. All-head (IsApart n) m ms apart (one_temporary n.name m.name same)

other_not_first : (rest : List NewFile) (text : List ℕ) → IsOther rest text → IsNotFirst rest text
other_not_first [] text other = tt
other_not_first (n ∷ ns) text other = (All-head (IsOtherThan text) n ns other).1

-- temporary names too
other_temporary : (m : NewFile) (ds : List NewFile) → All (λ d. spelled m.name ≢ spelled d.name) ds → IsOther ds (temporary_of m.name)
other_temporary m ds apart = λ k d below. ((λ same. never_temporary _ m.name (sym same)), λ same. apart k d below (one_temporary m.name _ same))

across_front : (a b : List NewFile) → AreApart (a ++ b) → All (λ d. All (IsApart d) b) a
across_front [] b apart = All-nil (λ d. All (IsApart d) b)
across_front (n ∷ ns) b apart =
    All-cons (λ d. All (IsApart d) b) n ns (back (IsApart n) ns b (pairs_head IsApart n (ns ++ b) apart)) (across_front ns b (pairs_tail IsApart n (ns ++ b) apart))

module _ (f g : Files) (done rest : List NewFile) (left : (text : List ℕ) → IsNotFirst rest text → IsSame (with_files done f) g text) where
  stopped_whole : AreApart (done ++ rest) → All (HasBytes g) done
  stopped_whole apart = λ k d below. left _ (not_first rest _) ∙ with-whole done f (front_apart done rest apart) k d below

  stopped_cleared : AreApart (done ++ rest) → All (HasNoTemporary g) done
  stopped_cleared apart = λ k d below.
      left _ (temporary_not_first rest (get_or done k d) (across_front done rest apart k d below)) ∙ with-cleared done f k d below

  stopped_untouched : AreApart (done ++ rest) → All (λ n. IsSame f g (spelled n.name)) rest
  stopped_untouched apart = λ k d below.
      left _ (not_first rest _) ∙ with-other done f (spelled (get_or rest k d).name) (other_names (get_or rest k d) done (across done rest apart k d below))

  stopped_others : (text : List ℕ) → IsOther (done ++ rest) text → IsSame f g text
  stopped_others text other =
      left text (other_not_first rest text (back (IsOtherThan text) done rest other)) ∙ with-other done f text (front (IsOtherThan text) done rest other)

stopped_waiting : (f g : Files) (done rest : List NewFile) → ((text : List ℕ) → IsNotFirst rest text → IsSame (with_files done f) g text)
    → AreApart (done ++ rest) → All (λ n. IsSame f g (temporary_of n.name)) (drop 1 rest)
stopped_waiting f g done [] left apart = All-nil (λ n. IsSame f g (temporary_of n.name))
stopped_waiting f g done (n ∷ ns) left apart =
    let first = pairs_head IsApart n ns (back_apart done (n ∷ ns) apart) in
    let before = All-tail (λ m. All (λ d. spelled m.name ≢ spelled d.name) done) n ns (across done (n ∷ ns) apart) in
    λ k d below.
    left _ (λ same. first k d below (sym (one_temporary _ n.name same))) ∙ with-other done f (temporary_of (get_or ns k d).name) (other_temporary (get_or ns k d) done (before k d below))

partly : (new : List NewFile) (f g : Files) → IsStopped new f g → ArePartlyPublished new f g
partly new f g stopped =
    let P : List NewFile → Type 0 = λ l. AreApart l in
    record {
      done = stopped.done;
      rest = stopped.rest;
      parts = stopped.parts;
      whole = λ apart. stopped_whole f g stopped.done stopped.rest stopped.left (subst P stopped.parts apart);
      cleared = λ apart. stopped_cleared f g stopped.done stopped.rest stopped.left (subst P stopped.parts apart);
      untouched = λ apart. stopped_untouched f g stopped.done stopped.rest stopped.left (subst P stopped.parts apart);
      waiting = λ apart. stopped_waiting f g stopped.done stopped.rest stopped.left (subst P stopped.parts apart);
      others = λ text other. stopped_others f g stopped.done stopped.rest stopped.left text (subst (λ l. IsOther l text) stopped.parts other);
    }

-- ---- as a call tells it

pub published_ok : {E : Type 0} (new : List NewFile) (before after : Option Files) (result : Result Unit E)
    → IfSome before (λ f. OnOk result (after ≡ Some (with_files new f))) → IfSome before (λ f. OnOk result (IsSomeAnd after (ArePublished new f)))
published_ok new None after result done = tt
published_ok new (Some f) after (Ok u) done = subst (λ (o : Option Files). IsSomeAnd o (ArePublished new f)) (sym done) (are_published new f)
published_ok new (Some f) after (Err e) done = tt

pub published_err : {E : Type 0} (new : List NewFile) (before after : Option Files) (result : Result Unit E)
    → IfSome before (λ f. IsSomeAnd after (IsStopped new f)) → IfSome before (λ f. OnErr result (IsSomeAnd after (ArePartlyPublished new f)))
published_err new None after result left = tt
published_err new (Some f) after (Ok u) left = tt
published_err new (Some f) None (Err e) left = left
published_err new (Some f) (Some g) (Err e) left = partly new f g left
