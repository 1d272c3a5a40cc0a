-- Files that are written one after the other: what is written behind what was written, and where it stops.
use Rattle.std.proofs.Common.{◌≡◌, inl, inr, ℕ, zero, suc, ◌+◌, ◌<◌, ◌≤◌, List, [], ◌∷◌, ◌++◌, map, take, drop, length, get_or, Option, Some, None, IfSome, IfNone, IsSomeAnd, refl, ap, subst, sym, ◌∙◌, append_assoc, arith}
use Rattle.std.specs.Prelude.{OnOk}
use Rattle.std.proofs.lemmas.List.{take_more, take-append-drop, map-append}
use Rattle.std.specs.FinMap.{get}
use Rattle.agg_outside.specs.Files.{Files}
use Rattle.agg_core.specs.Files.{temporary_of, LeftBy}
use Rattle.merge_ranges.specs.Name.{spelled}
use Rattle.std.specs.Option.{option_map_or}
use Rattle.agg_model.specs.declared.entity.FileKind.{FileKind}
use Rattle.merge_ranges.specs.declared.name.FileName.{FileName}
use Rattle.collate_step.specs.Groups.{GroupFiles}
use Rattle.group_files.specs.NewFiles.{NewFile, name_of, all_of, new_names, put, with_files, IsNotFirst, IsSame, IsStopped}

-- ---- what lists are made of

module _ {Z : Type 0} (piece : Z → List NewFile) where
  pub all-append : (xs ys : List Z) → all_of piece (xs ++ ys) ≡ all_of piece xs ++ all_of piece ys
  all-append [] ys = refl
  all-append (x ∷ xs) ys = ap (λ l. piece x ++ l) (all-append xs ys) ∙ sym (append_assoc (piece x) (all_of piece xs) (all_of piece ys))

  nothing_behind : (l : List NewFile) → l ++ [] ≡ l
  nothing_behind [] = refl
  nothing_behind (n ∷ ns) = ap (λ l. n ∷ l) (nothing_behind ns)

  -- one more is made
  pub all-push : (xs : List Z) (z : Z) → all_of piece (xs ++ z ∷ []) ≡ all_of piece xs ++ piece z
  all-push xs z = all-append xs (z ∷ []) ∙ ap (λ l. all_of piece xs ++ l) (nothing_behind (piece z))

  module _ (zs : List Z) (at : ℕ) (z : Z) (below : at < length zs) (is : z ≡ get_or zs at z) where
    pub taken : take (at + 1) zs ≡ take at zs ++ z ∷ []
    taken = take_more zs at z below ∙ ap (λ y. take at zs ++ y ∷ []) (sym is)

    pub all-next : all_of piece (take (at + 1) zs) ≡ all_of piece (take at zs) ++ piece z
    all-next = ap (all_of piece) taken ∙ all-push (take at zs) z

    -- those before one, those of this one, and those behind it
    pub all-parts : all_of piece zs ≡ all_of piece (take at zs) ++ (piece z ++ all_of piece (drop (at + 1) zs))
    all-parts =
        ap (all_of piece) (sym (take-append-drop (at + 1) zs))
        ∙ all-append (take (at + 1) zs) (drop (at + 1) zs)
        ∙ ap (λ l. l ++ all_of piece (drop (at + 1) zs)) all-next
        ∙ append_assoc (all_of piece (take at zs)) (piece z) (all_of piece (drop (at + 1) zs))

pub all-map : {Y Z : Type 0} (piece : Z → List NewFile) (value : Y → Z) (ys : List Y) → all_of piece (map value ys) ≡ all_of (λ y. piece (value y)) ys
all-map piece value [] = refl
all-map piece value (y ∷ ys) = ap (λ l. piece (value y) ++ l) (all-map piece value ys)

-- ---- written

pub with-append : (a b : List NewFile) (f : Files) → with_files (a ++ b) f ≡ with_files b (with_files a f)
with-append [] b f = refl
with-append (n ∷ ns) b f = with-append ns b (put n f)

-- what comes behind was written too
pub joined : (a b all : List NewFile) (before mid after : Option Files) → all ≡ a ++ b → IfSome before (λ f. mid ≡ Some (with_files a f)) → IfSome mid (λ f. after ≡ Some (with_files b f)) → IfSome before (λ f. after ≡ Some (with_files all f))
joined a b all None mid after are one two = tt
joined a b all (Some f) mid after are one two =
    let P : Option Files → Type 0 = λ o. IfSome o (λ g. after ≡ Some (with_files b g)) in
    subst P one two ∙ ap Some (sym (with-append a b f) ∙ ap (λ l. with_files l f) (sym are))

pub nothing_written : (before : Option Files) → IfSome before (λ f. before ≡ Some (with_files [] f))
nothing_written None = tt
nothing_written (Some f) = refl

-- ---- stopped

pub untouched : (new : List NewFile) (f : Files) → IsStopped new f f
untouched new f = record { done = []; rest = new; parts = refl; left = λ text other. refl }

nothing_behind_files : (l : List NewFile) → l ≡ l ++ []
nothing_behind_files [] = refl
nothing_behind_files (n ∷ ns) = ap (λ l. n ∷ l) (nothing_behind_files ns)

pub finished : (new : List NewFile) (f : Files) → IsStopped new f (with_files new f)
finished new f = record { done = new; rest = []; parts = nothing_behind_files new; left = λ text other. refl }

-- one file
pub stopped_one : (n : NewFile) (f g : Files) → LeftBy (temporary_of n.name) (spelled n.name) n.bytes f g → IsStopped (n ∷ []) f g
stopped_one n f g (inl same) = record { done = []; rest = n ∷ []; parts = refl; left = same }
stopped_one n f g (inr done) = record { done = n ∷ []; rest = []; parts = refl; left = λ text other. ap (λ (h : Files). get h text) done }

-- a name that isn't the first of these is not the first of the front of them
first_of_front : (a b : List NewFile) (text : List ℕ) → IsNotFirst (a ++ b) text → IsNotFirst a text
first_of_front [] b text other = tt
first_of_front (n ∷ ns) b text other = other

-- stopped among those behind what was written
stopped_behind : (a b c all : List NewFile) (f g : Files) → all ≡ a ++ (b ++ c) → IsStopped b (with_files a f) g → IsStopped all f g
stopped_behind a b c all f g are stopped = record {
  done = a ++ stopped.done;
  rest = stopped.rest ++ c;
  parts = are ∙ ap (λ l. a ++ (l ++ c)) stopped.parts ∙ ap (λ l. a ++ l) (append_assoc stopped.done stopped.rest c) ∙ sym (append_assoc a stopped.done (stopped.rest ++ c));
  left = λ text other. stopped.left text (first_of_front stopped.rest c text other) ∙ ap (λ (h : Files). get h text) (sym (with-append a stopped.done f));
}

pub stopped_later : (a b c all : List NewFile) (before mid after : Option Files) → all ≡ a ++ (b ++ c) → IfSome before (λ f. mid ≡ Some (with_files a f)) → IfSome mid (λ f. IsSomeAnd after (IsStopped b f)) → IfSome before (λ f. IsSomeAnd after (IsStopped all f))
stopped_later a b c all None mid after are one two = tt
stopped_later a b c all (Some f) mid None are one two =
    let P : Option Files → Type 0 = λ o. IfSome o (λ h. IsSomeAnd None (IsStopped b h)) in
    absurd (subst P one two)
stopped_later a b c all (Some f) mid (Some g) are one two =
    let P : Option Files → Type 0 = λ o. IfSome o (λ h. IsSomeAnd (Some g) (IsStopped b h)) in
    stopped_behind a b c all f g are (subst P one two)

pub all_finished : (new : List NewFile) (before after : Option Files) → IfSome before (λ f. after ≡ Some (with_files new f)) → IfSome before (λ f. IsSomeAnd after (IsStopped new f))
all_finished new None after done = tt
all_finished new (Some f) after done = subst (λ (o : Option Files). IsSomeAnd o (IsStopped new f)) (sym done) (finished new f)

-- one file, as it is left
pub left_one : (n : NewFile) (before after : Option Files) → IfSome before (λ f. IsSomeAnd after (LeftBy (temporary_of n.name) (spelled n.name) n.bytes f)) → IfSome before (λ f. IsSomeAnd after (IsStopped (n ∷ []) f))
left_one n None after left = tt
left_one n (Some f) None left = left
left_one n (Some f) (Some g) left = stopped_one n f g left

-- ---- names

pub names_next : {Z : Type 0} (piece : Z → List NewFile) (zs : List Z) (at : ℕ) (z : Z) (first mid after : List (List ℕ)) → at < length zs → z ≡ get_or zs at z
    → mid ≡ first ++ map spelled (new_names (all_of piece (take at zs))) → after ≡ mid ++ map spelled (new_names (piece z)) → after ≡ first ++ map spelled (new_names (all_of piece (take (at + 1) zs)))
names_next piece zs at z first mid after below is before more =
    let done = all_of piece (take at zs) in
    more
    ∙ ap (λ l. l ++ map spelled (new_names (piece z))) before
    ∙ append_assoc first (map spelled (new_names done)) (map spelled (new_names (piece z)))
    ∙ ap (λ l. first ++ l) (sym (ap (map spelled) (map-append (λ n. n.name) done (piece z)) ∙ map-append spelled (new_names done) (new_names (piece z))))
    ∙ ap (λ l. first ++ map spelled (new_names l)) (sym (all-next piece zs at z below is))

-- ---- as calls tell them

pub none_is : (o : Option Files) → IfNone o (o ≡ None)
none_is None = refl
none_is (Some f) = tt

pub take_whole : {Z : Type 0} (zs : List Z) (n : ℕ) → length zs ≤ n → take n zs ≡ zs
take_whole [] zero over = refl
take_whole [] (suc n) over = refl
take_whole (z ∷ zs) zero over = absurd (omega (arith, over))
take_whole (z ∷ zs) (suc n) over = ap (λ l. z ∷ l) (take_whole zs n (omega (arith, over)))

-- the file of a kind that the entity has
pub left_kind : (g : GroupFiles) (k : FileKind) (name : FileName) (bytes : List ℕ) (o : Option (List ℕ)) (before after : Option Files) → Some bytes ≡ o → name ≡ name_of g k
    → IfSome before (λ f. IsSomeAnd after (LeftBy (temporary_of name) (spelled name) bytes f))
    → IfSome before (λ f. IsSomeAnd after (IsStopped (option_map_or (λ b. record { name = name_of g k; bytes = b } ∷ []) o []) f))
left_kind g k name bytes o before after is named left =
    let P : Option (List ℕ) → Type 0 = λ p. IfSome before (λ f. IsSomeAnd after (IsStopped (option_map_or (λ b. record { name = name_of g k; bytes = b } ∷ []) p []) f)) in
    let Q : FileName → Type 0 = λ n. IfSome before (λ f. IsSomeAnd after (LeftBy (temporary_of n) (spelled n) bytes f)) in
    subst P is (left_one (record { name = name_of g k; bytes = bytes }) before after (subst Q named left))
