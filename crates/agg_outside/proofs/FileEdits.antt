-- What a change of one file in the list does to the map.
use Rattle.std.proofs.Common.{◌≡◌, ◌≢◌, ℕ, zero, suc, ◌<◌, ◌≤◌, Bool, true, false, cond, List, [], ◌∷◌, ◌++◌, length, map, take, drop, get_or, set, insert, remove, Option, Some, None, refl, sym, ap, ◌∙◌, arith, drop-cons}
use Rattle.std.proofs.lemmas.List.{take-append-drop, set_split, nil_from_length}
use Rattle.std.specs.declared.cmp.Ordering.TheVariants.{Less}
use Rattle.std.specs.Ordering.{nat_cmp, is_eq}
use Rattle.std.specs.Cmp.{tied_itself}
use Rattle.std.specs.Cmp.Lexicographic.{slice_cmp, nat_list_cmp_total}
use Rattle.std.specs.FinMap as finite
use Rattle.std.specs.FinMap.{find, entries, get, get-from_entries, get-insert, get-remove, same_map}
use Rattle.std.specs.FinMap.{entries-insert}
use Rattle.std.specs.FinMap.Entries.{put}
use Rattle.agg_outside.specs.declared.file_map.FileEntry.{FileEntry}
use Rattle.agg_outside.specs.Files.{Files}
use Rattle.agg_outside.specs.FilePlaces.{all_below, all_above, IsNamedAt, IsGapFor}
use Rattle.agg_outside.specs.FileList.{is_below, names_ascend_after, names_ascend, files_of}
use Rattle.agg_outside.proofs.FileOrder.{both_true, both_are, same_name, one_name, lt_is, eq_is, pairs, find-between, find-neither, names_after-below, names-after}

shadowed : {A : Type 0} (b : Bool) (x y z : A) → cond b x (cond b y z) ≡ cond b x z
shadowed true x y z = refl
shadowed false x y z = refl

name_itself : (name : List ℕ) → same_name name name ≡ true
name_itself name = ap is_eq (tied_itself nat_list_cmp_total name)

name_is : (a b : List ℕ) → same_name a b ≡ true → a ≡ b
name_is a b h = one_name a b (eq_is (slice_cmp nat_cmp a b) h)

pub file_split : (files : List FileEntry) (place : ℕ) (d : FileEntry) → place < length files → files ≡ take place files ++ get_or files place d ∷ drop (suc place) files
file_split files place d h = sym (take-append-drop place files) ∙ ap (λ (l : List FileEntry). take place files ++ l) (drop-cons files place d h)

-- what the map has at a name, by the place of its file
find-named : (name q : List ℕ) (files : List FileEntry) (place : ℕ) (d : FileEntry) → IsNamedAt name files place → find (slice_cmp nat_cmp) q (pairs files) ≡ cond (same_name q name) (Some (get_or files place d).bytes) (find (slice_cmp nat_cmp) q (pairs (remove files place)))
find-named name q files place d at =
    ap (λ (l : List FileEntry). find (slice_cmp nat_cmp) q (pairs l)) (file_split files place d at.within)
    ∙ find-between name q (get_or files place d) (take place files) (drop (suc place) files) (at.named d) at.below

pub get-named : (name : List ℕ) (files : List FileEntry) (place : ℕ) (d : FileEntry) → IsNamedAt name files place → get (files_of files) name ≡ Some (get_or files place d).bytes
get-named name files place d at =
    get-from_entries nat_list_cmp_total (pairs files) name ∙ find-named name name files place d at
    ∙ ap (λ (b : Bool). cond b (Some (get_or files place d).bytes) (find (slice_cmp nat_cmp) name (pairs (remove files place)))) (name_itself name)

pub get-gap : (name : List ℕ) (files : List FileEntry) (place : ℕ) → IsGapFor name files place → get (files_of files) name ≡ None
get-gap name files place gap =
    get-from_entries nat_list_cmp_total (pairs files) name
    ∙ ap (λ (l : List FileEntry). find (slice_cmp nat_cmp) name (pairs l)) (sym (take-append-drop place files))
    ∙ find-neither name (take place files) (drop place files) gap.below gap.above

pub files_of-insert : (files : List FileEntry) (place : ℕ) (new : FileEntry) → IsGapFor new.name files place → files_of (insert files place new) ≡ finite.insert (files_of files) new.name new.bytes
files_of-insert files place new gap =
    same_map nat_list_cmp_total one_name _ _ (λ q.
    get-from_entries nat_list_cmp_total (pairs (insert files place new)) q
    ∙ find-between new.name q new (take place files) (drop place files) refl gap.below
    ∙ ap (λ (l : List FileEntry). cond (same_name q new.name) (Some new.bytes) (find (slice_cmp nat_cmp) q (pairs l))) (take-append-drop place files)
    ∙ sym (get-insert nat_list_cmp_total (files_of files) new.name new.bytes q
    ∙ ap (λ (o : Option (List ℕ)). cond (same_name q new.name) (Some new.bytes) o) (get-from_entries nat_list_cmp_total (pairs files) q)))

pub files_of-set : (name bytes : List ℕ) (files : List FileEntry) (place : ℕ) (d : FileEntry) → IsNamedAt name files place → files_of (set files place (record (get_or files place d) { bytes = bytes })) ≡ finite.insert (files_of files) name bytes
files_of-set name bytes files place d at =
    same_map nat_list_cmp_total one_name _ _ (λ q.
    let new : FileEntry = record (get_or files place d) { bytes = bytes } in
    get-from_entries nat_list_cmp_total (pairs (set files place new)) q
    ∙ ap (λ (l : List FileEntry). find (slice_cmp nat_cmp) q (pairs l)) (set_split files place new at.within)
    ∙ find-between name q new (take place files) (drop (suc place) files) (at.named d) at.below
    ∙ sym (get-insert nat_list_cmp_total (files_of files) name bytes q
    ∙ ap (λ (o : Option (List ℕ)). cond (same_name q name) (Some bytes) o) (get-from_entries nat_list_cmp_total (pairs files) q ∙ find-named name q files place d at)
    ∙ shadowed (same_name q name) _ _ _))

removed_at : (name q : List ℕ) (files : List FileEntry) (place : ℕ) (b : Bool) → same_name q name ≡ b → IsNamedAt name files place → find (slice_cmp nat_cmp) q (pairs (remove files place)) ≡ cond b None (find (slice_cmp nat_cmp) q (pairs (remove files place)))
removed_at name q files place false e at = refl
removed_at name q files place true e at =
    ap (λ (w : List ℕ). find (slice_cmp nat_cmp) w (pairs (remove files place))) (name_is q name e)
    ∙ find-neither name (take place files) (drop (suc place) files) at.below at.above

pub files_of-remove : (name : List ℕ) (files : List FileEntry) (place : ℕ) (d : FileEntry) → IsNamedAt name files place → files_of (remove files place) ≡ finite.remove (files_of files) name
files_of-remove name files place d at =
    same_map nat_list_cmp_total one_name _ _ (λ q.
    get-from_entries nat_list_cmp_total (pairs (remove files place)) q
    ∙ removed_at name q files place (same_name q name) refl at
    ∙ sym (get-remove nat_list_cmp_total (files_of files) name q
    ∙ ap (λ (o : Option (List ℕ)). cond (same_name q name) None o) (get-from_entries nat_list_cmp_total (pairs files) q ∙ find-named name q files place d at)
    ∙ shadowed (same_name q name) _ _ _))

absent_at : (name q : List ℕ) (files : List FileEntry) (b : Bool) → same_name q name ≡ b → get (files_of files) name ≡ None → cond b None (get (files_of files) q) ≡ get (files_of files) q
absent_at name q files false e none = refl
absent_at name q files true e none = sym (ap (λ (w : List ℕ). get (files_of files) w) (name_is q name e) ∙ none)

-- to remove a name that is absent changes nothing
pub files_of-remove_absent : (name : List ℕ) (files : List FileEntry) (place : ℕ) → IsGapFor name files place → files_of files ≡ finite.remove (files_of files) name
files_of-remove_absent name files place gap =
    same_map nat_list_cmp_total one_name _ _ (λ q.
    sym (get-remove nat_list_cmp_total (files_of files) name q ∙ absent_at name q files (same_name q name) refl (get-gap name files place gap)))

-- ---- the names stay in order

insert-names_after : (low : List ℕ) (files : List FileEntry) (place : ℕ) (new : FileEntry) → is_below low new.name ≡ true → names_ascend_after low files ≡ true → IsGapFor new.name files place → names_ascend_after low (insert files place new) ≡ true
insert-names_after low [] zero new h s gap = both_are _ _ h refl
insert-names_after low [] (suc place) new h s gap = both_are _ _ h refl
insert-names_after low (file ∷ files) zero new h s gap =
    let first = (both_true (is_below new.name file.name) (all_above new.name files) gap.above).0 in
    both_are _ _ h (both_are _ _ first (both_true _ _ s).1)
insert-names_after low (file ∷ files) (suc place) new h s gap =
    let parts = both_true (is_below low file.name) (names_ascend_after file.name files) s in
    let below = both_true (is_below file.name new.name) (all_below new.name (take place files)) gap.below in
    let within : place ≤ length files = let w = gap.within in omega arith in
    both_are _ _ parts.0 (insert-names_after file.name files place new below.0 parts.1 (record { within = within; below = below.1; above = gap.above }))

pub insert-names : (files : List FileEntry) (place : ℕ) (new : FileEntry) → names_ascend files ≡ true → IsGapFor new.name files place → names_ascend (insert files place new) ≡ true
insert-names [] zero new s gap = refl
insert-names [] (suc place) new s gap = refl
insert-names (file ∷ files) zero new s gap =
    let first = (both_true (is_below new.name file.name) (all_above new.name files) gap.above).0 in
    both_are _ _ first s
insert-names (file ∷ files) (suc place) new s gap =
    let below = both_true (is_below file.name new.name) (all_below new.name (take place files)) gap.below in
    let within : place ≤ length files = let w = gap.within in omega arith in
    insert-names_after file.name files place new below.0 s (record { within = within; below = below.1; above = gap.above })

set-names_after : (low : List ℕ) (files : List FileEntry) (place : ℕ) (d : FileEntry) (bytes : List ℕ) → names_ascend_after low files ≡ true → names_ascend_after low (set files place (record (get_or files place d) { bytes = bytes })) ≡ true
set-names_after low [] place d bytes s = refl
set-names_after low (file ∷ files) zero d bytes s = s
set-names_after low (file ∷ files) (suc place) d bytes s =
    let parts = both_true (is_below low file.name) (names_ascend_after file.name files) s in
    both_are _ _ parts.0 (set-names_after file.name files place d bytes parts.1)

pub set-names : (files : List FileEntry) (place : ℕ) (d : FileEntry) (bytes : List ℕ) → names_ascend files ≡ true → names_ascend (set files place (record (get_or files place d) { bytes = bytes })) ≡ true
set-names [] place d bytes s = refl
set-names (file ∷ files) zero d bytes s = s
set-names (file ∷ files) (suc place) d bytes s = set-names_after file.name files place d bytes s

remove-names_after : (low : List ℕ) (files : List FileEntry) (place : ℕ) → names_ascend_after low files ≡ true → names_ascend_after low (remove files place) ≡ true
remove-names_after low [] zero s = refl
remove-names_after low [] (suc place) s = refl
remove-names_after low (file ∷ files) zero s =
    let parts = both_true (is_below low file.name) (names_ascend_after file.name files) s in
    names_after-below low file.name files parts.0 parts.1
remove-names_after low (file ∷ files) (suc place) s =
    let parts = both_true (is_below low file.name) (names_ascend_after file.name files) s in
    both_are _ _ parts.0 (remove-names_after file.name files place parts.1)

pub remove-names : (files : List FileEntry) (place : ℕ) → names_ascend files ≡ true → names_ascend (remove files place) ≡ true
remove-names [] zero s = refl
remove-names [] (suc place) s = refl
remove-names (file ∷ files) zero s = names-after file.name files s
remove-names (file ∷ files) (suc place) s = remove-names_after file.name files place s

-- ---- the map's entries are the list's

put_first : (file : FileEntry) (files : List FileEntry) → names_ascend_after file.name files ≡ true → put (slice_cmp nat_cmp) file.name file.bytes (pairs files) ≡ pairs (file ∷ files)
put_first file [] s = refl
put_first file (next ∷ files) s =
    let less : slice_cmp nat_cmp file.name next.name ≡ Less = lt_is (slice_cmp nat_cmp file.name next.name) (both_true (is_below file.name next.name) (names_ascend_after next.name files) s).0 in
    rw less refl

pub entries-files_of : (files : List FileEntry) → names_ascend files ≡ true → entries (files_of files) ≡ pairs files
entries-files_of [] s =
    nil_from_length (entries (files_of [])) (sym (finite.len-entries (files_of [])) ∙ finite.len-empty (slice_cmp nat_cmp) (List ℕ))
entries-files_of (file ∷ files) s =
    entries-insert nat_list_cmp_total (files_of files) file.name file.bytes
    ∙ ap (λ (l : List (List ℕ × List ℕ)). put (slice_cmp nat_cmp) file.name file.bytes l) (entries-files_of files (names-after file.name files s))
    ∙ put_first file files s

map_names : (files : List FileEntry) → map (λ (e : List ℕ × List ℕ). e.0) (pairs files) ≡ map (λ (file : FileEntry). file.name) files
map_names [] = refl
map_names (file ∷ files) = ap (λ (l : List (List ℕ)). file.name ∷ l) (map_names files)

pub keys-files_of : (files : List FileEntry) → names_ascend files ≡ true → finite.keys (files_of files) ≡ map (λ (file : FileEntry). file.name) files
keys-files_of files s = ap (λ (l : List (List ℕ × List ℕ)). map (λ (e : List ℕ × List ℕ). e.0) l) (entries-files_of files s) ∙ map_names files

elsewhere : {A : Type 0} (b : Bool) (x y : A) → (b ≡ true → ⊥) → cond b x y ≡ y
elsewhere true x y h = absurd (h refl)
elsewhere false x y h = refl

-- a file that is put changes no other
pub get-insert_elsewhere : (files : Files) (name bytes other : List ℕ) → other ≢ name → get (finite.insert files name bytes) other ≡ get files other
get-insert_elsewhere files name bytes other apart =
    get-insert nat_list_cmp_total files name bytes other ∙ elsewhere (same_name other name) _ _ (λ same. apart (name_is other name same))
