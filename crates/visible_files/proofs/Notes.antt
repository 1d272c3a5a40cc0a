-- Names that are noted: what is answered is one of them, and none is left out.
use Rattle.std.proofs.Common.{◌≡◌, ℕ, zero, suc, Bool, true, false, cond, not, ◌&&◌, ◌||◌, ◌==◌, nat_lt, List, [], ◌∷◌, Option, Some, None, IfSome, IfNone, IsTrue, find, refl, sym, ◌∙◌, ap, subst, arith}
use Rattle.std.proofs.lemmas.Bool.{false≢true, lt-ltb}
use Rattle.std.specs.List.{list_any}
use Rattle.merge_ranges.specs.declared.name.FileName.{FileName}
use Rattle.merge_ranges.specs.declared.name.DiskName.{DiskName}
use Rattle.visible_files.specs.declared.ids.GroupId.{GroupId}
use Rattle.visible_files.specs.declared.held.HeldGroup.{HeldGroup}
use Rattle.visible_files.specs.Held.{count_of, is_named, same_file, is_retired, retired_names, first_unpinned}
use Rattle.visible_files.specs.Strays.{same_disk_name, is_stray}
use Rattle.visible_files.specs.Sets.{is_seen, is_loose, is_noted, or_stray, first_to_drop}
use Rattle.visible_files.proofs.Equalities.{or-true}
use Rattle.visible_files.proofs.StrayNames.{same_file-itself, same_disk_name-itself, same_disk_name-true}
use Rattle.visible_files.proofs.Drops.{retired-pinned}

module _ {X : Type 0} (p : X → Bool) (same : X → X → Bool) where
  found-in : ((x : X) → same x x ≡ true) → (xs : List X) (x : X) → find p xs ≡ Some x → list_any (λ y. same y x) xs ≡ true
  found-in itself [] x e = cc
  found-in itself (y ∷ ys) x e = by (p y) e (found-in itself ys x)
    where
      by : (t : Bool) → cond t (Some y) (find p ys) ≡ Some x → (find p ys ≡ Some x → list_any (λ z. same z x) ys ≡ true) → (same y x || list_any (λ z. same z x) ys) ≡ true
      by true e rest = let is : y ≡ x = cc in ap (λ b. b || list_any (λ z. same z x) ys) (ap (λ z. same z x) is ∙ itself x)
      by false e rest = ap (λ b. same y x || b) (rest e) ∙ or-true (same y x)

  none-in : ((x y : X) → same x y ≡ true → x ≡ y) → (xs : List X) (x : X) → find p xs ≡ None → list_any (λ y. same y x) xs ≡ true → p x ≡ false
  none-in equal [] x e any = absurd (false≢true any)
  none-in equal (y ∷ ys) x e any = by (p y) (same y x) refl refl e (none-in equal ys x) any
    where
      by : (t s : Bool) → p y ≡ t → same y x ≡ s → cond t (Some y) (find p ys) ≡ None → (find p ys ≡ None → list_any (λ z. same z x) ys ≡ true → p x ≡ false) → (s || list_any (λ z. same z x) ys) ≡ true → p x ≡ false
      by true s ep es e rest any = cc
      by false true ep es e rest any = ap p (sym (equal y x es)) ∙ ep
      by false false ep es e rest any = rest e any

plain-noted : (held : List HeldGroup) (strays : List DiskName) (n : FileName) → is_retired held n ≡ true → is_noted held strays (record { name = n; temp = false }) ≡ true
plain-noted held strays n is = ap (λ b. b || is_stray strays (record { name = n; temp = false })) is

module _ (ids : List GroupId) (held : List HeldGroup) (strays : List DiskName) where
  noted-by : (o : Option FileName) (f : Option DiskName) → first_unpinned held ≡ o → find (is_loose ids held) strays ≡ f → IfSome (or_stray o f) (λ d. IsTrue (is_noted held strays d))
  noted-by (Some n) f e ef = plain-noted held strays n (found-in (λ n. count_of held n == 0) same_file same_file-itself (retired_names held) n e)
  noted-by None (Some d) e ef =
      ap (λ b. (not d.temp && is_retired held d.name) || b) (found-in (is_loose ids held) same_disk_name same_disk_name-itself strays d ef)
      ∙ or-true (not d.temp && is_retired held d.name)
  noted-by None None e ef = tt

  -- what is answered is noted
  pub first-noted : (result : Option DiskName) → result ≡ first_to_drop ids held strays → IfSome result (λ d. IsTrue (is_noted held strays d))
  first-noted result e = subst (λ o. IfSome o (λ d. IsTrue (is_noted held strays d))) (sym e) (noted-by (first_unpinned held) (find (is_loose ids held) strays) refl refl)

  counted : (n : FileName) (c : ℕ) → count_of held n ≡ c → first_unpinned held ≡ None → is_retired held n ≡ true → not (is_seen ids held n) ≡ false
  counted n zero e none is = absurd (false≢true (sym (retired-pinned held n none e) ∙ is))
  counted n (suc c) e none is =
      ap (λ m. not (is_named ids n || nat_lt 0 m)) e ∙ ap (λ b. not (is_named ids n || b)) (lt-ltb 0 (suc c) (omega arith)) ∙ ap not (or-true (is_named ids n))

  left-by : (name : FileName) (temp r : Bool) → is_retired held name ≡ r → first_unpinned held ≡ None → find (is_loose ids held) strays ≡ None
      → ((not temp && r) || is_stray strays (record { name = name; temp = temp })) ≡ true → is_loose ids held (record { name = name; temp = temp }) ≡ false
  left-by name false true e none empty is = counted name (count_of held name) refl none e
  left-by name false false e none empty is = none-in (is_loose ids held) same_disk_name same_disk_name-true strays (record { name = name; temp = false }) empty is
  left-by name true r e none empty is = none-in (is_loose ids held) same_disk_name same_disk_name-true strays (record { name = name; temp = true }) empty is

  none-by : (o : Option FileName) (f : Option DiskName) → first_unpinned held ≡ o → find (is_loose ids held) strays ≡ f
      → IfNone (or_stray o f) ((d : DiskName) → is_noted held strays d ≡ true → is_loose ids held d ≡ false)
  none-by (Some n) f e ef = tt
  none-by None (Some d) e ef = tt
  none-by None None e ef = λ d is. left-by d.name d.temp (is_retired held d.name) refl e ef is

  -- where nothing is answered, each noted name is visible or pinned
  pub first-none : (result : Option DiskName) → result ≡ first_to_drop ids held strays → IfNone result ((d : DiskName) → is_noted held strays d ≡ true → is_loose ids held d ≡ false)
  first-none result e = subst (λ o. IfNone o ((d : DiskName) → is_noted held strays d ≡ true → is_loose ids held d ≡ false)) (sym e) (none-by (first_unpinned held) (find (is_loose ids held) strays) refl refl)

both-by : (r s k : Bool) → ((r && k) || (s && k)) ≡ ((r || s) && k)
both-by true s true = refl
both-by true true false = refl
both-by true false false = refl
both-by false s k = refl

dropped-by : (old new : List HeldGroup) (before after : List DiskName) (gone : DiskName) (name : FileName) (temp : Bool)
    → is_retired new name ≡ (is_retired old name && not (same_disk_name gone (record { name = name; temp = false })))
    → is_stray after (record { name = name; temp = temp }) ≡ (is_stray before (record { name = name; temp = temp }) && not (same_disk_name gone (record { name = name; temp = temp })))
    → is_noted new after (record { name = name; temp = temp }) ≡ (is_noted old before (record { name = name; temp = temp }) && not (same_disk_name gone (record { name = name; temp = temp })))
dropped-by old new before after gone name true r s = s
dropped-by old new before after gone name false r s =
    (λ i. r i || s i) ∙ both-by (is_retired old name) (is_stray before (record { name = name; temp = false })) (not (same_disk_name gone (record { name = name; temp = false })))

-- the notes of one name are taken away, and no other
pub dropped-noted : (old new : List HeldGroup) (before after : List DiskName) (gone : DiskName)
    → ((n : FileName) → is_retired new n ≡ (is_retired old n && not (same_disk_name gone (record { name = n; temp = false }))))
    → ((d : DiskName) → is_stray after d ≡ (is_stray before d && not (same_disk_name gone d)))
    → (d : DiskName) → is_noted new after d ≡ (is_noted old before d && not (same_disk_name gone d))
dropped-noted old new before after gone r s d = dropped-by old new before after gone d.name d.temp (r d.name) (s d)
