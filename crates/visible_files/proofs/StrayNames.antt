-- Names of files, and strays in order.
use Rattle.std.proofs.Common.{◌≡◌, ℕ, ◌≤◌, ◌<◌, Bool, true, false, not, ◌&&◌, ◌||◌, ◌==◌, List, length, get_or, refl, sym, ◌∙◌, ap, subst, arith, eqb-true, eq-eqb}
use Rattle.std.specs.List.{insert, remove}
use Rattle.merge_ranges.specs.Kind.{kind_number}
use Rattle.merge_ranges.proofs.KindLaws.{kind_number-injective}
use Rattle.merge_ranges.specs.declared.name.FileName.{FileName}
use Rattle.merge_ranges.specs.declared.name.DiskName.{DiskName}
use Rattle.visible_files.specs.Ids.{same_id, Ascends, IsLowerBound}
use Rattle.visible_files.specs.Held.{id_of_name, same_file}
use Rattle.visible_files.specs.Strays.{bit, disk_place, disk_places, same_disk_name, is_stray}
use Rattle.visible_files.proofs.Equalities.{or-false, or-true, or_comm, both, first_of, second_of, any-insert}
use Rattle.visible_files.proofs.Orders.{ascends-insert, ascends-remove}
use Rattle.visible_files.proofs.Cuts.{same_id-true, same_id-itself}
use Rattle.visible_files.proofs.Keyed.{test-at, test-past, test-removed, any-removed}

pub same_file-true : (a b : FileName) → same_file a b ≡ true → a ≡ b
unfolding same_file
same_file-true a b h =
    let e : id_of_name a ≡ id_of_name b = same_id-true (id_of_name a) (id_of_name b) (first_of (same_id (id_of_name a) (id_of_name b)) (kind_number a.kind == kind_number b.kind) h) in
    let k : a.kind ≡ b.kind = kind_number-injective a.kind b.kind (eqb-true (kind_number a.kind) (kind_number b.kind) (second_of (same_id (id_of_name a) (id_of_name b)) (kind_number a.kind == kind_number b.kind) h)) in
    λ i. record { entity = (e i).entity; range = (e i).range; kind = k i }

pub same_file-itself : (a : FileName) → same_file a a ≡ true
unfolding same_file
same_file-itself a = both (same_id (id_of_name a) (id_of_name a)) (kind_number a.kind == kind_number a.kind) (same_id-itself (id_of_name a)) (eq-eqb (kind_number a.kind) (kind_number a.kind) refl)

bit-injective : (a b : Bool) → bit a ≡ bit b → a ≡ b
bit-injective true true e = refl
bit-injective true false e = absurd (omega arith)
bit-injective false true e = absurd (omega arith)
bit-injective false false e = refl

pub same_disk_name-true : (a b : DiskName) → same_disk_name a b ≡ true → a ≡ b
unfolding same_disk_name
same_disk_name-true a b h =
    let n : a.name ≡ b.name = same_file-true a.name b.name (first_of (same_file a.name b.name) (bit a.temp == bit b.temp) h) in
    let t : a.temp ≡ b.temp = bit-injective a.temp b.temp (eqb-true (bit a.temp) (bit b.temp) (second_of (same_file a.name b.name) (bit a.temp == bit b.temp) h)) in
    λ i. record { name = n i; temp = t i }

pub same_disk_name-itself : (a : DiskName) → same_disk_name a a ≡ true
unfolding same_disk_name
same_disk_name-itself a = both (same_file a.name a.name) (bit a.temp == bit a.temp) (same_file-itself a.name) (eq-eqb (bit a.temp) (bit a.temp) refl)

at_place : (d s : DiskName) → same_disk_name s d ≡ true → disk_place s ≡ disk_place d
at_place d s h = ap disk_place (same_disk_name-true s d h)

pub stray-at : (ds : List DiskName) (d : DiskName) (n : ℕ) (d0 : DiskName) → Ascends 0 (disk_places ds) → IsLowerBound disk_place ds (disk_place d) n → n < length ds → is_stray ds d ≡ same_disk_name (get_or ds n d0) d
stray-at ds d n d0 h b lt = test-at disk_place (disk_place d) (λ s. same_disk_name s d) (at_place d) 0 ds n d0 h b lt

pub stray-past : (ds : List DiskName) (d : DiskName) (n : ℕ) → IsLowerBound disk_place ds (disk_place d) n → length ds ≤ n → is_stray ds d ≡ false
stray-past ds d n b le = test-past disk_place (disk_place d) (λ s. same_disk_name s d) (at_place d) ds n b le

already-by : (ds : List DiskName) (name d : DiskName) (t : Bool) → same_disk_name name d ≡ t → is_stray ds name ≡ true → is_stray ds d ≡ (is_stray ds d || t)
already-by ds name d true e is = ap (is_stray ds) (sym (same_disk_name-true name d e)) ∙ is ∙ sym (or-true (is_stray ds d))
already-by ds name d false e is = sym (or-false (is_stray ds d))

pub noted-already : (ds seen : List DiskName) (name : DiskName) → seen ≡ ds → is_stray seen name ≡ true → (d : DiskName) → is_stray ds d ≡ (is_stray ds d || same_disk_name name d)
noted-already ds seen name is h d = already-by ds name d (same_disk_name name d) refl (ap (λ l. is_stray l name) (sym is) ∙ h)

pub noted-new : (ds new : List DiskName) (name : DiskName) (n : ℕ) → new ≡ insert ds n name → (d : DiskName) → is_stray new d ≡ (is_stray ds d || same_disk_name name d)
noted-new ds new name n made d = ap (λ l. is_stray l d) made ∙ any-insert (λ s. same_disk_name s d) n name ds ∙ or_comm (same_disk_name name d) (is_stray ds d)

pub noted-order : (ds seen new : List DiskName) (name : DiskName) (n : ℕ) → seen ≡ ds → Ascends 0 (disk_places ds) → IsLowerBound disk_place seen (disk_place name) n
    → ((d : DiskName) → n < length seen → disk_place name < disk_place (get_or seen n d)) → new ≡ insert ds n name → Ascends 0 (disk_places new)
noted-order ds seen new name n is up b apart made =
    subst (λ l. Ascends 0 (disk_places l)) (sym made)
    (ascends-insert disk_place name 0 ds n up (omega arith) (subst (λ l. IsLowerBound disk_place l (disk_place name) n) is b)
    (subst (λ (l : List DiskName). (d : DiskName) → n < length l → disk_place name < disk_place (get_or l n d)) is apart))

absent-by : (ds : List DiskName) (name d : DiskName) (t : Bool) → same_disk_name name d ≡ t → is_stray ds name ≡ false → is_stray ds d ≡ (is_stray ds d && not t)
absent-by ds name d true e none = (ap (is_stray ds) (sym (same_disk_name-true name d e)) ∙ none) ∙ sym (none-and (is_stray ds d))
  where
    none-and : (b : Bool) → (b && false) ≡ false
    none-and true = refl
    none-and false = refl
absent-by ds name d false e none = sym (and-true (is_stray ds d))
  where
    and-true : (b : Bool) → (b && true) ≡ b
    and-true true = refl
    and-true false = refl

pub forgotten-none : (ds seen : List DiskName) (name : DiskName) → seen ≡ ds → is_stray seen name ≡ false → (d : DiskName) → is_stray ds d ≡ (is_stray ds d && not (same_disk_name name d))
forgotten-none ds seen name is h d = absent-by ds name d (same_disk_name name d) refl (ap (λ l. is_stray l name) (sym is) ∙ h)

gone-by : (ds : List DiskName) (name d : DiskName) (n : ℕ) (d0 : DiskName) (t : Bool) → same_disk_name name d ≡ t → Ascends 0 (disk_places ds) → n < length ds → get_or ds n d0 ≡ name
    → is_stray (remove ds n) d ≡ (is_stray ds d && not t)
gone-by ds name d n d0 true e up lt here =
    test-removed disk_place (disk_place d) (λ s. same_disk_name s d) (at_place d) 0 ds n d0 up lt (ap disk_place (here ∙ same_disk_name-true name d e)) ∙ sym (none-and (is_stray ds d))
  where
    none-and : (b : Bool) → (b && false) ≡ false
    none-and true = refl
    none-and false = refl
gone-by ds name d n d0 false e up lt here =
    sym (any-removed (λ s. same_disk_name s d) ds n d0 lt ∙ ap (λ s. same_disk_name s d || is_stray (remove ds n) d) here ∙ ap (λ b. b || is_stray (remove ds n) d) e) ∙ sym (and-true (is_stray ds d))
  where
    and-true : (b : Bool) → (b && true) ≡ b
    and-true true = refl
    and-true false = refl

pub forgotten : (ds seen new : List DiskName) (name : DiskName) (n : ℕ) → seen ≡ ds → Ascends 0 (disk_places ds) → n < length seen → ((d : DiskName) → same_disk_name (get_or seen n d) name ≡ true) → new ≡ remove ds n
    → (d : DiskName) → is_stray new d ≡ (is_stray ds d && not (same_disk_name name d))
forgotten ds seen new name n is up lt here made d =
    let lt' : n < length ds = subst (λ (l : List DiskName). n < length l) is lt in
    let here' : get_or ds n name ≡ name = ap (λ l. get_or l n name) (sym is) ∙ same_disk_name-true (get_or seen n name) name (here name) in
    ap (λ l. is_stray l d) made ∙ gone-by ds name d n name (same_disk_name name d) refl up lt' here'

pub forgotten-order : (ds new : List DiskName) (n : ℕ) → Ascends 0 (disk_places ds) → new ≡ remove ds n → Ascends 0 (disk_places new)
forgotten-order ds new n up made = subst (λ l. Ascends 0 (disk_places l)) (sym made) (ascends-remove disk_place 0 ds n up)
