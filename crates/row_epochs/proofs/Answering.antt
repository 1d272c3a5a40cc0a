-- From what a keeper may tell to what the rows' contracts say of it.
use Rattle.std.proofs.Common.{◌≡◌, ℕ, ◌+◌, ◌≤◌, List, map, All, Option, Some, None, IfSome, IfNone, IsSomeAnd, refl, sym, ap, subst, ◌∙◌, arith}
use Rattle.std.specs.Option.{ForSome}
use Rattle.agg_outside.specs.declared.rows.RowId.{RowId}
use Rattle.agg_outside.specs.declared.rows.Row.{Row}
use Rattle.agg_outside.specs.declared.rows.RowWrite.{RowWrite}
use Rattle.agg_outside.specs.Rows.{Held, applied, CanApply}
use Rattle.agg_model.specs.declared.change.Change.{Change}
use Rattle.agg_model.specs.Batch.{HasNoRepeats}
use Rattle.agg_model.specs.Arranged.{arranged_from}
use Rattle.row_epochs.specs.Seen.{SameUpTo, SameFrom, dead, without_dead}
use Rattle.row_epochs.specs.Changes.{IsNew, changes_seen, writes_of, kills_of}
use Rattle.row_epochs.specs.Places.{ids_of}
use Rattle.row_epochs.specs.Versions.{AreVersions, IsAlive}
use Rattle.row_epochs.proofs.WriteLaws.{wrote_batch, killed_rows, purged, removals}

-- a fact of what is told, where it is told
pub tell : (o : Option Held) (P : Held → Type 0) → ((h : Held) → o ≡ Some h → P h) → IfSome o P
tell None P f = tt
tell (Some h) P f = f h refl

pub fall : (o : Option Held) (P : Held → Type 0) → IfSome o P → (h : Held) → o ≡ Some h → P h
fall o P all h e = let F : Option Held → Type 0 = λ x. IfSome x P in subst F e all

-- what is held after a write, where it was told before
pub made : (old new : Option Held) (f : Held → Held) (Q : Held → Type 0) → ((h : Held) → old ≡ Some h → Q (f h)) → IfSome old (λ h. new ≡ Some (f h)) → IfNone old (new ≡ None) → IfSome new Q
made None new f Q fits ok silent = let F : Option Held → Type 0 = λ x. IfSome x Q in subst F (sym silent) tt
made (Some h) new f Q fits ok silent = let F : Option Held → Type 0 = λ x. IfSome x Q in subst F (sym ok) (fits h refl)

-- and what it is to what was held before
pub kept : (old told new : Option Held) (f : Held → Held) (R : Held → Held → Type 0) → old ≡ told → ((h : Held) → old ≡ Some h → R h (f h)) → IfSome old (λ h. new ≡ Some (f h)) → IfSome told (λ h. IsSomeAnd new (λ k. R h k))
kept old told new f R same fits ok =
    tell told (λ h. IsSomeAnd new (λ k. R h k))
    (λ h e. let F : Option Held → Type 0 = λ x. IsSomeAnd x (λ k. R h k) in subst F (sym (fall old (λ x. new ≡ Some (f x)) ok h (same ∙ e))) (fits h (same ∙ e)))

pub becomes : (old told new : Option Held) (f g : Held → Held) → old ≡ told → ((h : Held) → old ≡ Some h → f h ≡ g h) → IfSome old (λ h. new ≡ Some (f h)) → IfSome told (λ h. new ≡ Some (g h))
becomes old told new f g same fits ok =
    tell told (λ h. new ≡ Some (g h)) (λ h e. fall old (λ x. new ≡ Some (f x)) ok h (same ∙ e) ∙ ap (λ (x : Held). Some x) (fits h (same ∙ e)))

-- ---- a batch

pub record Batched (now next : ℕ) (cs : List Change) (writes : List RowWrite) (h : Held) : Type 0 where
  pub can : CanApply writes h
  pub are : AreVersions next (applied writes h)
  pub changes : changes_seen (now + 1) (applied writes h).rows ≡ arranged_from (changes_seen now h.rows) cs
  pub earlier : SameUpTo now h.rows (applied writes h).rows

pub batched : (old told : Option Held) (epoch now next : ℕ) (cs : List Change) (writes : List RowWrite) → old ≡ told → epoch ≡ now → next ≡ epoch + 1 → writes ≡ writes_of next cs → IfSome old (AreVersions epoch) → HasNoRepeats cs
    → ForSome told (λ h. All (λ c. IsNew c (changes_seen now h.rows)) cs) → (h : Held) → old ≡ Some h → Batched now next cs writes h
batched old told epoch now next cs writes same same_epoch up is are none new h e =
    let N : ℕ → Type 0 = λ n. All (λ c. IsNew c (changes_seen n h.rows)) cs in
    let w = wrote_batch epoch cs h (fall old (AreVersions epoch) are h e) none (subst N (sym same_epoch) (new h (sym same ∙ e))) in
    let core : Batched epoch (epoch + 1) cs (writes_of (epoch + 1) cs) h = record { can = w.can; are = w.are; changes = w.changes; earlier = w.earlier } in
    let A : ℕ → Type 0 = λ n. Batched n (epoch + 1) cs (writes_of (epoch + 1) cs) h in
    let B : ℕ → Type 0 = λ n. Batched now n cs (writes_of n cs) h in
    let C : List RowWrite → Type 0 = λ ws. Batched now next cs ws h in
    subst C (sym is) (subst B (sym up) (subst A same_epoch core))

-- ---- kills

pub record KilledBy (now next : ℕ) (writes : List RowWrite) (h : Held) : Type 0 where
  pub can : CanApply writes h
  pub are : AreVersions next (applied writes h)
  pub earlier : SameUpTo now h.rows (applied writes h).rows

pub killed_by : (old told : Option Held) (epoch now next floor : ℕ) (ids : List RowId) (writes : List RowWrite) → old ≡ told → epoch ≡ now → next ≡ epoch + 1 → writes ≡ kills_of next floor ids → IfSome old (AreVersions epoch)
    → ForSome told (λ h. All (IsAlive h.rows) ids) → (h : Held) → old ≡ Some h → KilledBy now next writes h
killed_by old told epoch now next floor ids writes same same_epoch up is are alive h e =
    let k = killed_rows epoch floor ids h (fall old (AreVersions epoch) are h e) (alive h (sym same ∙ e)) in
    let core : KilledBy epoch (epoch + 1) (kills_of (epoch + 1) floor ids) h = record { can = k.can; are = k.are; earlier = k.earlier } in
    let A : ℕ → Type 0 = λ n. KilledBy n (epoch + 1) (kills_of (epoch + 1) floor ids) h in
    let B : ℕ → Type 0 = λ n. KilledBy now n (kills_of n floor ids) h in
    let C : List RowWrite → Type 0 = λ ws. KilledBy now next ws h in
    subst C (sym is) (subst B (sym up) (subst A same_epoch core))

-- ---- removals

pub record PurgedBy (epoch oldest : ℕ) (writes : List RowWrite) (h : Held) : Type 0 where
  pub can : CanApply writes h
  pub is : applied writes h ≡ record h { rows = without_dead oldest h.rows }
  pub are : AreVersions epoch (applied writes h)
  pub later : SameFrom oldest h.rows (applied writes h).rows

pub purged_by : (old before : Option Held) (epoch oldest : ℕ) (ids : List RowId) (writes : List RowWrite) → old ≡ before → IfSome before (AreVersions epoch) → IfSome before (λ h. ids ≡ ids_of (dead oldest h.rows)) → writes ≡ removals ids
    → (h : Held) → old ≡ Some h → PurgedBy epoch oldest writes h
purged_by old before epoch oldest ids writes same are found is h e =
    let there : before ≡ Some h = sym same ∙ e in
    let p = purged epoch oldest h (fall before (AreVersions epoch) are h there) in
    let F : Held → Type 0 = λ k. AreVersions epoch k in
    let L : Held → Type 0 = λ k. SameFrom oldest h.rows k.rows in
    let core : PurgedBy epoch oldest (removals (ids_of (dead oldest h.rows))) h = record { can = p.can; is = p.is; are = subst F (sym p.is) p.are; later = subst L (sym p.is) p.later } in
    let C : List RowWrite → Type 0 = λ ws. PurgedBy epoch oldest ws h in
    subst C (sym (is ∙ ap removals (fall before (λ x. ids ≡ ids_of (dead oldest x.rows)) found h there))) core
