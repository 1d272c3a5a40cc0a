-- What is opened sees the list, and opening and closing changes nothing else.
use Rattle.std.proofs.Common.{◌≡◌, ℕ, ◌+◌, ◌*◌, ◌^◌, ◌<◌, ◌≤◌, true, cond, nat_le, List, [], ◌∷◌, All, Option, Some, None, IfSome, IsSomeAnd, refl, ap, subst, sym, ◌∙◌, arith}
use Rattle.std.specs.FinMap.{get}
use Rattle.std.specs.Option.{ForSome, option_map}
use Rattle.std.specs.List.{filter}
use Rattle.std.proofs.lemmas.List.Elements.{All-nil}
use Rattle.agg_outside.specs.declared.disk.Disk.{Ghosts as DiskGhosts}
use Rattle.agg_outside.specs.Files.{Files}
use Rattle.agg_outside.specs.Rows.{Held}
use Rattle.agg_outside.specs.declared.rows.Row.{Row}
use Rattle.agg_model.specs.Arranged.{arranged}
use Rattle.agg_model.specs.ChangeList.{ChangeList}
use Rattle.agg_model.specs.Batch.{IsChange}
use Rattle.agg_model.specs.declared.change.Change.{Change}
use Rattle.agg_model.proofs.ContentsLaws.{filter-arranged}
use Rattle.merge_ranges.specs.declared.name.FileName.{FileName}
use Rattle.merge_ranges.specs.Name.{spelled}
use Rattle.collate_step.specs.Groups.{GroupFiles, AreGroupsBelow}
use Rattle.row_epochs.specs.Changes.{changes_seen}
use Rattle.visible_files.specs.declared.held.HeldGroup.{HeldGroup}
use Rattle.visible_files.specs.Held.{count_of, named_once, is_named}
use Rattle.visible_files.specs.Sets.{SetOf, SetsOf}
use Rattle.window_laws.specs.Parts.{changes_from}
use Rattle.window_reads.specs.Standing.{Stand}
use Rattle.agg_core.specs.Files.{HasFile, HasExactly, temporary_of}
use Rattle.agg_core.proofs.Kept.{outside-refl}
use Rattle.group_files.specs.NewFiles.{names_for}
use Rattle.state_store.specs.declared.store.Store.{Store}
use Rattle.state_store.specs.declared.view.View.{View}
use Rattle.epoch_window.specs.Seen.{seen_from, told_from}
use Rattle.state_store.proofs.PlainLaws.{none_plain}
use Rattle.state_store.specs.Store.{IsStepBelow, AreBelow, IsStore, Holds, Sees, Goes, set_of, HasView, ArePinned, HasNoFile, no_changes}

-- ---- what is opened sees the list

told_of : (o : Option Held) (epoch from : ℕ) (cs : List Change) → IsSomeAnd o (λ h. changes_seen epoch h.rows ≡ arranged cs) → option_map (seen_from epoch from) o ≡ Some (changes_from from cs)
unfolding changes_from
told_of None epoch from cs sees = absurd sees
told_of (Some h) epoch from cs sees = ap Some (ap (filter (λ (c : Change). nat_le from c.tx)) sees ∙ filter-arranged (λ (c : Change). nat_le from c.tx) cs)

module _ {D K : Type 0} (disk : DiskGhosts D) (store : Store D K) (list : ChangeList) (holds : Holds disk store list) where
  stands_now : Stand list store.sets.current.groups (told_from store.hot.epoch (store.sets.current.end * list.size) store.hot) store.size store.sets.current.end store.next
  stands_now = record {
    are_changes = holds.valid;
    size_is = sym holds.size;
    files_are = holds.groups;
    told_is = told_of store.hot.told store.hot.epoch (store.sets.current.end * list.size) list.changes holds.rows;
    at_is = holds.next;
  }

  stands_as : (next epoch : ℕ) (set : SetOf GroupFiles) → next ≡ store.next → epoch ≡ store.hot.epoch → set ≡ store.sets.current → Stand list set.groups (told_from epoch (set.end * list.size) store.hot) store.size set.end next
  stands_as next epoch set is_next is_epoch is_set =
      let P : ℕ → Type 0 = λ n. Stand list set.groups (told_from epoch (set.end * list.size) store.hot) store.size set.end n in
      let Q : ℕ → Type 0 = λ e. Stand list set.groups (told_from e (set.end * list.size) store.hot) store.size set.end store.next in
      let R : SetOf GroupFiles → Type 0 = λ s. Stand list s.groups (told_from store.hot.epoch (s.end * list.size) store.hot) store.size s.end store.next in
      subst P (sym is_next) (subst Q (sym is_epoch) (subst R (sym is_set) stands_now))

  pub sees_opened : (view : View) → view.next ≡ store.next → view.epoch ≡ store.hot.epoch → set_of view ≡ store.sets.current → Sees store.hot store.size view list
  sees_opened view is_next is_epoch is_set = record {
    epoch = omega (arith, is_epoch);
    stands = stands_as view.next view.epoch (set_of view) is_next is_epoch is_set;
  }

-- ---- nothing but pins changed

pub holds_with : {D K : Type 0} (disk : DiskGhosts D) (store : Store D K) (sets : SetsOf GroupFiles) (list : ChangeList) → sets.current ≡ store.sets.current → Holds disk store list → Holds disk (record store { sets = sets }) list
holds_with disk store sets list same holds =
    let P : SetOf GroupFiles → Type 0 = λ s. s.end * list.size ≤ list.next in
    let Q : SetOf GroupFiles → Type 0 = λ s. AreGroupsBelow list s.end s.groups in
    let R : SetOf GroupFiles → Type 0 = λ s. All (IsStepBelow s.end) s.groups in
    let S : SetOf GroupFiles → Type 0 = λ s. ForSome (disk.files store.disk) (HasExactly list (names_for s.groups)) in
    record {
      valid = holds.valid;
      rows = holds.rows;
      plain = holds.plain;
      next = holds.next;
      content = holds.content;
      size = holds.size;
      complete = subst P (sym same) holds.complete;
      groups = subst Q (sym same) holds.groups;
      single = subst R (sym same) holds.single;
      stand = subst S (sym same) holds.stand;
    }

pub goes_with : {D K : Type 0} (disk : DiskGhosts D) (store : Store D K) (sets : SetsOf GroupFiles) → sets.current ≡ store.sets.current → Goes disk store (record store { sets = sets })
goes_with disk store sets same = record {
  outside = outside-refl (disk.files store.disk);
  size = refl;
  end = let ends : sets.current.end ≡ store.sets.current.end = ap (λ (s : SetOf GroupFiles). s.end) same in omega (arith, ends);
  disk_faults = omega arith;
  keeper_faults = omega arith;
  sees = λ view list sees. sees;
}

-- ---- pins

pub pinned_more : (old new : List HeldGroup) (set : SetOf GroupFiles) (view : View) (views : List View) → set_of view ≡ set → ((n : FileName) → count_of new n ≡ count_of old n + named_once set.ids n) → ArePinned old views → ArePinned new (view ∷ views)
pinned_more old new set view views is counts pinned = λ n.
    let mine : named_once (set_of view).ids n ≡ named_once set.ids n = ap (λ (s : SetOf GroupFiles). named_once s.ids n) is in
    let more = counts n in
    let before = pinned n in
    omega (arith, mine, more, before)

pub is_pinned : (held : List HeldGroup) (view : View) → ArePinned held (view ∷ []) → (n : FileName) → is_named (set_of view).ids n ≡ true → 1 ≤ count_of held n
is_pinned held view pinned n named =
    let one : named_once (set_of view).ids n ≡ 1 = ap (λ t. cond t 1 0) named in
    let here = pinned n in
    omega (arith, one, here)

pub pinned_less : (old new : List HeldGroup) (view : View) (views : List View) → ((n : FileName) → count_of new n + named_once (set_of view).ids n ≡ count_of old n) → ArePinned old (view ∷ views) → ArePinned new views
pinned_less old new view views counts pinned = λ n.
    let less = counts n in
    let before = pinned n in
    omega (arith, less, before)

-- ---- a store that begins

none_some : {A : Type 0} {x : A} → None ≡ Some x → ⊥
none_some e = cc

if_none : {A : Type 0} (P : A → Type 0) (o : Option A) → o ≡ None → IfSome o P
if_none P None is = tt
if_none P (Some x) is = absurd (none_some (sym is))

nothing_stands : (size : ℕ) (f : Files) → HasNoFile f → HasExactly (no_changes size) [] f
nothing_stands size f none = record {
  stand = All-nil (HasFile (no_changes size) f);
  only = λ name is. if_none _ (get f (spelled name)) (none (spelled name));
  no_temporary = λ name is. none (temporary_of name);
}

nothing_seen : (o : Option Held) (epoch : ℕ) → IsSomeAnd o (λ h. (h.rows ≡ []) × (h.floor ≡ 0)) → IsSomeAnd o (λ h. changes_seen epoch h.rows ≡ arranged [])
unfolding arranged
nothing_seen None epoch none = none
nothing_seen (Some h) epoch none = ap (λ (rows : List Row). changes_seen epoch rows) none.0

pub holds_none : {D K : Type 0} (disk : DiskGhosts D) (store : Store D K) (size : ℕ) → 1 ≤ size → size ≤ 2 ^ 32 → IsSomeAnd store.hot.told (λ h. (h.rows ≡ []) × (h.floor ≡ 0)) → ForSome (disk.files store.disk) HasNoFile
    → store.next ≡ 0 → store.content ≡ 0 → store.size ≡ size → store.sets.current.groups ≡ [] → store.sets.current.end ≡ 0 → Holds disk store (no_changes size)
holds_none disk store size some small rows files next content is_size groups end =
    let P : List GroupFiles → Type 0 = λ gs. AreGroupsBelow (no_changes size) store.sets.current.end gs in
    let Q : ℕ → Type 0 = λ n. AreGroupsBelow (no_changes size) n [] in
    let R : List GroupFiles → Type 0 = λ gs. All (IsStepBelow store.sets.current.end) gs in
    let S : List GroupFiles → Type 0 = λ gs. ForSome (disk.files store.disk) (HasExactly (no_changes size) (names_for gs)) in
    let T : ℕ → Type 0 = λ n. n * size ≤ 0 in
    record {
      valid = record {
        size_from_one = some;
        size_within = small;
        next_within = omega arith;
        below_next = All-nil (λ (c : Change). c.tx < 0);
        ascend = tt;
        no_repeats = tt;
        fit = All-nil IsChange;
      };
      rows = nothing_seen store.hot.told store.hot.epoch rows;
      plain = none_plain store.hot.told rows;
      next = next;
      content = content;
      size = is_size;
      complete = subst T (sym end) (omega arith);
      groups = subst P (sym groups) (subst Q (sym end) (λ e. ([], (refl, refl))));
      single = subst R (sym groups) (All-nil (IsStepBelow store.sets.current.end));
      stand = subst S (sym groups) (λ f told. nothing_stands size f (files f told));
    }

none_below : (o : Option Held) (epoch : ℕ) → ForSome o (λ h. h.rows ≡ []) → ForSome o (λ h. All (λ c. c.tx < 0) (changes_seen epoch h.rows))
none_below o epoch none = λ h told.
    subst (λ (rows : List Row). All (λ c. c.tx < 0) (changes_seen epoch rows)) (sym (none h told)) (All-nil (λ (c : Change). c.tx < 0))

pub sound_none : {D K : Type 0} (store : Store D K) (most : ℕ) → 1 ≤ store.size → store.size ≤ 2 ^ 32 → ForSome store.hot.told (λ h. h.rows ≡ []) → store.next ≡ 0 → store.content ≡ 0 → store.sets.current.end ≡ 0 → IsStore most store
sound_none store most some small rows next content end =
    let P : ℕ → Type 0 = λ n. n * store.size ≤ store.next in
    let Q : ℕ → Type 0 = λ n. AreBelow n store.hot in
    record {
      size_from_one = some;
      size_within = small;
      next_within = omega (arith, next);
      content = omega (arith, content);
      complete = subst P (sym end) (omega arith);
      below = subst Q (sym next) (none_below store.hot.told store.hot.epoch rows);
    }

pub sound_with : {D K : Type 0} (store : Store D K) (sets : SetsOf GroupFiles) (most : ℕ) → sets.current ≡ store.sets.current → IsStore most store → IsStore most (record store { sets = sets })
sound_with store sets most same sound =
    let P : SetOf GroupFiles → Type 0 = λ s. s.end * store.size ≤ store.next in
    record {
      size_from_one = sound.size_from_one;
      size_within = sound.size_within;
      next_within = sound.next_within;
      content = sound.content;
      complete = subst P (sym same) sound.complete;
      below = sound.below;
    }

-- ---- a view's files are of steps below its next number

pub view_has : {D K : Type 0} (old new : Store D K) (most : ℕ) (view : View) → new.size ≡ old.size → IsStore most old → view.next ≡ old.next → set_of view ≡ old.sets.current → HasView new view
view_has old new most view size sound next set =
    let P : SetOf GroupFiles → Type 0 = λ s. s.end * new.size ≤ view.next in
    let Q : ℕ → Type 0 = λ n. old.sets.current.end * n ≤ view.next in
    let R : ℕ → Type 0 = λ n. old.sets.current.end * old.size ≤ n in
    subst P (sym set) (subst Q (sym size) (subst R (sym next) sound.complete))
