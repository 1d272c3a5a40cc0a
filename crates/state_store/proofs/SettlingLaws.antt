-- Laws of a store one of whose steps is settled.
use Rattle.std.proofs.Common.{◌≡◌, ℕ, zero, suc, ◌+◌, ◌*◌, ◌/◌, ◌<◌, ◌≤◌, ◌^◌, ◌&&◌, nat_le, nat_lt, List, ◌++◌, All, Option, Some, None, IfSome, IsSomeAnd, Result, Ok, Err, map, refl, ap, subst, sym, ◌∙◌, arith, le_of_mul-le-mul_right}
use Rattle.std.specs.Prelude.{OnErr}
use Rattle.std.specs.Option.{ForSome}
use Rattle.std.proofs.lemmas.List.Elements.{filter_agree}
use Rattle.std.proofs.lemmas.Nat.{div-add-mod', div_below, mul-le, le-div}
use Rattle.agg_outside.specs.declared.disk.Disk.{Ghosts as DiskGhosts}
use Rattle.agg_outside.specs.Rows.{Held}
use Rattle.agg_model.specs.declared.change.Change.{Change}
use Rattle.agg_model.specs.Arranged.{arranged}
use Rattle.agg_model.specs.ChangeList.{ChangeList, IsChangeList}
use Rattle.agg_model.specs.Batch.{content_of}
use Rattle.agg_model.proofs.ContentsLaws.{filter-arranged}
use Rattle.collate_step.specs.Groups.{GroupFiles, AreGroupsBelow, is_in_step, step_changes, step_groups}
use Rattle.hot_keeper.specs.Windows.{changes_of_step, is_within_numbers}
use Rattle.row_epochs.specs.Changes.{changes_seen}
use Rattle.row_epochs.specs.Versions.{Versions, AreVersions}
use Rattle.visible_files.specs.Ids.{AreCuts, replaced_by}
use Rattle.visible_files.specs.Sets.{SetOf, SetsOf, NextSet}
use Rattle.agg_core.specs.Files.{HasExactly, SameOutside}
use Rattle.agg_core.specs.Rows.{HasRows}
use Rattle.agg_core.proofs.Kept.{outside-refl, outside-trans}
use Rattle.group_files.specs.NewFiles.{names_for}
use Rattle.state_store.specs.declared.store.Store.{Store}
use Rattle.state_store.specs.declared.view.View.{View}
use Rattle.state_store.specs.Store.{IsStepBelow, SeesAll, ArePlain, IsStore, Holds, Keeps, Sees, Goes, IsLeft, IsSettling, steps_held}
use Rattle.state_store.specs.Settling.{id_of_group, IsNextStep, CanAdd, Follows}
use Rattle.state_store.proofs.PlainLaws.{has_rows}
use Rattle.state_store.proofs.AcceptLaws.{sees_faults}
use Rattle.state_store.proofs.StepFiles.{left_of}
use Rattle.state_store.proofs.GroupsAfter.{after_single, after_are, after_exactly}

-- ---- numbers

-- a step below the number of complete ones is complete
pub step_within : (n next size : ℕ) → n < next / size → (n + 1) * size ≤ next
step_within n next size h =
    let below : (n + 1) * size ≤ next / size * size = mul-le (n + 1) size (next / size) size (omega (arith, h)) (omega arith) in
    omega (arith, below, div-add-mod' next size)

pub all_within : (n next size : ℕ) → 1 ≤ size → n * size ≤ next → next / size ≤ n → n ≡ next / size
all_within n next size from_one complete least = omega (arith, le-div n next size (omega (arith, from_one)) complete, least)

-- a step of a number that may come is one of the first 4,096
pub step_small : (n next size : ℕ) → 1 ≤ size → next ≤ 4096 * size → n < next / size → n < 4096
step_small n next size from_one within h =
    let below : next / size < 4097 = div_below next size 4097 (omega (arith, from_one)) (omega (arith, within, from_one)) in
    omega (arith, below, h)

pub few_steps : (list : ChangeList) (n : ℕ) → IsChangeList list → n * list.size ≤ list.next → n < 4097
few_steps list n valid complete = few n list.size valid.size_from_one (omega (arith, complete, valid.next_within))
  where
    few : (n s : ℕ) → 1 ≤ s → n * s ≤ 4096 * s → n < 4097
    few n zero h k = absurd (omega (arith, h))
    few n (suc s) h k = let least : n ≤ 4096 = le_of_mul-le-mul_right k (omega arith) in omega (arith, least)

-- ---- the changes of a step

same_window : (size step : ℕ) (c : Change) → is_within_numbers (step * size) (step * size + size) c ≡ is_in_step size step c
unfolding is_within_numbers
same_window size step c =
    let e : step * size + size ≡ (step + 1) * size = omega arith in
    ap (λ n. nat_le (step * size) c.tx && nat_lt c.tx n) e

pub changes_are : (list : ChangeList) (size step : ℕ) (cs : List Change) → list.size ≡ size → cs ≡ arranged list.changes → changes_of_step size step cs ≡ step_changes list step
changes_are list size step cs is same =
    ap (λ s. changes_of_step s step cs) (sym is)
    ∙ ap (changes_of_step list.size step) same
    ∙ filter_agree (is_within_numbers (step * list.size) (step * list.size + list.size)) (is_in_step list.size step) (same_window list.size step) (arranged list.changes)
    ∙ filter-arranged (is_in_step list.size step) list.changes

-- the rows that are read are the list's changes of the step
pub rows_are : (list : ChangeList) (hot : Versions) (size step : ℕ) (read : List Change) → list.size ≡ size → SeesAll hot list → IfSome hot.told (λ h. read ≡ changes_of_step size step (changes_seen hot.epoch h.rows)) → read ≡ step_changes list step
rows_are list hot size step read is sees told = by hot.told sees told
  where
    by : (o : Option Held) → IsSomeAnd o (λ h. changes_seen hot.epoch h.rows ≡ arranged list.changes) → IfSome o (λ h. read ≡ changes_of_step size step (changes_seen hot.epoch h.rows)) → read ≡ step_changes list step
    by None sees told = absurd sees
    by (Some h) sees told = told ∙ changes_are list size step (changes_seen hot.epoch h.rows) is sees

-- ---- what a step leaves as it was

module _ {D K : Type 0} (old new : Store D K) (same : IsSettling old new) where
  pub sound_settled : (most : ℕ) → new.sets.current.end * old.size ≤ old.next → IsStore most old → IsStore most new
  sound_settled most complete sound = subst (λ (s : Store D K). IsStore most s) (sym same) (record {
    size_from_one = sound.size_from_one;
    size_within = sound.size_within;
    next_within = sound.next_within;
    content = sound.content;
    complete = complete;
    below = sound.below;
  })

  pub goes_settled : (disk : DiskGhosts D) → SameOutside (disk.files old.disk) (disk.files new.disk) → old.sets.current.end ≤ new.sets.current.end → disk.faults old.disk ≤ disk.faults new.disk → old.hot.faults ≤ new.hot.faults → Goes disk old new
  goes_settled disk outside end disk_faults keeper_faults =
      let size : new.size ≡ old.size = ap (λ (s : Store D K). s.size) same in
      let P : ℕ → Type 0 = λ n. (view : View) (list : ChangeList) → Sees old.hot old.size view list → Sees new.hot n view list in
      record {
        outside = outside;
        size = size;
        end = end;
        disk_faults = disk_faults;
        keeper_faults = keeper_faults;
        sees = subst P (sym size) (sees_faults old.hot new.hot old.size (ap (λ (s : Store D K). s.hot) same));
      }

  pub hot_same : (P : Versions → Type 0) → P (record old.hot { faults = new.hot.faults }) → P new.hot
  hot_same P p = subst P (sym (ap (λ (s : Store D K). s.hot) same)) p

  -- the store where no group was taken up
  pub keeps_settled : (disk : DiskGhosts D) (list : ChangeList) → IfSome old.hot.told (AreVersions old.hot.epoch) → new.sets.current ≡ old.sets.current → ForSome (disk.files new.disk) (IsLeft list old.sets.current.groups) → Holds disk old list → Keeps disk new list
  keeps_settled disk list versions current left holds =
      let P : SetOf GroupFiles → Type 0 = λ s. s.end * list.size ≤ list.next in
      let Q : SetOf GroupFiles → Type 0 = λ s. AreGroupsBelow list s.end s.groups in
      let R : SetOf GroupFiles → Type 0 = λ s. All (IsStepBelow s.end) s.groups in
      let S : SetOf GroupFiles → Type 0 = λ s. ForSome (disk.files new.disk) (IsLeft list s.groups) in
      record {
        valid = holds.valid;
        rows = hot_same (λ (h : Versions). IsSomeAnd h.told (λ k. HasRows k list)) (has_rows list old.hot versions holds.rows holds.plain);
        complete = subst P (sym current) holds.complete;
        groups = subst Q (sym current) holds.groups;
        single = subst R (sym current) holds.single;
        stand = subst S (sym current) left;
      }

  -- the store with the groups of the step
  pub holds_settled : (disk : DiskGhosts D) (list : ChangeList) (added : List GroupFiles) → added ≡ step_groups list old.sets.current.end
      → new.sets.current.groups ≡ replaced_by id_of_group old.sets.current.groups added → new.sets.current.end ≡ old.sets.current.end + 1
      → AreCuts (map id_of_group new.sets.current.groups) (old.sets.current.end + 1) → (old.sets.current.end + 1) * list.size ≤ list.next
      → ForSome (disk.files new.disk) (HasExactly list (names_for old.sets.current.groups ++ names_for added)) → Holds disk old list → Holds disk new list
  holds_settled disk list added is made ends cuts complete stand holds =
      let end = old.sets.current.end in
      let below = old.sets.current.groups in
      let after = new.sets.current.groups in
      let P : ℕ → Type 0 = λ n. n * list.size ≤ list.next in
      let Q : ℕ → Type 0 = λ n. AreGroupsBelow list n after in
      let R : ℕ → Type 0 = λ n. All (IsStepBelow n) after in
      record {
        valid = holds.valid;
        rows = hot_same (λ (h : Versions). SeesAll h list) holds.rows;
        plain = hot_same (λ (h : Versions). ForSome h.told ArePlain) holds.plain;
        next = ap (λ (s : Store D K). s.next) same ∙ holds.next;
        content = ap (λ (s : Store D K). s.content) same ∙ holds.content;
        size = ap (λ (s : Store D K). s.size) same ∙ holds.size;
        complete = subst P (sym ends) complete;
        groups = subst Q (sym ends) (after_are list end below added after is made holds.single holds.groups cuts);
        single = subst R (sym ends) (after_single list end below added after is made holds.single);
        stand = λ f told. after_exactly list end below added after is made holds.single f (stand f told);
      }

pub goes-refl : {D K : Type 0} (disk : DiskGhosts D) (store : Store D K) → Goes disk store store
goes-refl disk store = record {
  outside = outside-refl (disk.files store.disk);
  size = refl;
  end = omega arith;
  disk_faults = omega arith;
  keeper_faults = omega arith;
  sees = λ view list sees. sees;
}

pub goes-trans : {D K : Type 0} (disk : DiskGhosts D) (a b c : Store D K) → Goes disk a b → Goes disk b c → Goes disk a c
goes-trans disk a b c one two = record {
  outside = outside-trans (disk.files a.disk) (disk.files b.disk) (disk.files c.disk) one.outside two.outside;
  size = two.size ∙ one.size;
  end = omega (arith, one.end, two.end);
  disk_faults = omega (arith, one.disk_faults, two.disk_faults);
  keeper_faults = omega (arith, one.keeper_faults, two.keeper_faults);
  sees = λ view list sees. two.sees view list (one.sees view list sees);
}

-- a disk that holds the list's files keeps nothing else
pub left_now : {D K : Type 0} (disk : DiskGhosts D) (store : Store D K) (list : ChangeList) → Holds disk store list → ForSome (disk.files store.disk) (IsLeft list store.sets.current.groups)
left_now disk store list holds =
    left_of list store.sets.current.end store.sets.current.groups (disk.files store.disk) holds.complete
    (few_steps list store.sets.current.end holds.valid holds.complete) holds.single holds.stand

pub keeps_now : {D K : Type 0} (disk : DiskGhosts D) (store : Store D K) (list : ChangeList) → IfSome store.hot.told (AreVersions store.hot.epoch) → Holds disk store list → Keeps disk store list
keeps_now disk store list versions holds = keeps_settled store store refl disk list versions refl (left_now disk store list holds) holds

-- the groups are those of the next step of the list
pub next_step : {D K : Type 0} (disk : DiskGhosts D) (store : Store D K) (list : ChangeList) (added : List GroupFiles) → steps_held store < store.next / store.size → added ≡ step_groups list (steps_held store) → Holds disk store list
    → IsNextStep list (steps_held store) store.sets.current.groups added
next_step disk store list added due is holds =
    let complete : (steps_held store + 1) * list.size ≤ list.next = rw (← holds.next, ← holds.size) (step_within (steps_held store) store.next store.size due) in
    record {
      is = is;
      complete = complete;
      early = (let few = few_steps list (steps_held store + 1) holds.valid complete in omega (arith, few));
      single = holds.single;
    }

pub on_err : {T E : Type 0} (result : Result T E) (P : Type 0) → P → OnErr result P
on_err (Ok x) P p = tt
on_err (Err e) P p = p

-- the parts of a store that no step changes
pub same_through : {D K : Type 0} (first mid last : Store D K) → IsSettling first mid → IsSettling mid last → IsSettling first last
same_through {D} {K} first mid last before step =
    step ∙ ap (λ (s : Store D K). record s { disk = last.disk; hot = record s.hot { faults = last.hot.faults }; sets = last.sets }) before

-- no complete step is left without files
pub all_steps : {D K : Type 0} (most : ℕ) (old new : Store D K) → new.next ≡ old.next → new.size ≡ old.size → IsStore most new → old.next / old.size ≤ steps_held new → steps_held new ≡ old.next / old.size
all_steps most old new next size sound least =
    rw (← next, ← size)
    (all_within (steps_held new) new.next new.size sound.size_from_one sound.complete (rw (next, size) least))

-- ---- a step, as its parts tell it

pub settled_with : {D K : Type 0} (old : Store D K) (disk : D) (hot : Versions) (sets : SetsOf GroupFiles) → hot ≡ record old.hot { faults = hot.faults } → IsSettling old (record old { disk = disk; hot = hot; sets = sets })
settled_with old disk hot sets same = λ i. record old { disk = disk; hot = same i; sets = sets }

-- the current set is the one before with the groups of a step
pub record HasTaken (before : SetOf GroupFiles) (added : List GroupFiles) (now : SetOf GroupFiles) : Type 0 where
  pub groups : now.groups ≡ replaced_by id_of_group before.groups added
  pub end : now.end ≡ before.end + 1
  pub cuts : AreCuts (map id_of_group now.groups) (before.end + 1)

pub has_taken : (before : SetOf GroupFiles) (sets : SetsOf GroupFiles) (added : List GroupFiles) (next : NextSet GroupFiles) (now : SetOf GroupFiles) → sets.current ≡ before → Follows sets added next → CanAdd before added → now ≡ next.set → HasTaken before added now
has_taken before sets added next now same follows can is =
    let groups : now.groups ≡ replaced_by id_of_group before.groups added =
    ap (λ (s : SetOf GroupFiles). s.groups) is ∙ follows.groups ∙ ap (λ (s : SetOf GroupFiles). replaced_by id_of_group s.groups added) same in
    record {
      groups = groups;
      end = ap (λ (s : SetOf GroupFiles). s.end) is ∙ follows.end ∙ ap (λ (s : SetOf GroupFiles). s.end + 1) same;
      cuts = subst (λ gs. AreCuts (map id_of_group gs) (before.end + 1)) (sym groups) can.cuts;
    }

module _ {D K : Type 0} (disk : DiskGhosts D) (old : Store D K) (due : steps_held old < old.next / old.size) (sound : (most : ℕ) × IsStore most old) where
  pub due_small : steps_held old < 4096
  due_small = step_small (steps_held old) old.next old.size sound.1.size_from_one sound.1.next_within due

  -- what the call that makes the groups says of a list that is held
  module _ (content : old.content ≤ 2 ^ 28) (step : ℕ) (at : step ≡ steps_held old) (below added : List GroupFiles) (below_are : below ≡ old.sets.current.groups)
      (made : (list : ChangeList) → IsChangeList list → content_of list.changes ≤ 2 ^ 28 → list.size ≡ old.size → SeesAll old.hot list → AreGroupsBelow list step below → added ≡ step_groups list step) where
    pub made_next : (list : ChangeList) → Holds disk old list → IsNextStep list (steps_held old) old.sets.current.groups added
    made_next list holds =
        let groups : AreGroupsBelow list step below =
        subst (λ n. AreGroupsBelow list n below) (sym at) (subst (AreGroupsBelow list (steps_held old)) (sym below_are) holds.groups) in
        let counted : content_of list.changes ≤ 2 ^ 28 = subst (λ n. n ≤ 2 ^ 28) holds.content content in
        next_step disk old list added due (made list holds.valid counted (sym holds.size) holds.rows groups ∙ ap (step_groups list) at) holds

  pub sound_taken : (new : Store D K) → IsSettling old new → (added : List GroupFiles) → HasTaken old.sets.current added new.sets.current → (most : ℕ) → IsStore most old → IsStore most new
  sound_taken new same added taken most is =
      let P : ℕ → Type 0 = λ n. n * old.size ≤ old.next in
      sound_settled old new same most (subst P (sym taken.end) (step_within (steps_held old) old.next old.size due)) is

  pub holds_taken : (new : Store D K) → IsSettling old new → (added : List GroupFiles) → HasTaken old.sets.current added new.sets.current → (list : ChangeList) → IsNextStep list (steps_held old) old.sets.current.groups added
      → ForSome (disk.files new.disk) (HasExactly list (names_for old.sets.current.groups ++ names_for added)) → Holds disk old list → Holds disk new list
  holds_taken new same added taken list next stand holds =
      holds_settled old new same disk list added next.is taken.groups taken.end taken.cuts next.complete stand holds
