-- Laws of a store whose next step may be on the disk in part.
use Rattle.std.proofs.Common.{◌≡◌, ℕ, ◌+◌, ◌*◌, ◌/◌, ◌%◌, ◌<◌, ◌≤◌, ◌++◌, true, List, get_or, length, All, Contains, Option, Some, None, IfSome, IsSomeAnd, ap, subst, sym, ◌∙◌, arith}
use Rattle.std.specs.FinMap.{get}
use Rattle.std.specs.Option.{ForSome}
use Rattle.std.proofs.lemmas.Nat.{div-add-mod', mod_below, mul-le}
use Rattle.agg_outside.specs.declared.disk.Disk.{Ghosts as DiskGhosts}
use Rattle.agg_outside.specs.Files.{Files}
use Rattle.agg_model.specs.declared.change.Change.{Change}
use Rattle.agg_model.specs.Batch.{IsBatch, content_of}
use Rattle.agg_model.specs.ChangeList.{ChangeList, next_of, grown, begins_from}
use Rattle.agg_model.specs.Merged.{merged}
use Rattle.agg_model.proofs.GrownLaws.{AscendFrom-All, next_of-above}
use Rattle.merge_ranges.specs.declared.name.FileName.{FileName}
use Rattle.merge_ranges.specs.Name.{spelled}
use Rattle.agg_core.specs.Files.{IsFileOf, MayStand, temporary_of}
use Rattle.agg_core.proofs.Stays.{file_bytes-later, file_bytes-stays}
use Rattle.collate_step.specs.Groups.{GroupFiles, AreGroupsBelow}
use Rattle.row_epochs.specs.Versions.{Versions, AreVersions}
use Rattle.visible_files.specs.Sets.{SetOf, SetsOf}
use Rattle.agg_core.specs.Files.{HasExactly}
use Rattle.agg_core.specs.Rows.{HasRows}
use Rattle.group_files.specs.NewFiles.{names_for}
use Rattle.state_store.specs.declared.store.Store.{Store}
use Rattle.state_store.specs.Store.{IsStepBelow, SeesAll, ArePlain, IsStore, Holds, Resumes, HasPart, HasOneTemporary, IsSettling, Commits, untold, step_names, steps_held}
use Rattle.state_store.specs.Settling.{IsNextStep}
use Rattle.state_store.proofs.PlainLaws.{has_rows}
use Rattle.state_store.proofs.StepFiles.{none_some, may_all}
use Rattle.state_store.proofs.PartFiles.{part_of, exactly_of, one_of_none, never_early}
use Rattle.state_store.proofs.GroupsAfter.{after_exactly}
use Rattle.state_store.proofs.AcceptLaws.{Ingested, next_batch, names-within, commits_after}
use Rattle.state_store.proofs.ViewLaws.{holds_with}
use Rattle.state_store.proofs.SettlingLaws.{few_steps, hot_same, HasTaken, holds_taken}

-- ---- a list that is held, but for its files

untold_of : {D K : Type 0} (disk : DiskGhosts D) (store : Store D K) (list : ChangeList) → Holds disk store list → Holds (untold disk) store list
untold_of disk store list holds = record {
  valid = holds.valid;
  rows = holds.rows;
  plain = holds.plain;
  next = holds.next;
  content = holds.content;
  size = holds.size;
  complete = holds.complete;
  groups = holds.groups;
  single = holds.single;
  stand = λ f told. absurd (none_some told);
}

holds_of : {D K : Type 0} (disk : DiskGhosts D) (store : Store D K) (list : ChangeList) → Holds (untold disk) store list → ForSome (disk.files store.disk) (HasExactly list (names_for store.sets.current.groups)) → Holds disk store list
holds_of disk store list holds stand = record {
  valid = holds.valid;
  rows = holds.rows;
  plain = holds.plain;
  next = holds.next;
  content = holds.content;
  size = holds.size;
  complete = holds.complete;
  groups = holds.groups;
  single = holds.single;
  stand = stand;
}

-- what holds a list resumes it
pub resumes_of : {D K : Type 0} (disk : DiskGhosts D) (store : Store D K) (list : ChangeList) → Holds disk store list → Resumes disk store list
resumes_of disk store list holds =
    let end = store.sets.current.end in
    let groups = store.sets.current.groups in
    record {
      holds = untold_of disk store list holds;
      part = λ f told. part_of list (names_for groups) (step_names end) f (may_all list end groups holds.complete (few_steps list end holds.valid holds.complete) holds.single) (holds.stand f told);
    }

pub one_now : {D K : Type 0} (disk : DiskGhosts D) (store : Store D K) (list : ChangeList) → Holds disk store list → ForSome (disk.files store.disk) HasOneTemporary
one_now disk store list holds = λ f told. one_of_none f (holds.stand f told).no_temporary

pub resumed_rows : {D K : Type 0} (disk : DiskGhosts D) (store : Store D K) (list : ChangeList) → IfSome store.hot.told (AreVersions store.hot.epoch) → Resumes disk store list → IsSomeAnd store.hot.told (λ h. HasRows h list)
resumed_rows disk store list versions resumes = has_rows list store.hot versions resumes.holds.rows resumes.holds.plain

-- ---- no complete step is without groups

step_past : (n next size : ℕ) → 1 ≤ size → next / size ≤ n → next < (n + 1) * size
step_past n next size from_one least =
    let up : next / size * size ≤ n * size = mul-le (next / size) size n size least (omega arith) in
    let rest : next % size < size = mod_below next size (omega (arith, from_one)) in
    let parts = div-add-mod' next size in
    omega (arith, up, rest, parts)

pub resumes_whole : {D K : Type 0} (disk : DiskGhosts D) (store : Store D K) (list : ChangeList) → 1 ≤ store.size → store.next / store.size ≤ steps_held store → Resumes disk store list → Holds disk store list
resumes_whole disk store list from_one least resumes =
    let end = store.sets.current.end in
    let early : list.next < (end + 1) * list.size = rw (← resumes.holds.next, ← resumes.holds.size) (step_past end store.next store.size from_one least) in
    holds_of disk store list resumes.holds
    (λ f told. exactly_of list (names_for store.sets.current.groups) (step_names end) f (never_early list end early) (resumes.part f told))

-- ---- nothing but pins changed

pub resumes_with : {D K : Type 0} (disk : DiskGhosts D) (store : Store D K) (sets : SetsOf GroupFiles) (list : ChangeList) → sets.current ≡ store.sets.current → Resumes disk store list → Resumes disk (record store { sets = sets }) list
resumes_with disk store sets list same resumes =
    let P : SetOf GroupFiles → Type 0 = λ s. ForSome (disk.files store.disk) (HasPart list (names_for s.groups) (step_names s.end)) in
    record { holds = holds_with (untold disk) store sets list same resumes.holds; part = subst P (sym same) resumes.part }

-- ---- a step that is settled

module _ {D K : Type 0} (old new : Store D K) (same : IsSettling old new) where
  -- no group was taken up
  holds_kept : (disk : DiskGhosts D) (list : ChangeList) → new.sets.current ≡ old.sets.current → ForSome (disk.files new.disk) (HasExactly list (names_for old.sets.current.groups)) → Holds disk old list → Holds disk new list
  holds_kept disk list current stand holds =
      let P : SetOf GroupFiles → Type 0 = λ s. s.end * list.size ≤ list.next in
      let Q : SetOf GroupFiles → Type 0 = λ s. AreGroupsBelow list s.end s.groups in
      let R : SetOf GroupFiles → Type 0 = λ s. All (IsStepBelow s.end) s.groups in
      let S : SetOf GroupFiles → Type 0 = λ s. ForSome (disk.files new.disk) (HasExactly list (names_for s.groups)) in
      record {
        valid = holds.valid;
        rows = hot_same old new same (λ (h : Versions). SeesAll h list) holds.rows;
        plain = hot_same old new same (λ (h : Versions). ForSome h.told ArePlain) holds.plain;
        next = ap (λ (s : Store D K). s.next) same ∙ holds.next;
        content = ap (λ (s : Store D K). s.content) same ∙ holds.content;
        size = ap (λ (s : Store D K). s.size) same ∙ holds.size;
        complete = subst P (sym current) holds.complete;
        groups = subst Q (sym current) holds.groups;
        single = subst R (sym current) holds.single;
        stand = subst S (sym current) stand;
      }

  pub resumes_kept : (disk : DiskGhosts D) (list : ChangeList) → new.sets.current ≡ old.sets.current → ForSome (disk.files new.disk) (HasPart list (names_for old.sets.current.groups) (step_names old.sets.current.end)) → Resumes disk old list → Resumes disk new list
  resumes_kept disk list current part resumes =
      let P : SetOf GroupFiles → Type 0 = λ s. ForSome (disk.files new.disk) (HasPart list (names_for s.groups) (step_names s.end)) in
      record {
        holds = holds_kept (untold disk) list current (λ f told. absurd (none_some told)) resumes.holds;
        part = subst P (sym current) part;
      }

-- the groups of the step were taken up, and its files are there
pub resumed_taken : {D K : Type 0} (disk : DiskGhosts D) (old : Store D K) → steps_held old < old.next / old.size → (most : ℕ) × IsStore most old → (new : Store D K) → IsSettling old new → (added : List GroupFiles) → HasTaken old.sets.current added new.sets.current → (list : ChangeList)
    → IsNextStep list (steps_held old) old.sets.current.groups added → ForSome (disk.files new.disk) (HasExactly list (names_for old.sets.current.groups ++ names_for added)) → Resumes disk old list → Holds disk new list
resumed_taken disk old due sound new same added taken list next stand resumes =
    holds_of disk new list (holds_taken (untold disk) old due sound new same added taken list next (λ f told. absurd (none_some told)) resumes.holds)
    (λ f told. after_exactly list old.sets.current.end old.sets.current.groups added new.sets.current.groups next.is taken.groups resumes.holds.single f (stand f told))

-- ---- a batch that is added while a step is on the disk in part

module _ (list : ChangeList) (batch : List Change) (fits : IsBatch list.next (4096 * list.size) batch) where
  late : All (λ d. list.next ≤ d.tx) batch
  late = AscendFrom-All list.next batch fits.ascend

  may-later : (name : FileName) → MayStand list name → MayStand (grown list batch) name
  may-later name may =
      let up : list.next ≤ next_of list.next batch = next_of-above list.next list.next batch (omega arith) fits.ascend in
      record { built = may.built; complete = at_most may.complete up }
    where
      at_most : {a b c : ℕ} → a ≤ b → b ≤ c → a ≤ c
      at_most h k = omega (arith, h, k)

  file-later : (name : FileName) (o : Option (List ℕ)) → IfSome o (IsFileOf list name) → IfSome o (IsFileOf (grown list batch) name)
  file-later name None h = tt
  file-later name (Some bytes) h = (h.0 ∙ sym (file_bytes-stays list batch name late h.1), may-later name h.1)

  left-later : (next : List FileName) (name : FileName) (o : Option (List ℕ)) → IfSome o (λ _. Contains next name × MayStand list name) → IfSome o (λ _. Contains next name × MayStand (grown list batch) name)
  left-later next name None h = tt
  left-later next name (Some bytes) h = (h.0, may-later name h.1)

  pub part-later : (end : ℕ) (names next : List FileName) (f : Files) → end * list.size ≤ list.next → All (λ n. n.range.to ≤ end) names → HasPart list names next f → HasPart (grown list batch) names next f
  part-later end names next f complete within has = record {
    held = λ k d below. has.held k d below ∙ ap Some (sym (file_bytes-later list batch (get_or names k d) late (covered (get_or names k d).range.to (within k d below))));
    named = λ name is. file-later name (get f (spelled name)) (has.named name is);
    only = has.only;
    temporary = λ name is. left-later next name (get f (temporary_of name)) (has.temporary name is);
  }
    where
      covered : (to : ℕ) → to ≤ end → to * list.size ≤ list.next
      covered to below =
          let up : to * list.size ≤ end * list.size = mul-le to list.size end list.size below (omega arith) in
          omega (arith, up, complete)

pub commits_resumed : {D K : Type 0} (disk : DiskGhosts D) (most : ℕ) (store : Store D K) (hot : Versions) (pending : List Change) (next content : ℕ) → IsBatch 0 (4096 * store.size) pending → begins_from store.next pending ≡ true → store.content + content_of (merged pending) ≤ most
    → Ingested store.hot hot (merged pending) → next ≡ next_of store.next (merged pending) → content ≡ store.content + content_of (merged pending)
    → (list : ChangeList) → Resumes disk store list → Commits (Resumes disk (record store { hot = hot; next = next; content = content })) most list pending (Some (record { changes = length (merged pending); next = next }))
commits_resumed disk most store hot pending next content batch begins small rows is_next counted list resumes =
    let all = commits_after (untold disk) most store hot pending next content batch begins small rows is_next counted list resumes.holds in
    let end = store.sets.current.end in
    let groups = store.sets.current.groups in
    let fits : IsBatch list.next (4096 * list.size) (merged pending) =
    rw (← resumes.holds.next, ← resumes.holds.size) (next_batch store.next (4096 * store.size) pending batch begins) in
    record {
      could = all.could;
      told = all.told;
      grows = record {
        holds = all.grows;
        part = λ f told. part-later list (merged pending) fits end (names_for groups) (step_names end) f resumes.holds.complete (names-within end groups resumes.holds.single) (resumes.part f told);
      };
      same = tt;
    }
