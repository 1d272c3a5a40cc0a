-- Which list a store of versioned rows and of sets of groups holds, what its views see, and what each call keeps.
use Rattle.std.specs.Prelude.{◌≡◌, ◌⊎◌, ℕ, ◌+◌, ◌*◌, ◌<◌, ◌≤◌, ◌^◌, true, List, [], ◌∷◌, length, All, Contains, IsTrue}
use Rattle.std.specs.Prelude.{Option, None, IfSome, IfNone, IsSomeAnd, is_some, Result, IsErrOf}
use Rattle.std.specs.Arc.{arc_value}
use Rattle.std.specs.FinMap.{get}
use Rattle.std.specs.Option.{ForSome}
use Rattle.agg_outside.specs.declared.disk.Disk.{Ghosts as DiskGhosts}
use Rattle.agg_outside.specs.Counts.{Rose}
use Rattle.agg_outside.specs.Files.{Files}
use Rattle.agg_outside.specs.Rows.{Held}
use Rattle.agg_outside.specs.declared.rows.Row.{Row}
use Rattle.agg_model.specs.Arranged.{arranged}
use Rattle.agg_model.specs.Batch.{content_of}
use Rattle.agg_model.specs.ChangeList.{ChangeList, IsChangeList, grown, next_of, may_grow}
use Rattle.agg_model.specs.Merged.{merged}
use Rattle.agg_model.specs.declared.change.Change.{Change}
use Rattle.merge_ranges.specs.declared.name.FileName.{FileName}
use Rattle.merge_ranges.specs.Name.{is_name, spelled}
use Rattle.merge_ranges.specs.CanonicalNames.{names_over}
use Rattle.collate_step.specs.Groups.{GroupFiles, AreGroupsBelow, step_range}
use Rattle.row_epochs.specs.Changes.{change_of, changes_seen}
use Rattle.row_epochs.specs.Versions.{Versions}
use Rattle.visible_files.specs.declared.held.HeldGroup.{HeldGroup}
use Rattle.visible_files.specs.Held.{count_of, named_once}
use Rattle.visible_files.specs.Sets.{SetOf}
use Rattle.window_reads.specs.Standing.{Stand}
use Rattle.epoch_window.specs.Seen.{told_from}
use Rattle.agg_core.specs.Files.{HasExactly, HasFile, IsFileOf, KeepsNamed, MayStand, SameOutside, temporary_of}
use Rattle.agg_core.specs.Rows.{HasRows, said_by, said_of}
use Rattle.group_files.specs.NewFiles.{names_for}
use Rattle.state_store.specs.declared.accepting.Accepted.{Accepted}
use Rattle.state_store.specs.declared.stop.Stop.{Stop}
use Rattle.state_store.specs.declared.stop.Stop.TheVariants as stops
use Rattle.state_store.specs.declared.store.Store.{Store}
use Rattle.state_store.specs.declared.view.View.{View}

-- a group over one step below this one
abbrev pub IsStepBelow : ℕ → GroupFiles → Type 0
IsStepBelow end g = (g.range.to ≡ g.range.from + 1) × (g.range.to ≤ end)

-- all rows that the present epoch sees have numbers below this one
abbrev pub AreBelow : ℕ → Versions → Type 0
AreBelow next hot = ForSome hot.told (λ h. All (λ c. c.tx < next) (changes_seen hot.epoch h.rows))

-- the numbers of the store fit, only complete steps have groups, and the rows that its keeper tells are below the next
-- number
pub record IsStore {D K : Type 0} (most : ℕ) (store : Store D K) : Type 0 where
  pub size_from_one : 1 ≤ store.size
  pub size_within : store.size ≤ 2 ^ 32
  pub next_within : store.next ≤ 4096 * store.size
  pub content : store.content ≤ most
  pub complete : store.sets.current.end * store.size ≤ store.next
  pub below : AreBelow store.next store.hot

-- the present epoch sees the list's changes, sorted
abbrev pub SeesAll : Versions → ChangeList → Type 0
SeesAll hot list = IsSomeAnd hot.told (λ h. changes_seen hot.epoch h.rows ≡ arranged list.changes)

-- the row is alive, and says what its change says
abbrev pub IsPlain : Row → Type 0
IsPlain row = (row.killed ≡ 0) × (said_by row ≡ said_of (change_of row))

-- each row is, and the floor is 0
abbrev pub ArePlain : Held → Type 0
ArePlain h = All IsPlain h.rows × (h.floor ≡ 0)

-- The present epoch sees the list's changes, and the numbers are the list's. The groups of the current set are those of
-- its first steps, one step each, and a disk that tells has of the grammar their files and nothing else.
pub record Holds {D K : Type 0} (disk : DiskGhosts D) (store : Store D K) (list : ChangeList) : Type 0 where
  pub valid : IsChangeList list
  pub rows : SeesAll store.hot list
  pub plain : ForSome store.hot.told ArePlain
  pub next : store.next ≡ list.next
  pub content : store.content ≡ content_of list.changes
  pub size : store.size ≡ list.size
  pub complete : store.sets.current.end * list.size ≤ list.next
  pub groups : AreGroupsBelow list store.sets.current.end store.sets.current.groups
  pub single : All (IsStepBelow store.sets.current.end) store.sets.current.groups
  pub stand : ForSome (disk.files store.disk) (HasExactly list (names_for store.sets.current.groups))

-- how many steps the groups cover
abbrev pub steps_held : {D K : Type 0} → Store D K → ℕ
steps_held store = store.sets.current.end

-- a disk has the files of these groups, and of the grammar else only whole files of the list and temporary names of
-- files that aren't there
pub record IsLeft (list : ChangeList) (groups : List GroupFiles) (now : Files) : Type 0 where
  pub held : All (HasFile list now) (names_for groups)
  pub kept : KeepsNamed list now

-- What is left of a store that held the list, however a call has ended: its rows, the groups of its first steps, their
-- files on the disk, and there nothing else of the grammar but whole files and a temporary name.
pub record Keeps {D K : Type 0} (disk : DiskGhosts D) (store : Store D K) (list : ChangeList) : Type 0 where
  pub valid : IsChangeList list
  pub rows : IsSomeAnd store.hot.told (λ h. HasRows h list)
  pub complete : store.sets.current.end * list.size ≤ list.next
  pub groups : AreGroupsBelow list store.sets.current.end store.sets.current.groups
  pub single : All (IsStepBelow store.sets.current.end) store.sets.current.groups
  pub stand : ForSome (disk.files store.disk) (IsLeft list store.sets.current.groups)

-- the names of the files of a step
abbrev pub step_names : ℕ → List FileName
step_names step = names_over (step_range step ∷ [])

-- a disk has these files of the list, and of the grammar else only whole files of the list that have one of the next
-- names, and temporary names of such files
pub record HasPart (list : ChangeList) (names next : List FileName) (now : Files) : Type 0 where
  pub held : All (HasFile list now) names
  pub named : (name : FileName) → IsTrue (is_name name) → IfSome (get now (spelled name)) (IsFileOf list name)
  pub only : (name : FileName) → IsTrue (is_name name) →
      IfSome (get now (spelled name)) (λ _. Contains names name ⊎ Contains next name)
  pub temporary : (name : FileName) → IsTrue (is_name name) →
      IfSome (get now (temporary_of name)) (λ _. Contains next name × MayStand list name)

-- there is a temporary name of at most one file
abbrev pub HasOneTemporary : Files → Type 0
HasOneTemporary now = (a b : FileName) → IsTrue (is_name a) → IsTrue (is_name b) →
    is_some (get now (temporary_of a)) ≡ true → is_some (get now (temporary_of b)) ≡ true → a ≡ b

-- the ghosts of a disk that tells nothing
abbrev pub untold : {D : Type 0} → DiskGhosts D → DiskGhosts D
untold disk = record disk { files = λ _. None }

-- The store holds the list, but that some files of the first step without groups may be on the disk, whole, and
-- temporary names of them: what faults leave, however often a settle has stopped.
pub record Resumes {D K : Type 0} (disk : DiskGhosts D) (store : Store D K) (list : ChangeList) : Type 0 where
  pub holds : Holds (untold disk) store list
  pub part : ForSome (disk.files store.disk)
      (HasPart list (names_for store.sets.current.groups) (step_names (steps_held store)))

-- the set that a view has pinned
abbrev pub set_of : View → SetOf GroupFiles
set_of view = arc_value view.set

-- The view's own groups are the list's up to their end, and of the rows that its epoch sees, those from there on are
-- the list's changes. Nothing is asked of the rows that its files cover.
pub record Sees (hot : Versions) (size : ℕ) (view : View) (list : ChangeList) : Type 0 where
  pub epoch : view.epoch ≤ hot.epoch
  pub stands : Stand list (set_of view).groups (told_from view.epoch ((set_of view).end * list.size) hot) size
      (set_of view).end view.next

-- the files of the view are of steps below its next number
abbrev pub HasView : {D K : Type 0} → Store D K → View → Type 0
HasView store view = (set_of view).end * store.size ≤ view.next

-- how often views that are open pin a name
abbrev pub pins_of : List View → FileName → ℕ
pins_of [] n = 0
pins_of (v ∷ vs) n = named_once (set_of v).ids n + pins_of vs n

-- each name is counted at least as often as these views pin it
abbrev pub ArePinned : List HeldGroup → List View → Type 0
ArePinned held views = (n : FileName) → pins_of views n ≤ count_of held n

-- What each call keeps, whatever it answers: names outside the grammar, the step size, and all that any view sees of
-- any list; groups don't go, and counts of faults don't fall.
pub record Goes {D K : Type 0} (disk : DiskGhosts D) (old new : Store D K) : Type 0 where
  pub outside : SameOutside (disk.files old.disk) (disk.files new.disk)
  pub size : new.size ≡ old.size
  pub end : old.sets.current.end ≤ new.sets.current.end
  pub disk_faults : disk.faults old.disk ≤ disk.faults new.disk
  pub keeper_faults : old.hot.faults ≤ new.hot.faults
  pub sees : (view : View) (list : ChangeList) → Sees old.hot old.size view list → Sees new.hot new.size view list

-- only the disk, the sets and the count of the keeper's faults have changed
abbrev pub IsSettling : {D K : Type 0} → Store D K → Store D K → Type 0
IsSettling old new = new ≡ record old {
  disk = new.disk;
  hot = record old.hot { faults = new.hot.faults };
  sets = new.sets;
}

-- a disk that has no file
abbrev pub HasNoFile : Files → Type 0
HasNoFile f = (text : List ℕ) → get f text ≡ None

-- the list of no change, in steps of this size
abbrev pub no_changes : ℕ → ChangeList
no_changes size = record { changes = []; next = 0; size = size }

-- a device is blamed only where its count of faults rose
pub record HasCauses {T D K : Type 0} (disk : DiskGhosts D) (old new : Store D K) (result : Result T Stop)
    : Type 0 where
  pub of_disk : IsErrOf result stops.Disk → Rose (disk.faults old.disk) (disk.faults new.disk)
  pub of_keeper : IsErrOf result stops.Keeper → Rose old.hot.faults new.hot.faults

-- what a commit answers, and the list of which a fact holds then: the grown one, or the same where it is refused
pub record Commits (Left : ChangeList → Type 0) (most : ℕ) (list : ChangeList) (pending : List Change)
    (answer : Option Accepted) : Type 0 where
  pub could : is_some answer ≡ may_grow most list pending
  pub told : IfSome answer (λ a.
      a ≡ record { changes = length (merged pending); next = next_of list.next (merged pending) })
  pub grows : IfSome answer (λ a. Left (grown list (merged pending)))
  pub same : IfNone answer (Left list)
