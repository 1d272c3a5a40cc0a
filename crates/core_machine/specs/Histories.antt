-- Histories: entries with what stood after each turn, and which of them are legal.
use Rattle.std.specs.Prelude.{◌≡◌, ◌⊎◌, ℕ, ◌*◌, ◌/◌, ◌≤◌, ◌==◌, Bool, true, false, List, [], ◌∷◌, ◌++◌, map, All, IsTrue, if◌then◌else◌, None}
use Rattle.std.specs.List.{list_any}
use Rattle.agg_model.specs.declared.entity.Entity.{Entity}
use Rattle.agg_model.specs.declared.entity.Entity.TheVariants.{Accounts}
use Rattle.agg_model.specs.declared.entity.Range.{Range}
use Rattle.agg_model.specs.declared.limits.TheConstants.{STEPS_MOST}
use Rattle.agg_model.specs.Entity.{entity_number}
use Rattle.agg_model.specs.declared.change.Change.{Change}
use Rattle.agg_model.specs.ChangeList.{ChangeList, grown}
use Rattle.merge_ranges.specs.declared.name.FileName.{FileName}
use Rattle.merge_ranges.specs.Name.{is_name, spelled}
use Rattle.merge_ranges.specs.Cut.{end_of, next_merge_of}
use Rattle.core_machine.specs.declared.entry.Entry.{Entry}
use Rattle.core_machine.specs.declared.entry.Entry.TheVariants.{Ingest, Open, Close, Publish, Stray, Sweep, Settled, Work}
use Rattle.core_machine.specs.declared.machine.Machine.{Machine}
use Rattle.core_machine.specs.Texts.{SameNames}
use Rattle.core_machine.specs.Sound.{list_of, IsSound}
use Rattle.core_machine.specs.Publishing.{parts_from}
use Rattle.core_machine.specs.Entries.{IsPossible, after, replay}

-- what a claim is for
pub data Task : Type 0 where
  Collating : ℕ → Task
  Merging : Entity → Range → Task

pub record Claim : Type 0 where
  pub caller : ℕ
  pub task : Task

-- what stands after a turn, besides the machine
pub record Facts : Type 0 where
  -- the counts of faults of disk and keeper
  pub disk : ℕ
  pub keeper : ℕ
  pub epoch : ℕ
  pub floor : ℕ
  -- alive rows below the end, and killed rows
  pub low : ℕ
  pub dead : ℕ
  pub claimed : List Claim
  pub stopped : Bool

pub record WrittenFile : Type 0 where
  pub name : List ℕ
  pub bytes : List ℕ

pub record Record : Type 0 where
  pub entry : Entry
  pub facts : Facts
  -- the added files of a publish
  pub files : List WrittenFile

-- what a history begins with
pub record Start : Type 0 where
  pub machine : Machine
  pub facts : Facts

pub record IsStart (start : Start) : Type 0 where
  pub sound : IsSound start.machine
  pub no_rows : start.machine.opened ≡ []
  pub present : SameNames start.machine.present start.machine.visible
  pub no_claims : start.facts.claimed ≡ []
  pub not_stopped : start.facts.stopped ≡ false

abbrev pub caller_of : Entry → ℕ
caller_of (Ingest caller batch) = caller
caller_of (Open caller number names) = caller
caller_of (Close caller number) = caller
caller_of (Publish caller added replaced) = caller
caller_of (Stray caller names) = caller
caller_of (Sweep caller name) = caller
caller_of (Settled caller names) = caller
caller_of (Work caller) = caller

abbrev pub entries_of : List Record → List Entry
entries_of history = map (λ (r : Record). r.entry) history

-- the machine after a history
abbrev pub replay_of : Start → List Record → Machine
replay_of start history = replay start.machine (entries_of history)

-- what stands after a history: what stood at the start, where it is empty
abbrev pub facts_from : Facts → List Record → Facts
facts_from facts [] = facts
facts_from facts (r ∷ rs) = facts_from r.facts rs

-- ---- idle records

-- the ranges of the entity's visible groups, from step 0 on
unfoldable pub cut_of : List (List ℕ) → Entity → List Range
cut_of visible e = parts_from STEPS_MOST visible e 0 STEPS_MOST

abbrev pub is_collating : Task → Bool
is_collating (Collating step) = true
is_collating (Merging e r) = false

-- the ranges of this entity that the tasks merge
abbrev pub merging_of : Entity → Task → List Range
merging_of e (Collating step) = []
merging_of e (Merging f r) = if entity_number e == entity_number f then r ∷ [] else []

abbrev pub busy_of : Entity → List Claim → List Range
busy_of e [] = []
busy_of e (c ∷ cs) = merging_of e c.task ++ busy_of e cs

-- A collation is claimed, or the step at the end isn't complete; and there is nothing to merge that isn't claimed.
pub record IsIdle (m : Machine) (claimed : List Claim) : Type 0 where
  pub collated : (list_any (λ (c : Claim). is_collating c.task) claimed ≡ true) ⊎ (m.next / m.size ≤ end_of (cut_of m.visible Accounts))
  pub merged : (e : Entity) → next_merge_of (cut_of m.visible e) (busy_of e claimed) ≡ None

-- ---- legal histories; `bytes` is what a named file of a list holds

-- the files are those that the publish added, each with the list's bytes
pub record AreFilesOf (bytes : ChangeList → FileName → List ℕ) (list : ChangeList) (added : List (List ℕ)) (files : List WrittenFile) : Type 0 where
  pub names : SameNames (map (λ (f : WrittenFile). f.name) files) added
  pub each : All (λ (f : WrittenFile). (name : FileName) → IsTrue (is_name name) → f.name ≡ spelled name → f.bytes ≡ bytes list name) files

abbrev pub HasBytes : (ChangeList → FileName → List ℕ) → ChangeList → Entry → List WrittenFile → Type 0
HasBytes bytes list (Ingest caller batch) files = Unit {0}
HasBytes bytes list (Open caller number names) files = Unit {0}
HasBytes bytes list (Close caller number) files = Unit {0}
HasBytes bytes list (Publish caller added replaced) files = AreFilesOf bytes list added files
HasBytes bytes list (Stray caller names) files = Unit {0}
HasBytes bytes list (Sweep caller name) files = Unit {0}
HasBytes bytes list (Settled caller names) files = Unit {0}
HasBytes bytes list (Work caller) files = Unit {0}

-- where solo, caller 0 alone ingests
abbrev pub IsByFirst : Bool → Entry → Type 0
IsByFirst solo (Ingest caller batch) = solo ≡ true → caller ≡ 0
IsByFirst solo (Open caller number names) = Unit {0}
IsByFirst solo (Close caller number) = Unit {0}
IsByFirst solo (Publish caller added replaced) = Unit {0}
IsByFirst solo (Stray caller names) = Unit {0}
IsByFirst solo (Sweep caller name) = Unit {0}
IsByFirst solo (Settled caller names) = Unit {0}
IsByFirst solo (Work caller) = Unit {0}

pub record IsLegalRecord (bytes : ChangeList → FileName → List ℕ) (solo : Bool) (m : Machine) (r : Record) : Type 0 where
  pub possible : IsPossible m r.entry
  pub written : HasBytes bytes (list_of m) r.entry r.files
  pub first : IsByFirst solo r.entry

abbrev pub IsLegalFrom : (ChangeList → FileName → List ℕ) → Bool → Machine → List Record → Type 0
IsLegalFrom bytes solo m [] = Unit {0}
IsLegalFrom bytes solo m (r ∷ rs) = IsLegalRecord bytes solo m r × IsLegalFrom bytes solo (after m r.entry) rs

abbrev pub IsLegal : (ChangeList → FileName → List ℕ) → Bool → Start → List Record → Type 0
IsLegal bytes solo start history = IsLegalFrom bytes solo start.machine history

-- later changes leave the bytes of names of complete steps alone
abbrev pub AreLasting : (ChangeList → FileName → List ℕ) → Type 0
AreLasting bytes = (list : ChangeList) (batch : List Change) (name : FileName) → All (λ d. list.next ≤ d.tx) batch →
    name.range.to * list.size ≤ list.next → bytes (grown list batch) name ≡ bytes list name
