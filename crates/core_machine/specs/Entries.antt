-- The entries of a history: when each is possible, and the machine after it.
use Rattle.std.specs.Prelude.{◌≡◌, ◌≢◌, ℕ, ◌*◌, ◌/◌, ◌<◌, true, false, List, [], ◌∷◌, ◌++◌, All, IsTrue, if◌then◌else◌, take, length}
use Rattle.std.specs.List.{slice_get}
use Rattle.std.specs.Option.{IfSome}
use Rattle.agg_model.specs.declared.change.Change.{Change}
use Rattle.agg_model.specs.declared.limits.TheConstants.{STEPS_MOST}
use Rattle.agg_model.specs.Batch.{IsBatch, HasNoRepeats}
use Rattle.agg_model.specs.ChangeList.{next_of}
use Rattle.merge_ranges.specs.declared.name.DiskName.{DiskName}
use Rattle.merge_ranges.specs.Name.{is_name, spelled_on_disk}
use Rattle.merge_ranges.specs.CanonicalNames.{canonical_names}
use Rattle.core_machine.specs.declared.entry.Entry.{Entry}
use Rattle.core_machine.specs.declared.entry.Entry.TheVariants.{Ingest, Open, Close, Publish, Stray, Sweep, Settled, Work}
use Rattle.core_machine.specs.declared.machine.Machine.{Machine}
use Rattle.core_machine.specs.declared.machine.Opening.{Opening}
use Rattle.core_machine.specs.Texts.{has, SameNames, with_names, without_names, texts_of}
use Rattle.core_machine.specs.Sound.{is_row, has_row, in_rows}
use Rattle.core_machine.specs.Publishing.{IsPublish}

-- ---- when an entry is possible

-- a batch that may come next, of which no change repeats another
pub record IsIngest (m : Machine) (batch : List Change) : Type 0 where
  pub some : batch ≢ []
  pub next : IsBatch m.next (STEPS_MOST * m.size) batch
  pub no_repeats : HasNoRepeats batch

-- the names are the visible ones, and the caller has no open row of this number
pub record IsOpen (m : Machine) (caller number : ℕ) (names : List (List ℕ)) : Type 0 where
  pub visible : SameNames names m.visible
  pub free : has_row m.opened caller number ≡ false

-- the name is that of a file or a temporary one
abbrev pub IsDiskText : List ℕ → Type 0
IsDiskText text = (name : DiskName) × IsTrue (is_name name.name) × (spelled_on_disk name ≡ text)

-- the name is neither visible nor in an open row
pub record IsUnseen (m : Machine) (name : List ℕ) : Type 0 where
  pub not_visible : has m.visible name ≡ false
  pub in_no_row : in_rows m.opened name ≡ false

pub record IsStrayName (m : Machine) (name : List ℕ) : Type 0 where
  pub unseen : IsUnseen m name
  pub named : IsDiskText name

pub record IsSweep (m : Machine) (name : List ℕ) : Type 0 where
  pub present : has m.present name ≡ true
  pub unseen : IsUnseen m name

-- the names, the visible ones and the canonical ones are the same
pub record IsSettled (m : Machine) (names : List (List ℕ)) : Type 0 where
  pub visible : SameNames names m.visible
  pub canonical : SameNames names (texts_of (canonical_names (m.next / m.size)))

abbrev pub IsPossible : Machine → Entry → Type 0
IsPossible m (Ingest caller batch) = IsIngest m batch
IsPossible m (Open caller number names) = IsOpen m caller number names
IsPossible m (Close caller number) = has_row m.opened caller number ≡ true
IsPossible m (Publish caller added replaced) = IsPublish m.next m.size m.visible added replaced
IsPossible m (Stray caller names) = All (IsStrayName m) names
IsPossible m (Sweep caller name) = IsSweep m name
IsPossible m (Settled caller names) = IsSettled m names
IsPossible m (Work caller) = Unit {0}

-- ---- the machine after an entry

abbrev pub after_ingest : Machine → List Change → Machine
after_ingest m batch = record m { changes = m.changes ++ batch; next = next_of m.next batch }

abbrev pub after_open : Machine → ℕ → ℕ → Machine
after_open m caller number =
    record m { opened = m.opened ++ record { caller = caller; number = number; at = m.next; names = m.visible } ∷ [] }

-- the rows without the caller's of this number
abbrev pub without_row : ℕ → ℕ → List Opening → List Opening
without_row caller number [] = []
without_row caller number (row ∷ rows) = if is_row caller number row then rows else row ∷ without_row caller number rows

abbrev pub after_close : Machine → ℕ → ℕ → Machine
after_close m caller number = record m { opened = without_row caller number m.opened }

abbrev pub after_publish : Machine → List (List ℕ) → List (List ℕ) → Machine
after_publish m added replaced =
    record m { present = with_names m.present added; visible = with_names (without_names m.visible replaced) added }

abbrev pub after_stray : Machine → List (List ℕ) → Machine
after_stray m names = record m { present = with_names m.present names }

abbrev pub after_sweep : Machine → List ℕ → Machine
after_sweep m name = record m { present = without_names m.present (name ∷ []) }

abbrev pub after : Machine → Entry → Machine
after m (Ingest caller batch) = after_ingest m batch
after m (Open caller number names) = after_open m caller number
after m (Close caller number) = after_close m caller number
after m (Publish caller added replaced) = after_publish m added replaced
after m (Stray caller names) = after_stray m names
after m (Sweep caller name) = after_sweep m name
after m (Settled caller names) = m
after m (Work caller) = m

-- ---- lists of entries

-- the machine after all of them
abbrev pub replay : Machine → List Entry → Machine
replay m [] = m
replay m (entry ∷ entries) = replay (after m entry) entries

-- each is possible where it stands
abbrev pub ArePossible : Machine → List Entry → Type 0
ArePossible m [] = Unit {0}
ArePossible m (entry ∷ entries) = IsPossible m entry × ArePossible (after m entry) entries

-- one of the entries opened the row, which has what stood just before it
pub record WasOpened (m : Machine) (entries : List Entry) (row : Opening) : Type 0 where
  pub front : List Entry
  pub names : List (List ℕ)
  pub back : List Entry
  pub parts : entries ≡ front ++ Open row.caller row.number names ∷ back
  pub at : row.at ≡ (replay m front).next
  pub visible : row.names ≡ (replay m front).visible

-- the entry at the place is the first that isn't possible where it stands
pub record IsFirstImpossible (m : Machine) (entries : List Entry) (place : ℕ) : Type 0 where
  pub within : place < length entries
  pub before : ArePossible m (take place entries)
  pub not_there : IfSome (slice_get entries place) (λ entry. IsPossible (replay m (take place entries)) entry → ⊥)
