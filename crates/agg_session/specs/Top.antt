-- What the top call says of a run.
use Rattle.std.specs.Prelude.{◌≡◌, ℕ, ◌+◌, ◌<◌, ◌≤◌, List, [], ◌++◌, length, IsSomeAnd, Option, Some}
use Rattle.std.specs.Option.{ForSome}
use Rattle.agg_outside.specs.Files.{Files}
use Rattle.agg_outside.specs.Rows.{Held}
use Rattle.agg_model.specs.ChangeList.{ChangeList}
use Rattle.agg_core.specs.Files.{HasWritten, KeepsNamed, Covers}
use Rattle.agg_core.specs.Rows.{HasRows}
use Rattle.agg_core.specs.Names.{complete_steps}
use Rattle.agg_outside.specs.declared.disk.Disk.{Ghosts as DiskGhosts}
use Rattle.command_words.specs.CommandWords.{command_of}
use Rattle.command_words.specs.declared.words.Command.TheVariants.{Run}
use Rattle.line_words.specs.LineCut.{Piece}
use Rattle.state_store.specs.declared.store.Store.{Store}
use Rattle.state_store.specs.Store.{Holds, steps_held}
use Rattle.session_link.specs.declared.limits.Limits.{Limits}
use Rattle.agg_session.specs.declared.status.Status.{Status}
use Rattle.agg_session.specs.declared.status.Status.TheVariants as status
use Rattle.agg_session.specs.declared.ends.LinkEnd.{LinkEnd}
use Rattle.agg_session.specs.declared.ends.LinkEnd.TheVariants as ends
use Rattle.session_link.specs.State.{starting}
use Rattle.agg_session.specs.Answer.{answer, after, joined, replies, state_after, AreSettled, ended_lines, IsPartway}
use Rattle.agg_session.specs.Served.{IsTaken, IsAtEnd, AreDue, EndsLong}

-- the limits of the program
abbrev pub usual_limits : Limits
usual_limits = record { line = 262144; opens = 64; content = 268435456; bytes = 1099511627776 }

-- a list before its first change
abbrev pub empty_list : ℕ → ChangeList
empty_list size = record { changes = []; next = 0; size = size }

-- what a keeper that was never written to holds
abbrev pub empty_held : Held
empty_held = record { rows = []; floor = 0 }

-- how a run ends after its link
abbrev pub status_of : LinkEnd → Status
status_of ends.Done = status.Done
status_of ends.Source = status.SourceFault
status_of ends.Sink = status.SinkFault
status_of ends.Disk = status.DiskFault
status_of ends.Keeper = status.KeeperFault
status_of ends.Long = status.Long
status_of ends.Memory = status.Memory

-- the words ask for a run of this step size
abbrev pub AsksForRun : List (List ℕ) → ℕ → Type 0
AsksForRun words size = (workers : ℕ) × (command_of words ≡ Some (Run size workers))

-- the store holds the list, and all complete steps are in files
pub record IsSettled {D K : Type 0} (disk : DiskGhosts D) (store : Store D K) (list : ChangeList) : Type 0 where
  pub holds : Holds disk store list
  pub all : steps_held store ≡ complete_steps list

-- a keeper that tells has the list's rows
abbrev pub HasRowsOf : Option Held → ChangeList → Type 0
HasRowsOf held list = IsSomeAnd held (λ h. HasRows h list)

-- Keeper and disk are as a run over the list leaves them: all its rows, and of the grammar no files but
-- its own, each whole. The disk is spoken of where it tells.
pub record AreLeft (held : Option Held) (files : Option Files) (list : ChangeList) : Type 0 where
  pub rows : HasRowsOf held list
  pub kept : ForSome files (KeepsNamed list)

-- The source was taken to its end, what was written is the replies to all of it, and all complete steps
-- are in files, and of the grammar nothing else.
pub record EndsWhole (limits : Limits) (list : ChangeList) (left_old left out_old out : Option (List ℕ))
    (held : Option Held) (files : Option Files) : Type 0 where
  pub text : List ℕ
  pub is_taken : IsTaken left_old text left
  pub all : IsAtEnd left_old left
  pub within : length text < limits.bytes
  pub written : ForSome out_old (λ before. out ≡ Some (before ++ answer limits list text))
  pub rows : HasRowsOf held (after limits list text)
  pub stand : ForSome files (HasWritten (after limits list text))

-- The source was taken in part, and what was written is the replies to all lines whose line feed was
-- taken. The first `steps` steps are covered by files, as these replies say.
pub record EndsBetween (limits : Limits) (list : ChangeList) (left_old left out_old out : Option (List ℕ))
    (held : Option Held) (files : Option Files) : Type 0 where
  pub text : List ℕ
  pub is_taken : IsTaken left_old text left
  pub within : length text ≤ limits.bytes
  pub written : ForSome out_old
      (λ before. out ≡ Some (before ++ joined (replies limits 1 (ended_lines limits.line text) (starting list))))
  pub kept : AreLeft held files (state_after limits 1 (ended_lines limits.line text) (starting list)).list
  pub steps : ℕ
  pub settled : AreSettled limits 1 (ended_lines limits.line text) (starting list) steps
  pub covered : ForSome files (Covers steps)

-- The source was taken in part, and what was written is the replies to its first lines and a part of
-- the next one's. The first `steps` steps are covered by files, as the whole replies say.
pub record EndsWithin (limits : Limits) (list : ChangeList) (left_old left out_old out : Option (List ℕ))
    (held : Option Held) (files : Option Files) : Type 0 where
  pub text : List ℕ
  pub is_taken : IsTaken left_old text left
  pub within : length text ≤ limits.bytes
  pub lines : List Piece
  pub due : AreDue limits.line text left_old left lines
  pub steps : ℕ
  pub partway : IsPartway limits (starting list) lines out_old out steps (AreLeft held files)
  pub covered : ForSome files (Covers steps)

-- the statuses of a run that began and was cut short
abbrev pub IsCutShort : Status → Type 0
IsCutShort status.Done = ⊥
IsCutShort status.Usage = ⊥
IsCutShort status.SourceFault = Unit {0}
IsCutShort status.SinkFault = Unit {0}
IsCutShort status.DiskFault = Unit {0}
IsCutShort status.KeeperFault = Unit {0}
IsCutShort status.Memory = Unit {0}
IsCutShort status.Long = Unit {0}

-- those of a run that ended between two lines: its source failed, or as many bytes were taken as may be
abbrev pub IsBetween : ℕ → Option (List ℕ) → Option (List ℕ) → Status → Type 0
IsBetween most left_old left status.Done = ⊥
IsBetween most left_old left status.Usage = ⊥
IsBetween most left_old left status.SourceFault = Unit {0}
IsBetween most left_old left status.SinkFault = ⊥
IsBetween most left_old left status.DiskFault = ⊥
IsBetween most left_old left status.KeeperFault = ⊥
IsBetween most left_old left status.Memory = ⊥
IsBetween most left_old left status.Long = ForSome left_old (λ input. EndsLong most input left)

-- the source tells, and fewer bytes were taken of it than may be
abbrev pub IsShort : ℕ → Option (List ℕ) → Option (List ℕ) → Type 0
IsShort most left_old left = IsSomeAnd left_old (λ input. IsSomeAnd left (λ rest. length input < most + length rest))
