-- What one entry did to the running machine.
use Rattle.std.specs.Prelude.{◌≡◌, Bool, true, false, List}
use Rattle.core_machine.specs.declared.entry.Entry.{Entry}
use Rattle.core_machine.specs.declared.machine.Machine.{Machine}
use Rattle.core_machine.specs.Entries.{IsPossible, after, IsFirstImpossible}
use Rattle.core_run.specs.declared.error.CoreError.{CoreError}
use Rattle.core_run.specs.declared.error.CoreError.TheVariants.{NotLegal, Memory}

-- it was taken, and the machine is the one after it; or it isn't possible
abbrev pub Steps : Machine → Entry → Machine → Bool → Type 0
Steps m entry n true = IsPossible m entry × (n ≡ after m entry)
Steps m entry n false = IsPossible m entry → ⊥

-- why the entries weren't run: one isn't possible, and it is the first; of want of memory nothing is said
abbrev pub IsRefused : Machine → List Entry → CoreError → Type 0
IsRefused m entries (NotLegal place) = IsFirstImpossible m entries place
IsRefused m entries Memory = Unit {0}
