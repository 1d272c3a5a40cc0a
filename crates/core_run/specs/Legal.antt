-- Legal histories whose files have the bytes of the list.
use Rattle.std.specs.Prelude.{Bool, List}
use Rattle.agg_core.specs.Bytes.{file_bytes}
use Rattle.core_machine.specs.Histories.{Record, Start, IsLegal}

-- each entry is possible where it stands, and each file that a publish adds has the bytes that the list there gives
abbrev pub IsLegalHistory : Bool → Start → List Record → Type 0
IsLegalHistory solo start history = IsLegal file_bytes solo start history
