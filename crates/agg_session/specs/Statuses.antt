-- The exit status of the program, and its words on standard error.
use Rattle.std.specs.Prelude.{ℕ, List, codes, Option, Some, None}
use Rattle.agg_session.specs.declared.status.Status.{Status}
use Rattle.agg_session.specs.declared.status.Status.TheVariants as status
use Rattle.command_words.specs.declared.words.WordsError.{WordsError}
use Rattle.command_words.specs.declared.words.WordsError.TheVariants as words

-- how a run ends whose words couldn't be read
abbrev pub status_of_words : WordsError → Status
status_of_words words.Usage = status.Usage
status_of_words words.Memory = status.Memory

abbrev pub exit_number : Status → ℕ
exit_number status.Done = 0
exit_number status.Usage = 1
exit_number status.SourceFault = 3
exit_number status.SinkFault = 4
exit_number status.DiskFault = 5
exit_number status.KeeperFault = 6
exit_number status.Memory = 7
exit_number status.Long = 9

abbrev pub error_words : Status → Option (List ℕ)
error_words status.Done = None
error_words status.Usage = Some (codes "aggregator: usage")
error_words status.SourceFault = Some (codes "aggregator: source fault")
error_words status.SinkFault = Some (codes "aggregator: sink fault")
error_words status.DiskFault = Some (codes "aggregator: disk fault")
error_words status.KeeperFault = Some (codes "aggregator: keeper fault")
error_words status.Memory = Some (codes "aggregator: out of memory")
error_words status.Long = Some (codes "aggregator: input too long")
