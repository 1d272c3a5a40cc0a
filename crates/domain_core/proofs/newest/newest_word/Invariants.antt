use Rattle.std.proofs.Common.{◌≡◌, ◌+◌, ◌≤◌, length, take}
use Rattle.agg_model.specs.Pairs.{newest_word}
use Rattle.domain_core.specs.KvFile.{pairs_of_files, words_read}
use Rattle.domain_core.proofs.newest.newest_word.Given as goal

abbrev pub invariant-loop-left : goal.invariant-loop-left
invariant-loop-left g l = record {
  within : l.left ≤ length l.files;
  same : newest_word (pairs_of_files (take l.left l.files)) l.key ≡ newest_word (pairs_of_files l.files) l.key;
  read : l.steps + words_read (take l.left l.files) ≤ l.initial.steps + words_read l.files;
}

abbrev pub decreases-loop-left : goal.decreases-loop-left
decreases-loop-left g l = l.left
