use Rattle.std.proofs.Common.{◌≡◌, ◌+◌, ◌≤◌, drop, length, vec_len, vec_capacity}
use Rattle.visible_files.specs.Ids.{added_ids}
use Rattle.visible_files.specs.Held.{Adds}
use Rattle.visible_files.proofs.held.add_visible.Given as goal

abbrev pub invariant-loop-id : goal.invariant-loop-id
invariant-loop-id l = record {
  adds : Adds l.before l.initial.held.items l.held.items l.after (drop l.id-index l.after);
  len : vec_len l.held + length (added_ids l.before (drop l.id-index l.after)) ≡ vec_len l.initial.held + length (added_ids l.before l.after);
  capacity : vec_capacity l.initial.held ≤ vec_capacity l.held;
}
