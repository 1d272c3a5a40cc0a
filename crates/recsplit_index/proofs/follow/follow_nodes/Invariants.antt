use Rattle.std.proofs.Common.{◌≡◌, []}
use Rattle.recsplit_index.specs.Keys.{hashed_keys}
use Rattle.recsplit_index.specs.InPlace.{behind}
use Rattle.recsplit_index.proofs.Alongside.{IsFollowing}
use Rattle.recsplit_index.proofs.follow.follow_nodes.Given as goal

abbrev pub invariant-loop-group : goal.invariant-loop-group
invariant-loop-group g l = record {
  following : IsFollowing l.bytes (behind l.table) l.tries l.buckets (hashed_keys l.salt l.words.words) l.group-index l.starts l.offsets l.count l.parts.codes;
  emptied : l.parts.offsets.items ≡ [];
}
