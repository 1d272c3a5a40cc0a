use Rattle.recsplit_index.proofs.KeyLists.{empty_more}
use Rattle.recsplit_index.proofs.keys.empty_groups.Goals as goal

pub loop-bucket-preserved : goal.loop-bucket-preserved
loop-bucket-preserved c = empty_more c.args.buckets c.loop-bucket.groups.items c.push.new.self.items c.in_ok-group.group c.loop-bucket.bucket c.loop-bucket.invariant c.in_ok-push.ensures.items c.in_ok-group.ensures.items
