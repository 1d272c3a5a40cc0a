use Rattle.std.proofs.Common.{[], ◌∷◌}
use Rattle.core_run.proofs.NameSets.{without-done, without-step}
use Rattle.core_run.proofs.names.remove_name.Goals as goal

pub returns : goal.returns
returns c =
    let old = c.args.set.now.keys in
    let new = c.remove-there.new.self.keys in
    let name = c.args.name.now in
    without-done old new (name ∷ []) c.len-count.ensures.ordered c.remove-there.ensures.ordered (λ q. without-step old new [] name q (c.remove-there.ensures.updates.0 q))
