use Rattle.std.proofs.Common.{◌≡◌, ◌⊎◌, ◌+◌, ◌*◌, ℕ, Option, Some, IfSome, IsSomeAnd, refl, sym, ap, ◌∙◌}
use Rattle.agg_outside.specs.Rows.{Held}
use Rattle.row_epochs.specs.Seen.{without_dead}
use Rattle.row_epochs.specs.Versions.{Versions}
use Rattle.row_epochs.proofs.Answering.{tell, fall}
use Rattle.hot_keeper.specs.Pruning.{pruned, epoch_pruned}
use Rattle.prune_rows.proofs.PruneSteps.{after_both, views_after, views_same, views_killed, left_same, left_killed}
use Rattle.prune_rows.proofs.prune.prune_some.Goals as goal

pub returns-in_err-pruned-clause-views : goal.returns-in_err-pruned-clause-views
returns-in_err-pruned-clause-views g c = views_same c.args.hot.now.told c.kill_below.new.self.told c.args.oldest c.args.hot.now.epoch (ap (λ (v : Versions). v.told) c.in_err-pruned.ensures.err)

pub returns-in_err-pruned-clause-err : goal.returns-in_err-pruned-clause-err
returns-in_err-pruned-clause-err g c = left_same c.args.hot.now.told c.kill_below.new.self.told (λ (h : Held). pruned (c.args.hot.now.epoch + 1) (c.args.end * c.args.size) c.args.end c.args.limit h) c.from_residual.result (ap (λ (v : Versions). v.told) c.in_err-pruned.ensures.err)

pub returns-in_err-purge-clause-views : goal.returns-in_err-purge-clause-views
returns-in_err-purge-clause-views g c = views_killed c.args.hot.now.told c.kill_below.new.self.told c.purge.new.self.told c.args.oldest c.args.hot.now.epoch (ap (λ (v : Versions). v.told) c.in_err-purge.ensures.err) c.in_ok-pruned.ensures.earlier

pub returns-in_err-purge-clause-err : goal.returns-in_err-purge-clause-err
returns-in_err-purge-clause-err g c = left_killed c.args.hot.now.told c.kill_below.new.self.told c.purge.new.self.told (λ (h : Held). pruned (c.args.hot.now.epoch + 1) (c.args.end * c.args.size) c.args.end c.args.limit h) c.from_residual-in_err-purge.result (ap (λ (v : Versions). v.told) c.in_err-purge.ensures.err) c.in_ok-pruned.ensures.ok

pub returns-clause-ok : goal.returns-clause-ok
returns-clause-ok g c = after_both c.args.hot.now.told c.kill_below.new.self.told c.purge.new.self.told (λ (h : Held). pruned (c.args.hot.now.epoch + 1) (c.args.end * c.args.size) c.args.end c.args.limit h) (λ (k : Held). record k { rows = without_dead c.args.oldest k.rows }) c.in_ok-pruned.ensures.ok c.in_ok-purge.ensures.ok

pub returns-clause-views : goal.returns-clause-views
returns-clause-views g c = views_after c.args.hot.now.told c.kill_below.new.self.told c.purge.new.self.told c.args.oldest c.args.hot.now.epoch c.in_ok-pruned.ensures.earlier c.in_ok-purge.ensures.later

pub returns-clause-epoch : goal.returns-clause-epoch
returns-clause-epoch g c =
    tell c.args.hot.now.told (λ (h : Held). c.purge.new.self.epoch ≡ epoch_pruned c.args.hot.now.epoch (c.args.end * c.args.size) c.args.end c.args.limit h) (λ h told.
    c.in_ok-purge.ensures.epoch ∙ fall c.args.hot.now.told (λ (x : Held). c.kill_below.new.self.epoch ≡ epoch_pruned c.args.hot.now.epoch (c.args.end * c.args.size) c.args.end c.args.limit x) c.in_ok-pruned.ensures.epoch h told)
