use Rattle.std.proofs.Common.{ℕ, List, ap, ◌∙◌}
use Rattle.agg_outside.specs.Rows.{is_before}
use Rattle.hot_keeper.proofs.KeyLaws.{before_window}
use Rattle.hot_keeper.proofs.keys.into_window.Goals as goal

pub returns-clause-after : goal.returns-clause-after
returns-clause-after c =
    ap (λ (k : List ℕ). is_before c.args.id.now (record { entity = c.args.id.now.entity; key = k; tx = c.args.from; born = 0 })) c.in_ok-key.ensures
    ∙ before_window c.args.id.now c.args.from c.requires
