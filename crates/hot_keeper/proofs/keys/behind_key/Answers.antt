use Rattle.std.proofs.Common.{ℕ, List, ap, ◌∙◌, arith}
use Rattle.agg_outside.specs.Rows.{is_before}
use Rattle.hot_keeper.proofs.KeyLaws.{before_past}
use Rattle.hot_keeper.proofs.keys.behind_key.Goals as goal

pub returns-clause-after : goal.returns-clause-after
returns-clause-after c =
    ap (λ (k : List ℕ). is_before c.args.id.now (record { entity = c.args.id.now.entity; key = k; tx = 18446744073709551615; born = 18446744073709551615 })) c.in_ok-key.ensures
    ∙ before_past c.args.id.now 18446744073709551615 (omega arith) (omega arith)
