use Rattle.std.proofs.Common.{min, ap, ◌∙◌}
use Rattle.hot_keeper.proofs.AheadLaws.{cut_at}
use Rattle.hot_keeper.proofs.ahead.cut_off.Goals as goal

pub returns-clause-first : goal.returns-clause-first
returns-clause-first c = c.in_ok-rest.ensures.items ∙ (cut_at c.args.limit c.min-front.result c.args.ids.now.items (c.min-front.ensures ∙ ap (λ n. min c.args.limit n) (c.len.ensures ∙ c.args.ids.now.ok.0))).0

pub returns-clause-rest : goal.returns-clause-rest
returns-clause-rest c = c.in_ok-rest.ensures.tail ∙ (cut_at c.args.limit c.min-front.result c.args.ids.now.items (c.min-front.ensures ∙ ap (λ n. min c.args.limit n) (c.len.ensures ∙ c.args.ids.now.ok.0))).1
