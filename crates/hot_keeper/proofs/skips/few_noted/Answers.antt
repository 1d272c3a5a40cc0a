use Rattle.std.proofs.Common.{arith, sym}
use Rattle.hot_keeper.proofs.SkipLaws.{among_noted, noted_some}
use Rattle.hot_keeper.proofs.skips.few_noted.Goals as goal

pub returns-clause-among : goal.returns-clause-among
returns-clause-among c = λ rows noted kills.
    among_noted c.in-Some.kept c.in_ok-ids.ids.items c.args.last_kill c.args.epoch c.args.numbers.from c.args.numbers.to rows (omega (arith, c.if-epoch-last_kill.false))
    (noted_some c.args.notes.now c.in-Some.kept rows c.in-Some.is noted) kills c.in_ok-ids.ensures.all
