use Rattle.hot_keeper.proofs.SkipLaws.{next_itself}
use Rattle.hot_keeper.proofs.skips.next_look.Goals as goal

pub returns-in_default : goal.returns-in_default
returns-in_default c = λ epoch from to rows among. next_itself c.args.place epoch from to rows
