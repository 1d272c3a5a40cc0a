use Rattle.agg_session.proofs.TakingLaws.{none_came}
use Rattle.agg_session.proofs.taking.take_piece.Goals as goal

pub returns-in-Ok-clause-none : goal.returns-in-Ok-clause-none
returns-in-Ok-clause-none g c = λ none.
    none_came (g.I.Source.left c.args.source.now) (g.I.Source.left c.take.new.self) c.take.new.buf c.in-Ok.count _ c.requires c.in-Ok.ensures.moved c.in-Ok.ensures.end none
