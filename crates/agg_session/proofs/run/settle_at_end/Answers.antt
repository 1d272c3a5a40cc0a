use Rattle.session_link.proofs.StoreLaws.{kept}
use Rattle.agg_session.proofs.run.settle_at_end.Goals as goal

pub returns-in-Ok-clause-cut : goal.returns-in-Ok-clause-cut
returns-in-Ok-clause-cut g c = λ end list holds. kept g.D.Disk _ list (c.in-Ok.ensures.holds list (c.close_all.ensures.holds list holds))
