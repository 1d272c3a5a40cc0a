use Rattle.session_link.proofs.StoreLaws.{kept}
use Rattle.session_link.proofs.session.Session.read.Goals as goal

pub returns-in-Err-Memory-clause-err : goal.returns-in-Err-Memory-clause-err
returns-in-Err-Memory-clause-err g c = λ s stands. kept g.D.Disk c.args.self.now.store s.list stands.list
