use Rattle.state_store.proofs.ViewLaws.{holds_with, sound_with}
use Rattle.state_store.proofs.ResumeLaws.{resumes_with}
use Rattle.state_store.proofs.store.Store.close.Goals as goal

pub returns-clause-sound : goal.returns-clause-sound
returns-clause-sound g c = λ most sound. sound_with c.args.self.now c.unpin.new.self most c.unpin.ensures.current sound

pub returns-clause-holds : goal.returns-clause-holds
returns-clause-holds g c = λ list holds. holds_with g.D.Disk c.args.self.now c.unpin.new.self list c.unpin.ensures.current holds

pub returns-clause-resumes : goal.returns-clause-resumes
returns-clause-resumes g c = λ list resumes. resumes_with g.D.Disk c.args.self.now c.unpin.new.self list c.unpin.ensures.current resumes
