use Rattle.std.proofs.Common.{refl}
use Rattle.state_store.proofs.ViewLaws.{sees_opened, holds_with, sound_with, view_has}
use Rattle.state_store.proofs.ResumeLaws.{resumes_with}
use Rattle.state_store.proofs.store.Store.open.Goals as goal

pub returns-in_err-set-clause-sound : goal.returns-in_err-set-clause-sound
returns-in_err-set-clause-sound g c = λ most sound. sound_with c.args.self.now c.pin.new.self most c.in_err-set.ensures.current sound

pub returns-in_err-set-clause-holds : goal.returns-in_err-set-clause-holds
returns-in_err-set-clause-holds g c = λ list holds. holds_with g.D.Disk c.args.self.now c.pin.new.self list c.in_err-set.ensures.current holds

pub returns-clause-sees : goal.returns-clause-sees
returns-clause-sees g c = λ list holds.
    sees_opened g.D.Disk c.args.self.now list holds (record { next = c.args.self.now.next; epoch = c.epoch.result; set = c.in_ok-set.set }) refl c.epoch.ensures.epoch c.in_ok-set.ensures.set

pub returns-clause-sound : goal.returns-clause-sound
returns-clause-sound g c = λ most sound. sound_with c.args.self.now c.pin.new.self most c.in_ok-set.ensures.current sound

pub returns-clause-holds : goal.returns-clause-holds
returns-clause-holds g c = λ list holds. holds_with g.D.Disk c.args.self.now c.pin.new.self list c.in_ok-set.ensures.current holds

pub returns-clause-has : goal.returns-clause-has
returns-clause-has g c = λ most sound.
    view_has c.args.self.now (record c.args.self.now { sets = c.pin.new.self }) most (record { next = c.args.self.now.next; epoch = c.epoch.result; set = c.in_ok-set.set }) refl sound refl c.in_ok-set.ensures.set

pub returns-in_err-set-clause-resumes : goal.returns-in_err-set-clause-resumes
returns-in_err-set-clause-resumes g c = λ list resumes. resumes_with g.D.Disk c.args.self.now c.pin.new.self list c.in_err-set.ensures.current resumes

pub returns-clause-resumes : goal.returns-clause-resumes
returns-clause-resumes g c = λ list resumes. resumes_with g.D.Disk c.args.self.now c.pin.new.self list c.in_ok-set.ensures.current resumes
