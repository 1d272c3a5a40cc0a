use Rattle.std.proofs.Common.{arith}
use Rattle.session_link.proofs.SessionLaws.{numbered, not_numbered, numbered_sound}
use Rattle.session_link.proofs.session.Session.set_number.Goals as goal

pub returns-in-Ok-clause-exact : goal.returns-in-Ok-clause-exact
returns-in-Ok-clause-exact g c = λ s stands.
    numbered _ c.args.self.now _ _ c.args.number s stands (omega (arith, c.size.ensures)) c.in-Ok.ensures.refused c.in-Ok.ensures.set

pub returns-in-Ok-clause-sound : goal.returns-in-Ok-clause-sound
returns-in-Ok-clause-sound g c = λ limits sound.
    numbered_sound limits c.args.self.now _ _ c.args.number (omega (arith, c.size.ensures)) c.in-Ok.ensures.below c.in-Ok.ensures.above c.in-Ok.ensures.set sound

pub returns-in-Err-clause-exact : goal.returns-in-Err-clause-exact
returns-in-Err-clause-exact g c = λ s stands.
    not_numbered _ c.args.self.now _ _ c.args.number c.in-Err.refusal s stands (omega (arith, c.size.ensures)) c.in-Err.ensures.refused c.in-Err.ensures.unchanged
