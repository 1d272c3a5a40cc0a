use Rattle.std.proofs.Common.{refl}
use Rattle.core_run.proofs.Empty.{empty-sound}
use Rattle.core_run.proofs.tests.empty.Goals as goal

pub returns : goal.returns
returns c = empty-sound _ c.requires.some c.requires.within c.new-changes.ensures refl c.new-opened.ensures c.new-present.ensures c.new-visible.ensures
