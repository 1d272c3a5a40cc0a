use Rattle.agg_core.specs.Names.{complete_steps, single_steps, written_over}
use Rattle.agg_core.proofs.Written.{are_due, complete-small, complete-within}
use Rattle.agg_core.proofs.Kept.{keeps, covers}
use Rattle.agg_core.proofs.Stays.{file_bytes-stays}
use Rattle.agg_core.proofs.laws.file_laws.Goals as goal

pub returns-clause-stays : goal.returns-clause-stays
returns-clause-stays c = file_bytes-stays

pub returns-clause-covers : goal.returns-clause-covers
returns-clause-covers c = λ list now valid has. covers list (complete_steps list) now (complete-small list valid) has.stand

pub returns-clause-keeps : goal.returns-clause-keeps
returns-clause-keeps c = λ list now valid has.
    keeps list (written_over (single_steps (complete_steps list))) now (are_due list (complete_steps list) (complete-small list valid) (complete-within list)) has
