use Rattle.std.proofs.Common.{◌∙◌}
use Rattle.agg_model.specs.Entity.{entity_number}
use Rattle.collate_step.proofs.EntityRuns.{split}
use Rattle.collate_step.proofs.runs.split_run.Goals as goal

pub returns-clause-run : goal.returns-clause-run
returns-clause-run c =
    λ order low.
    c.split_at.ensures.front
    ∙ (split (entity_number c.args.entity) c.run_length.result c.args.changes.now order low c.run_length.ensures.within c.run_length.ensures.run c.run_length.ensures.ends).run

pub returns-clause-rest : goal.returns-clause-rest
returns-clause-rest c =
    λ order low.
    c.split_at.ensures.back
    ∙ (split (entity_number c.args.entity) c.run_length.result c.args.changes.now order low c.run_length.ensures.within c.run_length.ensures.run c.run_length.ensures.ends).rest
