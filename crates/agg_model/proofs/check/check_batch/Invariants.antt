use Rattle.std.proofs.Common.{◌≡◌, ℕ, ◌<◌, drop, get_or}
use Rattle.agg_model.specs.Batch.{IsChange}
use Rattle.agg_model.specs.BatchRefusals.{refusal_from, first_refusal}
use Rattle.agg_model.specs.declared.change.Change.{Change}
use Rattle.agg_model.proofs.check.check_batch.Given as goal

abbrev pub invariant-loop-change : goal.invariant-loop-change
invariant-loop-change l = record {
  left : refusal_from l.least l.last l.far (drop l.change-index l.change-items) ≡ first_refusal l.next l.far l.batch;
  fit : (k : ℕ) (d : Change) → k < l.change-index → IsChange (get_or l.change-items k d);
}
