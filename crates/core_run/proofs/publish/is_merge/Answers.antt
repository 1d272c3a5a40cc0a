use Rattle.std.proofs.Common.{Bool}
use Rattle.std.proofs.lemmas.Bool.{false≢true}
use Rattle.std.proofs.lemmas.Result.{IfOk-weaker}
use Rattle.std.specs.Bool.{Decides}
use Rattle.core_machine.specs.Publishing.{IsMerge}
use Rattle.core_run.specs.Publishes.{IsMergeTo}
use Rattle.core_run.proofs.Candidates.{no-merge, merge-decides, name-aligned}
use Rattle.core_run.proofs.publish.is_merge.Goals as goal

pub returns-in_default : goal.returns-in_default
returns-in_default c =
    (λ e. absurd (false≢true e), λ is. absurd (no-merge c.args.visible.now.keys c.args.added.now c.args.replaced.now c.in_default.ensures.only is))

pub returns : goal.returns
returns c =
    let visible = c.args.visible.now.keys in
    let added = c.args.added.now in
    let replaced = c.args.replaced.now in
    let name = c.in-Some.name in
    IfOk-weaker c.is_merge_to.result (λ (b : Bool). Decides b (IsMergeTo visible added replaced name.entity name.range)) (λ (b : Bool). Decides b (IsMerge visible added replaced))
    (λ b d. merge-decides visible added replaced b name c.in-Some.ensures.only (name-aligned name c.in-Some.ensures.name) d) c.is_merge_to.ensures
