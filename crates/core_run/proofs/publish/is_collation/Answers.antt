use Rattle.std.proofs.Common.{[], ◌/◌, Bool}
use Rattle.std.proofs.lemmas.Bool.{false≢true}
use Rattle.std.proofs.lemmas.Result.{IfOk-weaker}
use Rattle.std.specs.Bool.{Decides}
use Rattle.core_machine.specs.Publishing.{IsCollation}
use Rattle.core_run.specs.Publishes.{IsStep}
use Rattle.core_run.proofs.Candidates.{no-collation, collation-decides}
use Rattle.core_run.proofs.publish.is_collation.Goals as goal

pub returns-in_default : goal.returns-in_default
returns-in_default c = (
  λ e. absurd (false≢true e),
  λ is. absurd (no-collation c.args.next c.args.size c.requires.some c.requires.within c.args.visible.now.keys c.args.added.now c.in_default.ensures.only [] is),
)

pub returns : goal.returns
returns c =
    let visible = c.args.visible.now.keys in
    let added = c.args.added.now in
    IfOk-weaker c.is_step.result (λ (b : Bool). Decides b (IsStep (c.args.next / c.args.size) visible added c.in-Some.name.range.from))
    (λ (b : Bool). Decides b (IsCollation c.args.next c.args.size visible added []))
    (λ b d. collation-decides c.args.next c.args.size c.requires.some c.requires.within visible added b c.in-Some.name c.in-Some.ensures.only d) c.is_step.ensures
