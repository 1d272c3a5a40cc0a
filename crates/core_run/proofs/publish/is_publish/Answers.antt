use Rattle.std.proofs.Common.{Bool, List, [], ℕ, sym, ◌∙◌, subst}
use Rattle.std.proofs.lemmas.List.{nil_from_length}
use Rattle.std.proofs.lemmas.Result.{IfOk-weaker}
use Rattle.std.specs.Bool.{Decides}
use Rattle.core_machine.specs.Publishing.{IsCollation, IsPublish}
use Rattle.core_run.proofs.Candidates.{publish-nothing}
use Rattle.core_run.proofs.publish.is_publish.Goals as goal

pub returns-then-len-eq0 : goal.returns-then-len-eq0
returns-then-len-eq0 c =
    let next = c.args.next in
    let size = c.args.size in
    let visible = c.args.visible.now.keys in
    let added = c.args.added.now in
    let none = nil_from_length c.args.replaced.now (sym c.len.ensures ∙ c.if-len-eq0.true) in
    IfOk-weaker c.is_collation.result (λ (b : Bool). Decides b (IsCollation next size visible added [])) (λ (b : Bool). Decides b (IsPublish next size visible added c.args.replaced.now))
    (λ b d. subst (λ (l : List (List ℕ)). Decides b (IsPublish next size visible added l)) (sym none) (publish-nothing next size visible added b d)) c.is_collation.ensures
