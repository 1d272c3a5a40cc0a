use Rattle.std.proofs.Common.{map, refl, ap, sym, subst, ◌∙◌}
use Rattle.std.specs.Arc.{arc_value}
use Rattle.std.specs.Option.{ForSome}
use Rattle.collate_step.specs.Groups.{GroupFiles}
use Rattle.visible_files.specs.Sets.{SetOf}
use Rattle.group_files.specs.NewFiles.{names_for}
use Rattle.state_store.specs.Store.{HasPart, step_names, untold}
use Rattle.state_store.specs.Settling.{IsNextStep, CanAdd, Follows}
use Rattle.state_store.proofs.SettlingLaws.{settled_with, keeps_settled, left_now, on_err, made_next, has_taken, holds_taken}
use Rattle.state_store.proofs.ResumeLaws.{one_now, resumes_kept, resumed_taken}
use Rattle.state_store.proofs.store.Store.settle_step.Goals as goal

pub returns-in_err-groups-clause-err : goal.returns-in_err-groups-clause-err
returns-in_err-groups-clause-err g c = λ list holds.
    let old = c.args.self.now in
    on_err c.from_residual.result _
    (keeps_settled old _ (settled_with old old.disk c.groups_of_step.new.hot old.sets c.in_err-groups.ensures.same) g.D.Disk list c.in_err-groups.ensures.rows refl (left_now g.D.Disk old list holds) holds)

pub returns-in_err-next-clause-err : goal.returns-in_err-next-clause-err
returns-in_err-next-clause-err g c = λ list holds.
    let old = c.args.self.now in
    on_err c.from_residual-in_err-next.result _
    (keeps_settled old _ (settled_with old old.disk c.groups_of_step.new.hot c.prepared.new.sets c.in_ok-groups.ensures.same) g.D.Disk list c.in_ok-groups.ensures.rows c.in_err-next.ensures.current (left_now g.D.Disk old list holds) holds)

pub returns-in_err-publish_step-clause-err : goal.returns-in_err-publish_step-clause-err
returns-in_err-publish_step-clause-err g c = λ list holds.
    let old = c.args.self.now in
    let at = c.end-step.ensures ∙ ap (λ (s : SetOf GroupFiles). s.end) c.current.ensures in
    let below_are = c.groups-below.ensures.value ∙ ap (λ (s : SetOf GroupFiles). s.groups) c.current-2.ensures in
    let added = map (λ a. arc_value a) c.deref-2.result.now in
    let next =
    made_next g.D.Disk old c.requires.due c.requires.sound c.requires.content c.end-step.result at (map (λ a. arc_value a) c.groups-below.result.now) added below_are
    (λ l valid small size sees below. ap (map (λ a. arc_value a)) c.deref-2.ensures.value ∙ c.in_ok-groups.ensures.groups l valid small size sees below) list holds in
    let here = subst (λ n. IsNextStep list n old.sets.current.groups added) (sym at) next in
    on_err c.from_residual-in_err-publish_step.result _
    (keeps_settled old _ (settled_with old c.publish_step.new.disk c.groups_of_step.new.hot c.prepared.new.sets c.in_ok-groups.ensures.same) g.D.Disk list c.in_ok-groups.ensures.rows c.in_ok-next.ensures.current
    (c.in_err-publish_step.ensures.err list old.sets.current.groups here holds.stand) holds)

pub returns-clause-holds : goal.returns-clause-holds
returns-clause-holds g c = λ list holds.
    let old = c.args.self.now in
    let at = c.end-step.ensures ∙ ap (λ (s : SetOf GroupFiles). s.end) c.current.ensures in
    let below_are = c.groups-below.ensures.value ∙ ap (λ (s : SetOf GroupFiles). s.groups) c.current-2.ensures in
    let added = map (λ a. arc_value a) c.deref-2.result.now in
    let next =
    made_next g.D.Disk old c.requires.due c.requires.sound c.requires.content c.end-step.result at (map (λ a. arc_value a) c.groups-below.result.now) added below_are
    (λ l valid small size sees below. ap (map (λ a. arc_value a)) c.deref-2.ensures.value ∙ c.in_ok-groups.ensures.groups l valid small size sees below) list holds in
    let here = subst (λ n. IsNextStep list n old.sets.current.groups added) (sym at) next in
    let same = ap (map (λ a. arc_value a)) (c.deref.ensures.value ∙ sym c.deref-2.ensures.value) in
    let taken =
    has_taken old.sets.current c.prepared.new.sets added c.in_ok-next.next c.publish.new.self.current c.in_ok-next.ensures.current
    (subst (λ gs. Follows c.prepared.new.sets gs c.in_ok-next.next) same c.in_ok-next.ensures.next) (subst (λ gs. CanAdd old.sets.current gs) same c.in_ok-next.ensures.can) c.publish.ensures.current in
    holds_taken g.D.Disk old c.requires.due c.requires.sound _ (settled_with old c.publish_step.new.disk c.groups_of_step.new.hot c.publish.new.self c.in_ok-groups.ensures.same) added taken list next
    (c.in_ok-publish_step.ensures.ok list old.sets.current.groups here holds.stand) holds

pub returns-in_err-groups-clause-one_temporary : goal.returns-in_err-groups-clause-one_temporary
returns-in_err-groups-clause-one_temporary g c = λ list holds. on_err c.from_residual.result _ (one_now g.D.Disk c.args.self.now list holds)

pub returns-in_err-next-clause-one_temporary : goal.returns-in_err-next-clause-one_temporary
returns-in_err-next-clause-one_temporary g c = λ list holds. on_err c.from_residual-in_err-next.result _ (one_now g.D.Disk c.args.self.now list holds)

pub returns-in_err-publish_step-clause-one_temporary : goal.returns-in_err-publish_step-clause-one_temporary
returns-in_err-publish_step-clause-one_temporary g c = λ list holds.
    let old = c.args.self.now in
    let at = c.end-step.ensures ∙ ap (λ (s : SetOf GroupFiles). s.end) c.current.ensures in
    let below_are = c.groups-below.ensures.value ∙ ap (λ (s : SetOf GroupFiles). s.groups) c.current-2.ensures in
    let added = map (λ a. arc_value a) c.deref-2.result.now in
    let next =
    made_next g.D.Disk old c.requires.due c.requires.sound c.requires.content c.end-step.result at (map (λ a. arc_value a) c.groups-below.result.now) added below_are
    (λ l valid small size sees below. ap (map (λ a. arc_value a)) c.deref-2.ensures.value ∙ c.in_ok-groups.ensures.groups l valid small size sees below) list holds in
    let here = subst (λ n. IsNextStep list n old.sets.current.groups added) (sym at) next in
    on_err c.from_residual-in_err-publish_step.result _ (c.in_err-publish_step.ensures.one_temporary list old.sets.current.groups here holds.stand)

pub returns-in_err-groups-clause-stopped : goal.returns-in_err-groups-clause-stopped
returns-in_err-groups-clause-stopped g c = λ list resumes.
    let old = c.args.self.now in
    on_err c.from_residual.result _
    (resumes_kept old _ (settled_with old old.disk c.groups_of_step.new.hot old.sets c.in_err-groups.ensures.same) g.D.Disk list refl resumes.part resumes)

pub returns-in_err-next-clause-stopped : goal.returns-in_err-next-clause-stopped
returns-in_err-next-clause-stopped g c = λ list resumes.
    let old = c.args.self.now in
    on_err c.from_residual-in_err-next.result _
    (resumes_kept old _ (settled_with old old.disk c.groups_of_step.new.hot c.prepared.new.sets c.in_ok-groups.ensures.same) g.D.Disk list c.in_err-next.ensures.current resumes.part resumes)

pub returns-in_err-publish_step-clause-stopped : goal.returns-in_err-publish_step-clause-stopped
returns-in_err-publish_step-clause-stopped g c = λ list resumes.
    let old = c.args.self.now in
    let at = c.end-step.ensures ∙ ap (λ (s : SetOf GroupFiles). s.end) c.current.ensures in
    let below_are = c.groups-below.ensures.value ∙ ap (λ (s : SetOf GroupFiles). s.groups) c.current-2.ensures in
    let added = map (λ a. arc_value a) c.deref-2.result.now in
    let next =
    made_next (untold g.D.Disk) old c.requires.due c.requires.sound c.requires.content c.end-step.result at (map (λ a. arc_value a) c.groups-below.result.now) added below_are
    (λ l valid small size sees below. ap (map (λ a. arc_value a)) c.deref-2.ensures.value ∙ c.in_ok-groups.ensures.groups l valid small size sees below) list resumes.holds in
    let here = subst (λ n. IsNextStep list n old.sets.current.groups added) (sym at) next in
    let part = subst (λ n. ForSome (g.D.Disk.files old.disk) (HasPart list (names_for old.sets.current.groups) (step_names n))) (sym at) resumes.part in
    let left = c.in_err-publish_step.ensures.stopped list old.sets.current.groups here part in
    on_err c.from_residual-in_err-publish_step.result _
    (resumes_kept old _ (settled_with old c.publish_step.new.disk c.groups_of_step.new.hot c.prepared.new.sets c.in_ok-groups.ensures.same) g.D.Disk list c.in_ok-next.ensures.current
    (subst (λ n. ForSome (g.D.Disk.files c.publish_step.new.disk) (HasPart list (names_for old.sets.current.groups) (step_names n))) at left) resumes)

pub returns-clause-resumed : goal.returns-clause-resumed
returns-clause-resumed g c = λ list resumes.
    let old = c.args.self.now in
    let at = c.end-step.ensures ∙ ap (λ (s : SetOf GroupFiles). s.end) c.current.ensures in
    let below_are = c.groups-below.ensures.value ∙ ap (λ (s : SetOf GroupFiles). s.groups) c.current-2.ensures in
    let added = map (λ a. arc_value a) c.deref-2.result.now in
    let next =
    made_next (untold g.D.Disk) old c.requires.due c.requires.sound c.requires.content c.end-step.result at (map (λ a. arc_value a) c.groups-below.result.now) added below_are
    (λ l valid small size sees below. ap (map (λ a. arc_value a)) c.deref-2.ensures.value ∙ c.in_ok-groups.ensures.groups l valid small size sees below) list resumes.holds in
    let here = subst (λ n. IsNextStep list n old.sets.current.groups added) (sym at) next in
    let part = subst (λ n. ForSome (g.D.Disk.files old.disk) (HasPart list (names_for old.sets.current.groups) (step_names n))) (sym at) resumes.part in
    let same = ap (map (λ a. arc_value a)) (c.deref.ensures.value ∙ sym c.deref-2.ensures.value) in
    let taken =
    has_taken old.sets.current c.prepared.new.sets added c.in_ok-next.next c.publish.new.self.current c.in_ok-next.ensures.current
    (subst (λ gs. Follows c.prepared.new.sets gs c.in_ok-next.next) same c.in_ok-next.ensures.next) (subst (λ gs. CanAdd old.sets.current gs) same c.in_ok-next.ensures.can) c.publish.ensures.current in
    resumed_taken g.D.Disk old c.requires.due c.requires.sound _ (settled_with old c.publish_step.new.disk c.groups_of_step.new.hot c.publish.new.self c.in_ok-groups.ensures.same) added taken list next
    (c.in_ok-publish_step.ensures.resumed list old.sets.current.groups here part) resumes
