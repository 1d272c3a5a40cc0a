use Rattle.std.proofs.Common.{◌+◌, length, map, sym, subst}
use Rattle.std.specs.Arc.{arc_value}
use Rattle.collate_step.specs.Groups.{GroupFiles}
use Rattle.visible_files.specs.Ids.{AreCuts}
use Rattle.visible_files.specs.Sets.{SetOf}
use Rattle.visible_files.proofs.Added.{length-map}
use Rattle.state_store.specs.Settling.{CanAdd}
use Rattle.state_store.proofs.SetLaws.{next_cuts, next_extend, follows}
use Rattle.state_store.proofs.steps.prepared.Goals as goal

pub prepare-requires-clause-each : goal.prepare-requires-clause-each
prepare-requires-clause-each c =
    let added = map (λ a. arc_value a) c.args.groups.now in
    let can = subst (λ (s : SetOf GroupFiles). CanAdd s added) c.current.ensures (c.in_ok-can.ensures.can c.if-not-can.false) in
    let cuts = subst (λ (s : SetOf GroupFiles). AreCuts s.ids s.end) c.current.ensures c.in_ok-can.ensures.set.set.cuts in
    next_extend c.reserve.new.self.current c.args.sets.now.current added (map (λ a. arc_value a) c.in_ok-added.added.items) c.in_ok-reserve.ensures.current c.in_ok-added.ensures can cuts

pub prepare-requires-clause-cuts : goal.prepare-requires-clause-cuts
prepare-requires-clause-cuts c =
    let added = map (λ a. arc_value a) c.args.groups.now in
    let can = subst (λ (s : SetOf GroupFiles). CanAdd s added) c.current.ensures (c.in_ok-can.ensures.can c.if-not-can.false) in
    (c.reserve.new.self.current.end + 1, next_cuts c.reserve.new.self.current c.args.sets.now.current added (map (λ a. arc_value a) c.in_ok-added.added.items) c.in_ok-reserve.ensures.current c.in_ok-added.ensures can)

pub returns-clause-next : goal.returns-clause-next
returns-clause-next c =
    let added = map (λ a. arc_value a) c.args.groups.now in
    let can = subst (λ (s : SetOf GroupFiles). CanAdd s added) c.current.ensures (c.in_ok-can.ensures.can c.if-not-can.false) in
    let cuts = subst (λ (s : SetOf GroupFiles). AreCuts s.ids s.end) c.current.ensures c.in_ok-can.ensures.set.set.cuts in
    follows c.args.sets.now c.reserve.new.self added (map (λ a. arc_value a) c.in_ok-added.added.items) (length c.in_ok-added.added.items) c.in_ok-next.next c.in_ok-reserve.ensures.current c.in_ok-added.ensures can cuts
    c.in_ok-reserve.ensures.ok c.in_ok-next.ensures.before c.in_ok-next.ensures.groups c.in_ok-next.ensures.end c.in_ok-next.ensures.added_count
    (sym (length-map (λ a. arc_value a) c.in_ok-added.added.items)) c.in_ok-next.ensures.replaced
