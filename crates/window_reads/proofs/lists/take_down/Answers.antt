use Rattle.std.proofs.Common.{◌++◌, take, reverse, sym, subst, ◌∙◌, arith}
use Rattle.std.specs.List.{filter}
use Rattle.window_laws.specs.Parts.{is_between}
use Rattle.window_reads.proofs.NumberWalks.{IsDown, down-init, down-low, down-full, down-push}
use Rattle.window_reads.proofs.lists.take_down.Goals.{then-number-a-via-then-number-a, then-number-a-via-else-number-a+then-len-room}
use Rattle.window_reads.proofs.lists.take_down.Goals as goal

pub loop-number-init : goal.loop-number-init
loop-number-init c =
    let a = c.args.a in
    let b = c.args.b in
    let room = c.args.room in
    let out = c.args.out.now in
    let all = c.args.list.now in
    let items = c.into_iter-number-iterator.ensures.into_iter_gives ∙ c.iter_back-number-items.ensures in
    let end = c.end_of-end.ensures in (
      tt,
      tt,
      subst (IsDown a b room (take room (out ++ reverse (filter (is_between a b) all))) out) (sym items)
          (down-init a b room c.end_of-end.result out all c.requires end.ascends end.below end.behind),
    )

pub returns-then-number-a : goal.returns-then-number-a
returns-then-number-a c =
    let out = c.loop-number.out in
    let rest = c.loop-number.number-iterator in
    let all = take c.args.room (c.args.out.now ++ reverse (filter (is_between c.args.a c.args.b) c.args.list.now)) in
    let down = c.loop-number.invariant.2 in
    elim c.then-number-a.branch [
      | then-number-a-via-then-number-a w ↦ down-low c.args.a c.args.b c.args.room all out rest c.in-Some.number c.next.new.self c.in-Some.ensures.steps down (omega (arith, w.if-number-a.true))
      | then-number-a-via-else-number-a+then-len-room w ↦ down-full c.args.a c.args.b c.args.room all out rest down (omega (arith, w.if-len-room.true, w.len.ensures))
    ]

pub loop-number-preserved : goal.loop-number-preserved
loop-number-preserved c =
    let out = c.loop-number.out in
    let rest = c.loop-number.number-iterator in
    let all = take c.args.room (c.args.out.now ++ reverse (filter (is_between c.args.a c.args.b) c.args.list.now)) in (
      tt,
      tt,
      down-push c.args.a c.args.b c.args.room all out rest c.in-Some.number c.next.new.self c.push.new.self c.in-Some.ensures.steps c.in_ok-push.ensures.ok c.loop-number.invariant.2
          (omega (arith, c.if-number-a.false)) (omega (arith, c.if-len-room.false, c.len.ensures)),
    )
