use Rattle.std.proofs.Common.{◌≤◌, ◌++◌, take, sym, subst, ◌∙◌, arith}
use Rattle.std.specs.List.{filter}
use Rattle.window_laws.specs.Parts.{is_between}
use Rattle.window_reads.proofs.NumberWalks.{IsUp, up-none, up-init, up-high, up-full, up-push}
use Rattle.window_reads.proofs.lists.take_up.Goals.{then-number-b-via-then-number-b, then-number-b-via-else-number-b+then-len-room}
use Rattle.window_reads.proofs.lists.take_up.Goals as goal

pub returns-in_default : goal.returns-in_default
returns-in_default c = up-none c.args.a c.args.b c.args.room c.args.out.now c.args.list.now c.requires c.in_default.ensures.none

pub loop-number-init : goal.loop-number-init
loop-number-init c =
    let a = c.args.a in
    let b = c.args.b in
    let room = c.args.room in
    let out = c.args.out.now in
    let all = c.args.list.now in
    let items = c.into_iter-number-iterator.ensures.into_iter_gives ∙ c.iter_from-number-items.ensures in
    let found = c.in-Some.ensures.found in (
      tt,
      tt,
      subst (IsUp a b room (take room (out ++ filter (is_between a b) all)) out) (sym items)
          (up-init a b room c.in-Some.place out all c.requires c.len-count.ensures.ascends found.0 (subst (λ y. a ≤ y) found.1 found.2) c.in-Some.ensures.first),
    )

pub returns-then-number-b : goal.returns-then-number-b
returns-then-number-b c =
    let out = c.loop-number.out in
    let rest = c.loop-number.number-iterator in
    let all = take c.args.room (c.args.out.now ++ filter (is_between c.args.a c.args.b) c.args.list.now) in
    let up = c.loop-number.invariant.2 in
    elim c.then-number-b.branch [
      | then-number-b-via-then-number-b w ↦ up-high c.args.a c.args.b c.args.room all out rest c.in-Some-number.number c.next.new.self c.in-Some-number.ensures.steps up (omega (arith, w.if-number-b.true))
      | then-number-b-via-else-number-b+then-len-room w ↦ up-full c.args.a c.args.b c.args.room all out rest up (omega (arith, w.if-len-room.true, w.len.ensures))
    ]

pub loop-number-preserved : goal.loop-number-preserved
loop-number-preserved c =
    let out = c.loop-number.out in
    let rest = c.loop-number.number-iterator in
    let all = take c.args.room (c.args.out.now ++ filter (is_between c.args.a c.args.b) c.args.list.now) in (
      tt,
      tt,
      up-push c.args.a c.args.b c.args.room all out rest c.in-Some-number.number c.next.new.self c.push.new.self c.in-Some-number.ensures.steps c.in_ok-push.ensures.ok c.loop-number.invariant.2
          (omega (arith, c.if-number-b.false)) (omega (arith, c.if-len-room.false, c.len.ensures)),
    )
