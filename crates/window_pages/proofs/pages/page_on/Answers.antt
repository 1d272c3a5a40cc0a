use Rattle.std.proofs.Common.{◌++◌, List, Some, length, map, sym, ap, subst, ◌∙◌, arith, append_assoc}
use Rattle.std.specs.Option.{option_to_list}
use Rattle.agg_model.specs.declared.page.PageRow.{PageRow}
use Rattle.window_pages.specs.Asking.{rows_for}
use Rattle.window_pages.specs.Looks.{rows_behind, IsLooked}
use Rattle.window_pages.specs.Places.{moved}
use Rattle.window_pages.proofs.Places.{from-itself, places-stay}
use Rattle.window_pages.proofs.PageRows.{page-ended, taken-full, taken-on, stand-later}
use Rattle.window_pages.proofs.pages.page_on.Goals as goal

pub loop-look-init : goal.loop-look-init
loop-look-init g c = record {
  later = g.met.W.Window.later_self c.args.window.now;
  short = omega (arith, ap length c.new-rows.ensures);
  left = λ list groups stand domain are. record {
    before = c.args.start;
    from = from-itself c.args.start;
    are = are;
    left = ap (λ (l : List PageRow). l ++ rows_for list c.args.entity c.args.asked.now (Some c.args.start)) c.new-rows.ensures;
  };
}

pub returns-in_default-clause-page : goal.returns-in_default-clause-page
returns-in_default-clause-page g c = λ list groups stand domain are.
    let e = c.args.entity in
    let q = c.args.asked.now in
    let at = c.loop-look in
    let W = g.W.Window in
    let old = c.args.window.now in
    let mid = at.window in
    let laws = g.met.W.Window in
    let later = at.invariant.later in
    let then = stand-later list e groups c.args.size (W.changes old) (W.changes mid) (W.first_step old) (W.first_step mid) (W.next_number old) (W.next_number mid)
    (laws.same_changes old mid later) (laws.same_step old mid later) (laws.same_number old mid later) stand in
    let way = at.invariant.left list groups stand domain are in
    let there = c.in_ok-found.ensures.moved ∙ ap (map (moved at.first)) way.are ∙ places-stay way.before at.first way.from groups in
    let looks = c.in_ok-found.ensures.rows list groups then domain there in
    let all = rows_for list e q (Some c.args.start) in
    let none = looks.rows ∙ ap (rows_behind list e q) c.in_default.is in
    page-ended c.args.limit at.rows (rows_for list e q (Some at.first)) all at.invariant.short none way.left

pub returns-then-is_some-clause-page : goal.returns-then-is_some-clause-page
returns-then-is_some-clause-page g c = λ list groups stand domain are.
    let e = c.args.entity in
    let q = c.args.asked.now in
    let at = c.loop-look in
    let W = g.W.Window in
    let old = c.args.window.now in
    let mid = at.window in
    let laws = g.met.W.Window in
    let later = at.invariant.later in
    let then = stand-later list e groups c.args.size (W.changes old) (W.changes mid) (W.first_step old) (W.first_step mid) (W.next_number old) (W.next_number mid)
    (laws.same_changes old mid later) (laws.same_step old mid later) (laws.same_number old mid later) stand in
    let way = at.invariant.left list groups stand domain are in
    let there = c.in_ok-found.ensures.moved ∙ ap (map (moved at.first)) way.are ∙ places-stay way.before at.first way.from groups in
    let looks = c.in_ok-found.ensures.rows list groups then domain there in
    let all = rows_for list e q (Some c.args.start) in
    let looked = c.in-Some.looked in
    let found = looks.rows ∙ ap (rows_behind list e q) c.in-Some.is in
    taken-full c.args.limit at.rows c.take_row.new.rows (rows_for list e q (Some looked.behind)) all looked.row c.in_ok-more.more at.invariant.short c.in_ok-more.ensures.ok (sym c.is_some.ensures ∙ c.if-is_some.true)
    (ap (λ (l : List PageRow). at.rows ++ l) (sym found) ∙ way.left)

pub loop-look-preserved : goal.loop-look-preserved
loop-look-preserved g c =
    let on = taken-on c.args.limit c.loop-look.rows c.take_row.new.rows c.in-Some.looked.row c.in_ok-more.more c.in_ok-more.ensures.ok (sym c.is_some.ensures ∙ c.if-is_some.false) in
    record {
      later = g.met.W.Window.later_chain c.args.window.now c.loop-look.window c.look_from.new.window c.loop-look.invariant.later c.in_ok-found.ensures.later;
      short = on.0;
      left = λ list groups stand domain are.
          let e = c.args.entity in
          let q = c.args.asked.now in
          let at = c.loop-look in
          let W = g.W.Window in
          let old = c.args.window.now in
          let mid = at.window in
          let laws = g.met.W.Window in
          let later = at.invariant.later in
          let then = stand-later list e groups c.args.size (W.changes old) (W.changes mid) (W.first_step old) (W.first_step mid) (W.next_number old) (W.next_number mid)
          (laws.same_changes old mid later) (laws.same_step old mid later) (laws.same_number old mid later) stand in
          let way = at.invariant.left list groups stand domain are in
          let there = c.in_ok-found.ensures.moved ∙ ap (map (moved at.first)) way.are ∙ places-stay way.before at.first way.from groups in
          let looks = c.in_ok-found.ensures.rows list groups then domain there in
          let all = rows_for list e q (Some c.args.start) in
          let looked = c.in-Some.looked in
          let next = subst (IsLooked list e q at.first) c.in-Some.is looks in
          let rest = rows_for list e q (Some looked.behind) in
          record {
            before = at.first;
            from = next.from;
            are = there;
            left =
                ap (λ (l : List PageRow). l ++ rest) on.1
                ∙ append_assoc at.rows (option_to_list looked.row) rest
                ∙ ap (λ (l : List PageRow). at.rows ++ l) (sym next.rows)
                ∙ way.left;
          };
    }
