use Rattle.std.proofs.Common.{◌≡◌, ◌∷◌, [], ◌++◌, Some, subst, rules, arith}
use Rattle.merge_files.specs.MergedLists.{times_of, PutsFirstList, PutsNextList}
use Rattle.merge_files.proofs.NumberWords.{lists-more}
use Rattle.merge_files.proofs.numbers.put_all.Goals as goal

pub items-preserved : goal.items-preserved
items-preserved c =
    let total = c.in-Some.total in
    let first : PutsFirstList c.items.counted total c.items.walk c.put_next.new.walk c.items.writer c.put_next.new.writer =
    subst (λ o. PutsNextList c.items.counted o c.items.walk c.put_next.new.walk c.items.writer c.put_next.new.writer) c.in-Some.is c.in_ok-total.ensures in
    let inv = c.items.invariant in
    let more = lists-more c.args.walk.now c.items.walk c.put_next.new.walk 0 c.items.counted total c.args.writer.now c.items.writer c.put_next.new.writer inv.lists first.item first.left inv.left inv.put first.put in
    record { few = first.put.few; lists = inv.lists ++ times_of first.item ∷ []; put = more.0; left = more.1 }
