use Rattle.std.proofs.Common.{◌≡◌, ◌∷◌, [], ◌++◌, true, subst, rules, arith}
use Rattle.merge_files.specs.MergedRows.{row_of, PutsFirstRow, PutsNextRow}
use Rattle.merge_files.proofs.RowWords.{rows-more}
use Rattle.merge_files.proofs.history.put_all.Goals as goal

pub items-preserved : goal.items-preserved
items-preserved c =
    let on : c.in_ok-put_next.field-0 ≡ true = first_of (search rules, grind arith) in
    let first : PutsFirstRow c.items.walk c.put_next.new.walk c.items.writer c.put_next.new.writer =
    subst (λ t. PutsNextRow t c.items.walk c.put_next.new.walk c.items.writer c.put_next.new.writer) on c.in_ok-put_next.ensures in
    let inv = c.items.invariant in
    let more = rows-more c.args.walk.now c.items.walk c.put_next.new.walk c.args.writer.now c.items.writer c.put_next.new.writer inv.rows first.item first.left inv.left inv.put first.put in
    record { rows = inv.rows ++ row_of first.item ∷ []; put = more.0; left = more.1 }
