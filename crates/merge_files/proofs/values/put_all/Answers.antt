use Rattle.std.proofs.Common.{◌≡◌, ◌∷◌, [], ◌++◌, true, subst, rules, arith}
use Rattle.merge_files.specs.KeptPairs.{kept_pairs, PutsFirst, PutsNext}
use Rattle.merge_files.proofs.KeptWords.{put-more}
use Rattle.merge_files.proofs.values.put_all.Goals as goal

pub items-preserved : goal.items-preserved
items-preserved c =
    let from = c.args.from in
    let on : c.in_ok-put_next.field-0 ≡ true = first_of (search rules, grind arith) in
    let first : PutsFirst from c.items.walk c.put_next.new.walk c.items.writer c.put_next.new.writer =
    subst (λ t. PutsNext from t c.items.walk c.put_next.new.walk c.items.writer c.put_next.new.writer) on c.in_ok-put_next.ensures in
    let inv = c.items.invariant in
    let more = put-more from c.args.walk.now c.items.walk c.put_next.new.walk c.args.writer.now c.items.writer c.put_next.new.writer inv.pairs first.item first.left inv.left inv.put first.put in
    record { pairs = inv.pairs ++ kept_pairs from (first.item ∷ []); put = more.0; left = more.1 }
