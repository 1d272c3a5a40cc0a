use Rattle.std.proofs.Common.{ℕ, List, rules, subst}
use Rattle.hashed_words.specs.Hashed.{ArePairs}
use Rattle.hashed_words.proofs.Begins.{told_more, begun_more}
use Rattle.hashed_words.proofs.starts.starts_of.Goals.{then-place-eq0+in_ok-push, else-place-eq0}
use Rattle.hashed_words.proofs.starts.starts_of.Goals as goal

pub loop-next-preserved : goal.loop-next-preserved
loop-next-preserved c =
    let words = c.args.words.now.words in
    let l = c.loop-next in
    let pairs : ArePairs words c.if-place-eq0.starts.items =
    elim c.if-place-eq0.branch [
      | then-place-eq0+in_ok-push w ↦
          told_more words l.starts.items c.if-place-eq0.starts.items l.next l.place c.in-Some.at c.requires l.invariant c.in-Some.is
          (search rules)
      | else-place-eq0 w ↦ subst (λ (s : List ℕ). ArePairs words s) (search rules) l.invariant.pairs
    ]
    in
    begun_more words l.starts.items c.if-place-eq0.starts.items l.next c.key_after-next.result l.place c.in-Some.at c.requires l.invariant c.in-Some.is pairs c.key_after-next.ensures
