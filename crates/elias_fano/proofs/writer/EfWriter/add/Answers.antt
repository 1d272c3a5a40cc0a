use Rattle.std.proofs.Common.{◌≡◌, ◌++◌, ◌∷◌, ap, sym, ◌∙◌}
use Rattle.elias_fano.proofs.Written.{next-up}
use Rattle.elias_fano.proofs.writer.EfWriter.add.Goals as goal

pub put-requires-clause-ascends : goal.put-requires-clause-ascends
put-requires-clause-ascends c =
    let items = c.loop-item.self.items in
    next-up items c.next.new.self _ c.in-Some.item c.requires.ascends (ap (λ xs. items ++ xs) (sym c.in-Some.ensures.steps) ∙ c.loop-item.invariant.4)
