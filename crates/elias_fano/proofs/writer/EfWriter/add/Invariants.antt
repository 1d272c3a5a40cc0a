use Rattle.std.proofs.Common.{◌≡◌, ◌++◌}
use Rattle.elias_fano.specs.Writing.{Writing}
use Rattle.elias_fano.proofs.writer.EfWriter.add.Given as goal

abbrev pub invariant-loop-item : goal.invariant-loop-item
invariant-loop-item l =
    (goal.iterator-loop-item).can_next l.item-iterator ×
    (goal.iterator-loop-item).is_finite l.item-iterator ×
    (l.self.count ≡ l.fn.self.count) × (l.self.last ≡ l.fn.self.last) × (l.self.items ++ l.item-iterator ≡ l.fn.self.items ++ l.part)
