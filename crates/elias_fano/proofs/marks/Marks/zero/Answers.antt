use Rattle.std.proofs.Common.{◌*◌}
use Rattle.std.specs.Prelude.{slice_index}
use Rattle.elias_fano.proofs.Marked.{mark_below, zero_found}
use Rattle.elias_fano.proofs.marks.Marks.zero.Goals as goal

pub before_zero-mark-requires-clause-few : goal.before_zero-mark-requires-clause-few
before_zero-mark-requires-clause-few c = λ j lt. mark_below c.args.upper.now (j * c.args.self.now.block) (slice_index c.args.self.now.ones j) (c.requires.ones j lt)

pub overflow_sub-from : goal.overflow_sub-from
overflow_sub-from c =
    let j = c.before_zero-mark.result in
    mark_below c.args.upper.now (j * c.args.self.now.block) (slice_index c.args.self.now.ones j) (c.requires.ones j c.before_zero-mark.ensures.inside)

pub returns-clause-found : goal.returns-clause-found
returns-clause-found c =
    let j = c.before_zero-mark.result in
    zero_found c.args.upper.now (j * c.args.self.now.block) (slice_index c.args.self.now.ones j) c.args.k c.select_zero_from.result (c.requires.ones j c.before_zero-mark.ensures.inside) c.before_zero-mark.ensures.low c.select_zero_from.ensures.found
