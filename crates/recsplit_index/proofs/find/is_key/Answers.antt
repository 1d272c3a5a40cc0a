use Rattle.std.proofs.Common.{[]}
use Rattle.std.specs.Prelude.{slice_index_or}
use Rattle.recsplit_index.proofs.Sortings.{same_from, same_to}
use Rattle.recsplit_index.proofs.find.is_key.Goals as goal

pub returns-clause-value : goal.returns-clause-value
returns-clause-value g c = λ i place.
    let word = slice_index_or c.args.words.now.words i [] in
    (same_from word c.args.key.now c.compare_at.result c.is_eq.result (c.compare_at.ensures.value i place) c.is_eq.ensures, same_to word c.args.key.now c.compare_at.result c.is_eq.result (c.compare_at.ensures.value i place) c.is_eq.ensures)
