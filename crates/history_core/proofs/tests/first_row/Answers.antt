use Rattle.std.proofs.Common.{subst}
use Rattle.word_file.specs.Spelling.{TaggedWords, IsPlace}
use Rattle.history_core.proofs.Spelled.{row_of_place}
use Rattle.history_core.proofs.tests.first_row.Goals as goal

pub row_at-requires : goal.row_at-requires
row_at-requires c =
    let there = subst (λ (f : TaggedWords). IsPlace f.words c.in-Some.at 0) c.words.ensures c.in-Some.ensures.place in
    (0, row_of_place c.args.file.now.befores c.in-Some.at 0 there)
