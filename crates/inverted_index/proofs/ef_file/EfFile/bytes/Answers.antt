use Rattle.std.proofs.Common.{ap, ◌∙◌}
use Rattle.word_file.specs.Spelling.{spelling}
use Rattle.inverted_index.specs.EfFile.{ef_spelling}
use Rattle.inverted_index.proofs.Acceptances.{held_spelling}
use Rattle.inverted_index.proofs.ef_file.EfFile.bytes.Goals as goal

pub returns : goal.returns
returns c =
    c.bytes.ensures.spelled ∙ ap spelling c.words.ensures ∙ held_spelling c.self.inside.held c.self.invariant ∙ ap ef_spelling c.self.view_is
