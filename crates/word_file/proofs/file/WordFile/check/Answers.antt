use Rattle.word_file.proofs.Headers.{one_spelling, read_again}
use Rattle.word_file.proofs.file.WordFile.check.Goals as goal

pub returns-clause-only : goal.returns-clause-only
returns-clause-only c = read_again c.args.bytes c.read_file.result c.read_file.ensures.exact

pub returns-clause-one_spelling : goal.returns-clause-one_spelling
returns-clause-one_spelling c = one_spelling
