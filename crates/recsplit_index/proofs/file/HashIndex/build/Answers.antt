use Rattle.std.proofs.lemmas.Result.{IfOk-weaker}
use Rattle.recsplit_index.proofs.file.HashIndex.build.Goals as goal

pub returns-clause-of_words : goal.returns-clause-of_words
returns-clause-of_words c = IfOk-weaker c.held.result _ _ (λ x is. (c.args.tries, c.requires.tries, is)) (c.held.ensures _ c.in_ok-layout.ensures)
