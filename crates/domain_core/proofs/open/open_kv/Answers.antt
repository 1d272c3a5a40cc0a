use Rattle.std.proofs.Common.{refl}
use Rattle.std.proofs.lemmas.Result.{IfOk-weaker}
use Rattle.word_file.specs.Reading.{tagged}
use Rattle.domain_core.specs.KvFile.{words_of}
use Rattle.domain_core.proofs.Standing.{stand_words, words_stand, are_short}
use Rattle.domain_core.proofs.open.open_kv.Goals as goal

pub returns-clause-words : goal.returns-clause-words
returns-clause-words c = IfOk-weaker c.open_words.result _ _ (λ f keeps. stand_words f.words keeps) c.open_words.ensures.keeps

pub returns-clause-only : goal.returns-clause-only
returns-clause-only c = λ ps are is.
    c.open_words.ensures.only (tagged c.args.tag (words_of ps)) refl (are_short ps are) is (words_stand ps are)
