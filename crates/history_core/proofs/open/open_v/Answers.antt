use Rattle.std.proofs.Common.{refl, subst}
use Rattle.file_numbers.proofs.Numbers.{AreBytes}
use Rattle.word_file.specs.Reading.{tagged}
use Rattle.history_core.specs.KeyWord.{words_of}
use Rattle.history_core.proofs.Spelled.{AreShort-words_of}
use Rattle.history_core.proofs.Checked.{befores_keep}
use Rattle.history_core.proofs.Opened.{opened_held, all_three}
use Rattle.history_core.proofs.open.open_v.Goals as goal

pub returns-clause-held : goal.returns-clause-held
returns-clause-held c =
    let fits : AreBytes c.args.v = subst AreBytes c.as_slice.ensures c.slice_fits.ensures in
    all_three c.open_words.result _ _ _ _ (λ f tag_is found keeps. opened_held c.args.tag c.args.v f fits tag_is found keeps) c.open_words.ensures.tag c.open_words.ensures.found c.open_words.ensures.keeps

pub returns-clause-only : goal.returns-clause-only
returns-clause-only c =
    λ bs are spelled.
    c.open_words.ensures.only (tagged c.args.tag (words_of bs)) refl (AreShort-words_of c.args.tag bs are.fit) spelled (befores_keep c.args.tag bs are)
