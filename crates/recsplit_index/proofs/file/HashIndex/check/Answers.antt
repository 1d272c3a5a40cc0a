use Rattle.std.proofs.Common.{◌≡◌, List, ℕ, Some, sym, ap, ◌∙◌}
use Rattle.word_file.specs.Difference.{first_difference}
use Rattle.word_file.proofs.Differences.{first_difference-same}
use Rattle.recsplit_index.specs.Spelling.{spelling}
use Rattle.recsplit_index.specs.Index.{index_of}
use Rattle.recsplit_index.proofs.Comparisons.{compared_same, compared_apart}
use Rattle.recsplit_index.proofs.file.HashIndex.check.Goals as goal

pub hold-requires : goal.hold-requires
hold-requires c =
    let x = index_of c.args.tries c.args.words.now.words in
    (x, c.in_ok-compared.ensures.shape_is, compared_same c.args.bytes c.as_slice-text.result.now c.in_ok-compared.compared x c.in_ok-compared.ensures c.as_slice-text.ensures c.in-None.is)

pub returns-in-None-clause-ok : goal.returns-in-None-clause-ok
returns-in-None-clause-ok c =
    let x = index_of c.args.tries c.args.words.now.words in
    c.hold.ensures x c.in_ok-compared.ensures.shape_is (compared_same c.args.bytes c.as_slice-text.result.now c.in_ok-compared.compared x c.in_ok-compared.ensures c.as_slice-text.ensures c.in-None.is)

pub returns-in-None-clause-of_words : goal.returns-in-None-clause-of_words
returns-in-None-clause-of_words c =
    let x = index_of c.args.tries c.args.words.now.words in
    (c.args.tries, c.requires.tries, c.hold.ensures x c.in_ok-compared.ensures.shape_is (compared_same c.args.bytes c.as_slice-text.result.now c.in_ok-compared.compared x c.in_ok-compared.ensures c.as_slice-text.ensures c.in-None.is))

pub returns-in-None-clause-found : goal.returns-in-None-clause-found
returns-in-None-clause-found c =
    let x = index_of c.args.tries c.args.words.now.words in
    compared_same c.args.bytes c.as_slice-text.result.now c.in_ok-compared.compared x c.in_ok-compared.ensures c.as_slice-text.ensures c.in-None.is

pub returns-in-Some-clause-only : goal.returns-in-Some-clause-only
returns-in-Some-clause-only c = λ same.
    let x = index_of c.args.tries c.args.words.now.words in
    let apart = compared_apart c.args.bytes c.as_slice-text.result.now c.in_ok-compared.compared x c.in-Some.at c.in_ok-compared.ensures c.as_slice-text.ensures c.in-Some.is in
    let none = sym apart ∙ ap (λ (b : List ℕ). first_difference b (spelling x)) same ∙ first_difference-same (spelling x) in
    absurd cc

pub returns-in-Some-clause-exact : goal.returns-in-Some-clause-exact
returns-in-Some-clause-exact c = λ at e.
    let x = index_of c.args.tries c.args.words.now.words in
    let same : c.in-Some.at ≡ at = cc in
    compared_apart c.args.bytes c.as_slice-text.result.now c.in_ok-compared.compared x c.in-Some.at c.in_ok-compared.ensures c.as_slice-text.ensures c.in-Some.is ∙ ap (λ (k : ℕ). Some k) same
