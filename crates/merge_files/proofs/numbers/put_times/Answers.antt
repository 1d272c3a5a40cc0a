use Rattle.std.proofs.Common.{◌≡◌, ◌<◌, ◌^◌, List, ℕ, length, sym, ◌∙◌, ap, subst, arith}
use Rattle.std.specs.List.Sorted.{IsNonDecreasing}
use Rattle.elias_fano.specs.Spelling.{spelling}
use Rattle.inverted_index.proofs.TextLaws.{listable, text_of_numbers}
use Rattle.merge_files.proofs.numbers.put_times.Goals as goal

pub encode-requires-clause-ascends : goal.encode-requires-clause-ascends
encode-requires-clause-ascends c =
    let items = c.args.times.now.items in
    let few : length items < 2 ^ 64 = omega (arith, c.requires.few) in
    subst IsNonDecreasing (sym c.as_slice.ensures) (listable c.args.writer.now.tag items c.requires.times.numbers few).ascends

pub push-requires-2 : goal.push-requires-2
push-requires-2 c =
    let items = c.args.times.now.items in
    let same = c.as_slice-3.ensures ∙ c.in_ok-text.ensures ∙ ap spelling c.as_slice.ensures in
    subst (λ text. length text < 2 ^ 32) (sym same) (text_of_numbers c.args.writer.now.tag items c.requires.times.numbers c.requires.few).short
