use Rattle.std.proofs.Common.{◌+◌, ◌*◌, sym, ap, subst, ◌∙◌, arith}
use Rattle.word_file.specs.Spelling.{TaggedWords, IsPlace, offset_of}
use Rattle.window_pages.proofs.KeyWalks.{words-long, pair-place, place-pair, past, some_then, none_then}
use Rattle.window_pages.proofs.lists.pair_behind.Goals as goal

pub next-requires : goal.next-requires
next-requires c =
    let ts = c.args.ef.now.lists in
    let place = c.requires.0 in
    (2 * place, subst (λ (f : TaggedWords). IsPlace f.words c.args.at (2 * place)) (sym c.words-words.ensures.words) (pair-place ts c.args.at place c.requires.1))

pub returns-clause-some : goal.returns-clause-some
returns-clause-some c = λ place p.
    let ts = c.args.ef.now.lists in
    let here = subst (λ (f : TaggedWords). IsPlace f.words c.args.at (2 * place)) (sym c.words-words.ensures.words) (pair-place ts c.args.at place p) in
    let behind = c.next-2.ensures.place (2 * place + 1) (c.in-Some.ensures.place (2 * place) here) in
    some_then c.next-2.result _ _ (λ after is. place-pair ts after place (subst (λ (f : TaggedWords). IsPlace f.words after (2 * place + 1 + 1)) c.words-words.ensures.words is)) behind

pub returns-clause-none : goal.returns-clause-none
returns-clause-none c = λ place p.
    let ts = c.args.ef.now.lists in
    let here = subst (λ (f : TaggedWords). IsPlace f.words c.args.at (2 * place)) (sym c.words-words.ensures.words) (pair-place ts c.args.at place p) in
    let value = c.next-2.ensures.value (2 * place + 1) (c.in-Some.ensures.place (2 * place) here) in
    none_then c.next-2.result _ (λ none.
    let short = past ts (2 * place + 1 + 1) (none ∙ value ∙ ap (λ (f : TaggedWords). offset_of f.words (2 * place + 1 + 1)) c.words-words.ensures.words) in
    let long = words-long ts in
    omega (arith, short, long))
