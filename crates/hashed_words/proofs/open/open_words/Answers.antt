use Rattle.std.proofs.Common.{◌≡◌, ◌<◌, ◌^◌, length, Some, Err, refl, sym, ap, ◌∙◌, arith}
use Rattle.word_file.specs.declared.error.WordError.{WordError}
use Rattle.hashed_words.specs.declared.error.FileError.TheVariants.{Bad}
use Rattle.hashed_words.specs.Rules.{bad_place}
use Rattle.hashed_words.specs.Faults.{tag_difference}
use Rattle.hashed_words.proofs.Openings.{no_words, other_tag, bad_word, all_stands, no_fault, paired_of, same_tag, fits_of, tag_refused, word_refused, not_accepted}
use Rattle.hashed_words.proofs.open.open_words.Goals as goal

pub returns-in-Err-clause-only : goal.returns-in-Err-clause-only
returns-in-Err-clause-only g c = λ f tag short is keeps.
    let long : length c.args.bytes < 2 ^ 64 = omega (arith, ap length c.as_slice-length.ensures) in
    absurd (not_accepted c.in-Err.error f (c.in-Err.ensures.only f (fits_of f c.args.tag c.args.bytes c.tag_fits.ensures tag short is long) is))

pub returns-in-Err-clause-exact : goal.returns-in-Err-clause-exact
returns-in-Err-clause-exact g c =
    ap (λ at. Err (Bad c.args.kind at)) c.word_fault-at.ensures
    ∙ no_words (g.R.WordRules.rules c.args.rules.now) c.args.kind c.args.tag c.args.bytes c.in-Err.error (sym c.in-Err.ensures.exact)

pub returns-in-Some-clause-only : goal.returns-in-Some-clause-only
returns-in-Some-clause-only g c = λ f tag short is keeps.
    let long : length c.args.bytes < 2 ^ 64 = omega (arith, ap length c.as_slice-length.ensures) in
    absurd (tag_refused f c.in-Ok.words c.args.tag c.tag.result c.in-Some.at WordError (c.in-Ok.ensures.only f (fits_of f c.args.tag c.args.bytes c.tag_fits.ensures tag short is long) is) tag c.tag.ensures c.in-Some.ensures)

pub returns-in-Some-clause-exact : goal.returns-in-Some-clause-exact
returns-in-Some-clause-exact g c =
    other_tag (g.R.WordRules.rules c.args.rules.now) c.args.kind c.args.tag c.args.bytes c.in-Ok.words (sym c.in-Ok.ensures.exact) c.in-Some.at
    (ap (λ t. tag_difference t c.args.tag) (sym c.tag.ensures) ∙ sym c.in-Some.ensures)

pub returns-in-Some-first_bad-clause-only : goal.returns-in-Some-first_bad-clause-only
returns-in-Some-first_bad-clause-only g c = λ f tag short is keeps.
    let long : length c.args.bytes < 2 ^ 64 = omega (arith, ap length c.as_slice-length.ensures) in
    absurd (word_refused (g.R.WordRules.rules c.args.rules.now) f c.in-Ok.words c.in-Some-first_bad.at WordError (c.in-Ok.ensures.only f (fits_of f c.args.tag c.args.bytes c.tag_fits.ensures tag short is long) is) keeps c.in-Some-first_bad.ensures)

pub returns-in-Some-first_bad-clause-exact : goal.returns-in-Some-first_bad-clause-exact
returns-in-Some-first_bad-clause-exact g c =
    bad_word (g.R.WordRules.rules c.args.rules.now) c.args.kind c.args.tag c.args.bytes c.in-Ok.words (sym c.in-Ok.ensures.exact) (Some c.in-Some-first_bad.at)
    (ap (λ t. tag_difference t c.args.tag) (sym c.tag.ensures) ∙ sym c.tag_difference.ensures ∙ c.in_default.is)
    c.in-Some-first_bad.ensures

pub returns-clause-tag : goal.returns-clause-tag
returns-clause-tag g c =
    sym c.tag.ensures ∙ same_tag c.tag.result c.args.tag (sym c.tag_difference.ensures ∙ c.in_default.is)

pub returns-clause-paired : goal.returns-clause-paired
returns-clause-paired g c =
    let r = g.R.WordRules.rules c.args.rules.now in
    paired_of r c.in-Ok.words (no_fault r c.in-Ok.words (bad_place r c.in-Ok.words.words) refl (sym c.in_default-first_bad.is ∙ c.first_bad.ensures))

pub returns-clause-only : goal.returns-clause-only
returns-clause-only g c = λ f tag short is keeps.
    let long : length c.args.bytes < 2 ^ 64 = omega (arith, ap length c.as_slice-length.ensures) in
    let same : c.in-Ok.words ≡ f = cc (c.in-Ok.ensures.only f (fits_of f c.args.tag c.args.bytes c.tag_fits.ensures tag short is long) is) in
    cc

pub returns-clause-exact : goal.returns-clause-exact
returns-clause-exact g c =
    all_stands (g.R.WordRules.rules c.args.rules.now) c.args.kind c.args.tag c.args.bytes c.in-Ok.words (sym c.in-Ok.ensures.exact)
    (ap (λ t. tag_difference t c.args.tag) (sym c.tag.ensures) ∙ sym c.tag_difference.ensures ∙ c.in_default.is)
    (sym c.in_default-first_bad.is ∙ c.first_bad.ensures)
