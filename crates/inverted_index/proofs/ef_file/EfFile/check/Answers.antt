use Rattle.std.proofs.Common.{◌≡◌, Err, sym, ap, ◌∙◌, subst}
use Rattle.agg_model.specs.declared.entity.FileKind.{FileKind}
use Rattle.agg_model.specs.declared.contents.Times.{Times}
use Rattle.word_file.specs.Spelling.{TaggedWords}
use Rattle.hashed_words.specs.declared.error.FileError.{FileError}
use Rattle.hashed_words.specs.declared.error.FileError.TheVariants.{Bad}
use Rattle.inverted_index.specs.EfFile.{IsHeld, TaggedLists, tagged_lists}
use Rattle.inverted_index.proofs.ListWords.{are_different}
use Rattle.inverted_index.proofs.RuleLaws.{kept_words}
use Rattle.inverted_index.proofs.Acceptances.{seen_spelling, seen_accessor, seen_lists, was_that, no_memory, refused_words, refused_accessor, accepted, words_never_refused, words_those, accessor_those, lists_those}
use Rattle.inverted_index.proofs.ef_file.EfFile.check.Goals as goal

pub returns-in_err-words-clause-only : goal.returns-in_err-words-clause-only
returns-in_err-words-clause-only c = λ ts are same accessor.
    absurd (words_never_refused c.args.tag ts are c.args.ef same c.open_words.result c.in_err-words.field-0.0 c.open_words.ensures.only c.in_err-words.was)

pub returns-in_err-words-clause-exact : goal.returns-in_err-words-clause-exact
returns-in_err-words-clause-exact c = λ kind at that.
    let error : FileError = Bad kind at in
    let was = was_that c.open_words.result c.from_residual.result c.in_err-words.field-0.0 error c.in_err-words.was c.from_residual.ensures.1 that in
    refused_words c.args.tag c.args.ef c.args.efi c.open_words.result c.open_words.ensures.exact error was

pub check-requires-clause-differ : goal.check-requires-clause-differ
check-requires-clause-differ c =
    let f = c.in_ok-words.words in
    are_different f _ (kept_words c.args.tag f c.in_ok-words.ensures.tag c.in_ok-words.ensures.keeps)

pub returns-in_err-held-clause-only : goal.returns-in_err-held-clause-only
returns-in_err-held-clause-only c = λ ts are same accessor.
    let those = words_those c.args.tag ts are c.args.ef same c.open_words.result c.in_ok-words.words c.open_words.ensures.only c.in_ok-words.was in
    let is = accessor_those c.args.tag ts are c.args.ef same c.in_ok-words.words c.args.efi those accessor in
    no_memory c.from_residual-in_err-held.result _ c.in_err-held.field-0.0 c.from_residual-in_err-held.ensures.1 (c.in_err-held.ensures.only is)

pub returns-in_err-held-clause-exact : goal.returns-in_err-held-clause-exact
returns-in_err-held-clause-exact c = λ kind at that.
    let error : FileError = Bad kind at in
    let was = was_that c.check.result c.from_residual-in_err-held.result c.in_err-held.field-0.0 error c.in_err-held.was c.from_residual-in_err-held.ensures.1 that in
    let is = c.check.ensures.kind kind at was in
    let differs = c.check.ensures.exact at (was ∙ ap (λ (k : FileKind). Err (Bad k at)) is) in
    refused_accessor c.args.tag c.args.ef c.args.efi c.open_words.result c.open_words.ensures.exact c.in_ok-words.words kind at c.in_ok-words.was is differs

pub invariant_of-result : goal.invariant_of-result
invariant_of-result c =
    subst IsHeld (sym c.in_ok-held.ensures.ok) (kept_words c.args.tag c.in_ok-words.words c.in_ok-words.ensures.tag c.in_ok-words.ensures.keeps)

pub returns-clause-tag : goal.returns-clause-tag
returns-clause-tag c = ap (λ (w : TaggedWords). w.tag) c.in_ok-held.ensures.ok ∙ c.in_ok-words.ensures.tag

pub returns-clause-lists : goal.returns-clause-lists
returns-clause-lists c =
    let f = c.in_ok-words.words in
    let h = kept_words c.args.tag f c.in_ok-words.ensures.tag c.in_ok-words.ensures.keeps in
    seen_lists c.in_ok-held.held f c.in_ok-held.ensures.ok h c.args.tag c.in_ok-words.ensures.tag

pub returns-clause-found : goal.returns-clause-found
returns-clause-found c =
    let f = c.in_ok-words.words in
    let h = kept_words c.args.tag f c.in_ok-words.ensures.tag c.in_ok-words.ensures.keeps in
    c.in_ok-words.ensures.found ∙ seen_spelling c.in_ok-held.held f c.in_ok-held.ensures.ok h

pub returns-clause-found_accessor : goal.returns-clause-found_accessor
returns-clause-found_accessor c =
    let f = c.in_ok-words.words in
    let h = kept_words c.args.tag f c.in_ok-words.ensures.tag c.in_ok-words.ensures.keeps in
    c.in_ok-held.ensures.found ∙ seen_accessor c.in_ok-held.held f c.in_ok-held.ensures.ok h

pub returns-clause-only : goal.returns-clause-only
returns-clause-only c = λ ts are same accessor.
    let those = words_those c.args.tag ts are c.args.ef same c.open_words.result c.in_ok-words.words c.open_words.ensures.only c.in_ok-words.was in
    lists_those c.args.tag ts are c.args.ef same c.in_ok-held.held (c.in_ok-held.ensures.ok ∙ those)

pub returns-clause-fine : goal.returns-clause-fine
returns-clause-fine c =
    accepted c.args.tag c.args.ef c.args.efi c.open_words.result c.open_words.ensures.exact c.in_ok-words.words c.in_ok-words.was c.in_ok-held.ensures.found
