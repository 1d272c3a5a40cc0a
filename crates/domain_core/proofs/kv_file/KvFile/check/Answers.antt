use Rattle.std.proofs.Common.{◌≡◌, Err, sym, ap, ◌∙◌, subst}
use Rattle.word_file.specs.Spelling.{TaggedWords}
use Rattle.word_file.specs.Reading.{tagged}
use Rattle.hashed_words.specs.declared.error.FileError.TheVariants.{Bad}
use Rattle.domain_core.specs.KvFile.{tagged_pairs, words_of, pairs_in, AreFilesOf}
use Rattle.domain_core.proofs.Held.{held_paired, held_differ}
use Rattle.domain_core.proofs.Faults.{Err-same, Ok-same, not_both, words_fault, btree_fault, index_fault, files_found, kv_text, bt_text, kvi_text}
use Rattle.domain_core.proofs.kv_file.KvFile.check.Goals as goal

pub returns-in-Err-clause-only : goal.returns-in-Err-clause-only
returns-in-Err-clause-only c = λ file are.
    let text = kv_text c.args.tag c.args.kv c.args.bt c.args.kvi file are in
    absurd (not_both c.in-Err.error (tagged c.args.tag (words_of file.pairs)) (c.in-Err.ensures.only file.pairs are.pairs_are text))

pub returns-in-Err-clause-exact : goal.returns-in-Err-clause-exact
returns-in-Err-clause-exact c = λ kind at e.
    let same : c.in-Err.error ≡ Bad kind at = Err-same c.in-Err.error (Bad kind at) e in
    words_fault c.args.tag c.args.kv c.args.bt c.args.kvi (Bad kind at) (ap (λ x. Err x) (sym same) ∙ c.in-Err.ensures.exact)

pub open_bt-requires : goal.open_bt-requires
open_bt-requires c = held_paired c.in-Ok.words.words c.in-Ok.ensures.words

pub returns-in-Err-open_bt-clause-only : goal.returns-in-Err-open_bt-clause-only
returns-in-Err-open_bt-clause-only c = λ file are.
    let whole = tagged c.args.tag (words_of file.pairs) in
    let text = kv_text c.args.tag c.args.kv c.args.bt c.args.kvi file are in
    let same : c.in-Ok.words ≡ whole = Ok-same c.in-Ok.words whole (c.in-Ok.ensures.only file.pairs are.pairs_are text) in
    absurd (not_both c.in-Err-open_bt.error _ (c.in-Err-open_bt.ensures.only (bt_text c.args.tag c.args.kv c.args.bt c.args.kvi file are c.in-Ok.words same)))

pub returns-in-Err-open_bt-clause-exact : goal.returns-in-Err-open_bt-clause-exact
returns-in-Err-open_bt-clause-exact c = λ kind at e.
    let same : c.in-Err-open_bt.error ≡ Bad kind at = Err-same c.in-Err-open_bt.error (Bad kind at) e in
    btree_fault c.args.tag c.args.kv c.args.bt c.args.kvi c.in-Ok.words c.in-Ok.ensures.exact (Bad kind at) (c.in-Err-open_bt.ensures.exact kind at (ap (λ x. Err x) same))

pub check-requires-clause-paired : goal.check-requires-clause-paired
check-requires-clause-paired c = held_paired c.in-Ok.words.words c.in-Ok.ensures.words

pub check-requires-clause-differ : goal.check-requires-clause-differ
check-requires-clause-differ c = held_differ c.in-Ok.words.words c.in-Ok.ensures.words

pub returns-in-Ok-check-clause-found : goal.returns-in-Ok-check-clause-found
returns-in-Ok-check-clause-found c =
    subst (AreFilesOf c.args.tag c.args.kv c.args.bt c.args.kvi)
    (sym (c.of_parts.ensures ∙ ap (λ (f : TaggedWords). tagged_pairs f.tag (pairs_in f.words)) c.in-Ok-check.ensures.ok))
    (files_found c.args.tag c.args.kv c.args.bt c.args.kvi c.in-Ok.words c.in-Ok.ensures.words c.in-Ok.ensures.tag c.in-Ok.ensures.found c.in-Ok-open_bt.ensures.found c.in-Ok-check.ensures.found)

pub returns-in-Err-check-clause-only : goal.returns-in-Err-check-clause-only
returns-in-Err-check-clause-only c = λ file are.
    let whole = tagged c.args.tag (words_of file.pairs) in
    let text = kv_text c.args.tag c.args.kv c.args.bt c.args.kvi file are in
    let same : c.in-Ok.words ≡ whole = Ok-same c.in-Ok.words whole (c.in-Ok.ensures.only file.pairs are.pairs_are text) in
    c.in-Err-check.ensures.only (kvi_text c.args.tag c.args.kv c.args.bt c.args.kvi file are c.in-Ok.words same)

pub returns-in-Err-check-clause-exact : goal.returns-in-Err-check-clause-exact
returns-in-Err-check-clause-exact c = λ kind at e.
    let same : c.in-Err-check.error ≡ Bad kind at = Err-same c.in-Err-check.error (Bad kind at) e in
    let kind_is = c.in-Err-check.ensures.kind kind at (ap (λ x. Err x) same) in
    index_fault c.args.tag c.args.kv c.args.bt c.args.kvi c.in-Ok.words c.in-Ok.ensures.exact c.in-Ok-open_bt.ensures.found kind at kind_is
    (c.in-Err-check.ensures.exact at (ap (λ x. Err x) (same ∙ ap (λ k. Bad k at) kind_is)))
