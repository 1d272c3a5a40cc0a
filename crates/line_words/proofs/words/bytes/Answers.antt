use Rattle.std.proofs.Common.{◌≡◌, sym, ap, ◌∙◌, refl, inr, false, true, codes, ◌<◌}
use Rattle.std.specs.Str.{bytes_eq}
use Rattle.hex.proofs.HexLemmas.{decode_of-ok}
use Rattle.std.proofs.lemmas.Result.{err_from_is_err_and}
use Rattle.std.proofs.lemmas.List.Elements.{All-from_get_or}
use Rattle.line_words.proofs.Numerals.{bytes_of_word-dash, bytes_of_word-empty, bytes_of_word-hex, bytes_of_word-refused}
use Rattle.line_words.proofs.words.bytes.Goals as goal

pub returns-then-eq-clause-exact : goal.returns-then-eq-clause-exact
returns-then-eq-clause-exact c =
    let dash : bytes_eq c.args.word.now (codes "-") ≡ true = ap (bytes_eq c.args.word.now) (sym c.as_slice.ensures) ∙ sym c.if-eq.ensures in
    rw (bytes_of_word-dash c.args.word.now dash, c.from_vec.ensures, c.new.ensures.items) refl

pub returns-then-is_empty-clause-exact : goal.returns-then-is_empty-clause-exact
returns-then-is_empty-clause-exact c =
    let other : bytes_eq c.args.word.now (codes "-") ≡ false = ap (bytes_eq c.args.word.now) (sym c.as_slice.ensures) ∙ sym c.if-eq.ensures in
    inr (rw (bytes_of_word-empty c.args.word.now other (sym c.if-is_empty.ensures)) refl)

pub returns-in_err-decode-clause-exact : goal.returns-in_err-decode-clause-exact
returns-in_err-decode-clause-exact c =
    let other : bytes_eq c.args.word.now (codes "-") ≡ false = ap (bytes_eq c.args.word.now) (sym c.as_slice.ensures) ∙ sym c.if-eq.ensures in
    let p = err_from_is_err_and c.from_residual.result c.from_residual.ensures.1 in
    rw (p.1, p.2) (bytes_of_word-refused c.args.word.now other (sym c.if-is_empty.ensures) _ c.in_err-decode.ensures.err)

pub returns-clause-exact : goal.returns-clause-exact
returns-clause-exact c =
    let other : bytes_eq c.args.word.now (codes "-") ≡ false = ap (bytes_eq c.args.word.now) (sym c.as_slice.ensures) ∙ sym c.if-eq.ensures in
    rw (bytes_of_word-hex c.args.word.now other (sym c.if-is_empty.ensures), c.in_ok-decode.ensures.ok, c.from_vec-2.ensures) refl

pub returns-clause-bytes : goal.returns-clause-bytes
returns-clause-bytes c =
    let fits = decode_of-ok c.args.word.now c.in_ok-decode.field-0.items c.in_ok-decode.ensures.ok in
    rw c.from_vec-2.ensures (All-from_get_or (λ b. b < 256) _ 0 (λ i within. fits.3 i))
