use Rattle.std.proofs.Common.{◌+◌, ◌*◌, ℕ, length, ap, ◌∙◌, arith}
use Rattle.std.proofs.lemmas.Result.{err_from_is_err_and}
use Rattle.word_file.specs.Spelling.{offset_of}
use Rattle.word_file.proofs.Agreements.{goes_far}
use Rattle.btree_index.proofs.Comparisons.{begins, goes_on, parts, ends}
use Rattle.btree_index.proofs.compare.after_walked.Goals as goal

pub loop-next-init : goal.loop-next-init
loop-next-init c = begins c.args.words.now.words c.args.bytes.now c.args.j c.args.at c.first-next.result c.requires.at c.first-next.ensures.value

pub returns-in_err-end-clause-place : goal.returns-in_err-end-clause-place
returns-in_err-end-clause-place c =
    let p = err_from_is_err_and c.from_residual.result c.from_residual.ensures.1 in
    rw (p.1, p.2) (parts c.in-Some.key c.in_err-end.field-0.0 c.to_be_bytes.result c.requires.paired c.in-Some.is c.to_be_bytes.ensures c.in_err-end.ensures.place c.loop-next.invariant)

pub loop-next-smaller : goal.loop-next-smaller
loop-next-smaller c =
    let far = goes_far c.loop-next.invariant.goes_on.within c.in_ok-end.ensures.end in
    omega (arith, far, c.in_ok-end.ensures.end.within, ap length c.to_be_bytes.ensures)

pub loop-next-preserved : goal.loop-next-preserved
loop-next-preserved c =
    goes_on c.in-Some.key c.in_ok-end.end c.to_be_bytes.result c.key_on-next.result c.requires.paired c.in-Some.is c.to_be_bytes.ensures c.in_ok-end.ensures.end
    (λ i place. c.key_on-next.ensures i place ∙ ap (λ (s : ℕ). offset_of c.args.words.now.words (i + 2 * s)) c.stride_of-stride.ensures.value) c.loop-next.invariant

pub returns-clause-end : goal.returns-clause-end
returns-clause-end c = ends c.requires.paired c.in_default.is c.loop-next.invariant
