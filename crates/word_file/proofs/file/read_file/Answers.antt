use Rattle.std.proofs.Common.{ap, ◌∙◌, arith, length}
use Rattle.std.proofs.lemmas.Result.{err_from_is_err_and}
use Rattle.word_file.specs.Reading.{checked_count}
use Rattle.word_file.proofs.Headers.{refused, accepted, held_long}
use Rattle.word_file.proofs.file.read_file.Goals as goal

pub returns-in_err-count-clause-exact : goal.returns-in_err-count-clause-exact
returns-in_err-count-clause-exact c =
    let p = err_from_is_err_and c.from_residual.result c.from_residual.ensures.1 in
    rw (p.1, p.2) (refused c.args.bytes c.in_err-count.field-0.0 (c.in_err-count.ensures.count ∙ ap checked_count c.as_slice.ensures))

pub tag_of-tag-requires : goal.tag_of-tag-requires
tag_of-tag-requires c = omega (arith, ap length c.as_slice-2.ensures, ap length c.as_slice.ensures, held_long c.in_ok-count.ensures.held)

pub returns-clause-exact : goal.returns-clause-exact
returns-clause-exact c =
    rw (c.tag_of-tag.ensures, c.as_slice-2.ensures) (accepted c.args.bytes c.in_ok-count.count (c.in_ok-count.ensures.count ∙ ap checked_count c.as_slice.ensures))
