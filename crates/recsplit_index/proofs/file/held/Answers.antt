use Rattle.std.proofs.Common.{◌∙◌}
use Rattle.recsplit_index.proofs.Layings.{laid_same}
use Rattle.recsplit_index.proofs.file.held.Goals as goal

pub hold-requires : goal.hold-requires
hold-requires c =
    let x = c.requires.0 in
    let is = c.requires.1 in
    (x, c.shape.ensures x is, c.from_vec.ensures ∙ (rw (c.as_slice.ensures.value, c.as_slice-2.ensures.value, c.as_slice-3.ensures) at c.in_ok-bytes.ensures) ∙ laid_same c.args.layout.now x is)

pub returns : goal.returns
returns c = λ x is.
    c.hold.ensures x (c.shape.ensures x is) (c.from_vec.ensures ∙ (rw (c.as_slice.ensures.value, c.as_slice-2.ensures.value, c.as_slice-3.ensures) at c.in_ok-bytes.ensures) ∙ laid_same c.args.layout.now x is)
