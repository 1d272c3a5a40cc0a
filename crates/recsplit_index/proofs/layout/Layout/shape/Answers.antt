use Rattle.std.proofs.Common.{ap, length, arith}
use Rattle.recsplit_index.proofs.layout.Layout.shape.Goals as goal

pub returns : goal.returns
returns c = λ x h. record {
  form_is = h.form_is;
  salt_is = h.salt_is;
  starts_is = omega (arith, c.len.ensures, ap length h.starts_are);
  count_is = omega (arith, c.len-2.ensures, ap length h.offsets_are);
  bits_is = h.bits_is;
  starts_fit = h.starts_fit;
  offsets_fit = h.offsets_fit;
}
