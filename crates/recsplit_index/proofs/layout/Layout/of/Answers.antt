use Rattle.std.proofs.Common.{refl, arith}
use Rattle.file_numbers.proofs.Listed.{are_numbers_within}
use Rattle.recsplit_index.proofs.layout.Layout.of.Goals as goal

pub returns : goal.returns
returns c = record {
  form_is = refl;
  salt_is = refl;
  starts_are = refl;
  offsets_are = refl;
  bits_is = c.len-bits.ensures;
  text_is = c.finish-text.ensures.text;
  back = c.finish-text.ensures.back;
  starts_fit = are_numbers_within c.args.starts.items (λ i lt. omega arith);
  offsets_fit = are_numbers_within c.args.offsets.items (λ i lt. omega arith);
}
