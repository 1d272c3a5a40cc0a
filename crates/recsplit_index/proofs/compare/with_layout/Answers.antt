use Rattle.recsplit_index.proofs.Comparisons.{layout_place}
use Rattle.recsplit_index.proofs.compare.with_layout.Goals as goal

pub returns : goal.returns
returns c = λ x h. record { shape_is = c.shape.ensures x h; place_is = layout_place c.args.bytes.now c.args.layout.now x c.difference.result h c.difference.ensures }
