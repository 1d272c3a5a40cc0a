use Rattle.std.proofs.Common.{◌∙◌}
use Rattle.recsplit_index.specs.Spelling.{spelling}
use Rattle.recsplit_index.specs.Index.{split_index}
use Rattle.recsplit_index.proofs.Comparisons.{nodes_followed, nodes_shape}
use Rattle.recsplit_index.proofs.compare.with_nodes.Goals as goal

pub returns : goal.returns
returns c = λ nodes h.
    let bytes = c.args.bytes.now in
    let f = c.args.followed in
    let whole = nodes_followed bytes c.args.salt f nodes c.follow_header-header.result c.join.result c.join-numbers.result c.follow_on-reached.result c.as_slice.result.now h (c.as_slice.ensures ∙ c.finish-text.ensures.text) c.follow_header-header.ensures.text c.join.ensures.text c.join-numbers.ensures.text
    c.follow_on-reached.ensures.text
    in
    record { shape_is = nodes_shape bytes c.args.salt c.len-bits.result f nodes h c.len-bits.ensures; place_is = c.place_of.ensures (spelling (split_index c.args.salt nodes)) whole }
