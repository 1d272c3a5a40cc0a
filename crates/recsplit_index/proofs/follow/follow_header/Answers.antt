use Rattle.std.proofs.Common.{ℕ, List, refl, subst}
use Rattle.recsplit_index.specs.Layout.{Follows}
use Rattle.recsplit_index.proofs.Followings.{follows_first, header_is}
use Rattle.recsplit_index.proofs.follow.follow_header.Goals as goal

pub returns-clause-text : goal.returns-clause-text
returns-clause-text c =
    let bytes = c.args.bytes.now in
    let magic = follows_first bytes c.to_be_bytes.result c.follow-magic.result c.follow-magic.ensures.end c.follow-magic.ensures.place in
    let parts = header_is c.to_be_bytes.result _ c.to_be_bytes-2.result c.args.form c.args.salt c.args.count c.to_be_bytes.ensures refl c.to_be_bytes-2.ensures in
    subst (λ (t : List ℕ). Follows bytes 0 t c.follow_on.result) parts (c.follow_on.ensures.text 0 _ (c.follow_on-forms.ensures.text 0 _ magic))
