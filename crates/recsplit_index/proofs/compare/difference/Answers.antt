use Rattle.std.proofs.Common.{ℕ, List, subst, arith}
use Rattle.recsplit_index.specs.Spelling.{laid_out}
use Rattle.recsplit_index.specs.Layout.{Follows}
use Rattle.recsplit_index.proofs.Followings.{laid_by}
use Rattle.recsplit_index.proofs.compare.difference.Goals as goal

pub returns : goal.returns
returns c =
    let l = c.args.layout.now in
    let whole = laid_out l.form l.salt l.starts.items l.offsets.items l.text in
    let parts = laid_by l.form l.salt c.len-count.result c.as_slice.result.now c.as_slice-2.result.now c.as_slice-3.result.now l.starts.items l.offsets.items l.text (omega (arith, c.len-count.ensures)) c.as_slice.ensures.value c.as_slice-2.ensures.value c.as_slice-3.ensures in
    let all = c.follow_on.ensures.text 0 _ (c.follow_numbers-offsets.ensures.text 0 _ (c.follow_numbers-starts.ensures.text 0 _ c.follow_header-header.ensures.text)) in
    c.place_of.ensures whole (subst (λ (t : List ℕ). Follows c.args.bytes.now 0 t c.follow_on.result) parts all)
