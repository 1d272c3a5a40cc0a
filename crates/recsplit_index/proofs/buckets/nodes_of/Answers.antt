use Rattle.std.proofs.Common.{◌∙◌, ap, List, Option, subst}
use Rattle.std.proofs.lemmas.Result.{IfOk-weaker}
use Rattle.recsplit_index.specs.Keys.{hashed_keys}
use Rattle.recsplit_index.specs.Nodes.{Node}
use Rattle.recsplit_index.specs.Index.{HoldsAll}
use Rattle.recsplit_index.proofs.KeyLists.{bucket_number}
use Rattle.recsplit_index.proofs.PartLists.{lists_in, bucket_nodes}
use Rattle.recsplit_index.proofs.buckets.nodes_of.Goals as goal

pub returns : goal.returns
returns g c =
    let keys = hashed_keys c.args.salt c.args.words.now.words in
    let b = c.bucket_count.result in
    let number = bucket_number c.args.salt c.args.words.now.words c.count-count.result b c.count-count.ensures.count c.bucket_count.ensures.value in
    let same = bucket_nodes c.args.tries b keys c.as_slice.result.now number (ap lists_in c.as_slice.ensures.value ∙ c.in_ok-groups.ensures) in
    IfOk-weaker c.all_built.result _ _ (λ built holds. subst (λ (o : Option (List Node)). HoldsAll built o) same holds) (c.all_built.ensures _ c.in_ok-parts.ensures)
