use Rattle.std.proofs.Common.{List, Option, IfOk, subst}
use Rattle.std.specs.Option.{option_map}
use Rattle.std.proofs.lemmas.Result.{IfOk-weaker}
use Rattle.recsplit_index.specs.Nodes.{Node}
use Rattle.recsplit_index.specs.Parts.{AreParts, nodes_in}
use Rattle.recsplit_index.proofs.PartLists.{lists_in, halves, cut_at}
use Rattle.recsplit_index.proofs.parts.+fn-parts_side_by_side-join+arg2+fn-parts_side_by_side-join+arg3+parts_side_by_side.Goals as goal

pub returns : goal.returns
returns g t c =
    let front = c.split_at.result.0.now in
    let behind = c.split_at.result.1.now in
    let same = halves c.args.tries c.args.groups.now front behind (cut_at _ c.args.groups.now front behind c.split_at.ensures.front c.split_at.ensures.back) in
    let first = subst (λ r. IfOk r (λ parts. AreParts (option_map (λ v. v.items) parts) (nodes_in c.args.tries (lists_in front)))) c.in_ok-first.was c.join-first.ensures.first in
    let others = subst (λ r. IfOk r (λ parts. AreParts (option_map (λ v. v.items) parts) (nodes_in c.args.tries (lists_in behind)))) c.in_ok-others.was c.join-first.ensures.second in
    IfOk-weaker c.joined.result _ _ (λ parts are. subst (λ (o : Option (List Node)). AreParts (option_map (λ v. v.items) parts) o) same are) (c.joined.ensures _ _ first others)
