use Rattle.std.proofs.Common.{List, Option, subst}
use Rattle.std.specs.Option.{option_map}
use Rattle.std.proofs.lemmas.Result.{IfOk-weaker}
use Rattle.recsplit_index.specs.Nodes.{Node}
use Rattle.recsplit_index.specs.Parts.{AreParts}
use Rattle.recsplit_index.proofs.PartLists.{halves, cut_at}
use Rattle.recsplit_index.proofs.parts.+parts_of.Goals as goal

pub returns : goal.returns
returns t c =
    let front = c.split_at.result.0.now in
    let behind = c.split_at.result.1.now in
    let same = halves c.args.tries c.args.groups.now front behind (cut_at _ c.args.groups.now front behind c.split_at.ensures.front c.split_at.ensures.back) in
    IfOk-weaker c.joined.result _ _ (λ parts are. subst (λ (o : Option (List Node)). AreParts (option_map (λ v. v.items) parts) o) same are) (c.joined.ensures _ _ c.in_ok-first.ensures c.in_ok-others.ensures)
